use Rattle.std.proofs.Common.{⊎_elim, Result, Err, sym, subst}
use Rattle.command_words.specs.Words.{command_of}
use Rattle.disk_model.specs.Keeps.{Untouched}
use Rattle.disk_model.proofs.Keeping.{untouched_still}
use Rattle.disk_model.specs.Plate.{plate}
use Rattle.ckpt_program.specs.Sight.{sight}
use Rattle.ckpt_program.specs.declared.done.Done.{Done}
use Rattle.ckpt_program.specs.declared.stop.Stop.{Stop}
use Rattle.ckpt_program.specs.declared.stop.Stop.TheVariants.{NoMemory}
use Rattle.ckpt_program.proofs.Completeness.{complete}
use Rattle.ckpt_program.proofs.Disks.{stays_moments, stays_lasting, blamed_disk, calm_later}
use Rattle.ckpt_program.proofs.Drilling.{drills_as_source}
use Rattle.ckpt_program.proofs.Lasting.{lasts_refused, ends_as_source, in_order, none_told, output_lasting}
use Rattle.ckpt_program.proofs.top.ckpt.Goals as goal

pub returns-clause-answer : goal.returns-clause-answer
returns-clause-answer g c = ⊎_elim (λ told. (c.come_to-came.result, c.come_to-came.ensures.answer, told)) (λ told. (Err NoMemory, tt, told)) c.tell.ensures.answer

pub returns-clause-ends_as_source : goal.returns-clause-ends_as_source
returns-clause-ends_as_source g c =
    let shelf = sight (g.H.Shelf.view c.args.shelf.now) in
    let v = g.D.Disk.view c.args.disk.now in
    let w = g.D.Disk.view c.come_to-came.new.disk in
    let console = g.K.Sink.view in
    let words = c.args.words.now.items in
    let command = command_of words in
    ⊎_elim (λ told. ends_as_source words command shelf v w c.come_to-came.result (console c.args.console.now) (console c.tell.new.console) c.tell.result c.come_to-came.ensures.told told)
    (λ told. ends_as_source words command shelf v w (Err NoMemory) (console c.args.console.now) (console c.tell.new.console) c.tell.result (none_told words command shelf v w NoMemory) told) c.tell.ensures.answer

pub returns-clause-any_moment : goal.returns-clause-any_moment
returns-clause-any_moment g c =
    let v = g.D.Disk.view c.args.disk.now in
    (λ kept. stays_moments v (g.D.Disk.view c.come_to-came.new.disk) v.may_leave (g.met.D.Disk.tells_all c.args.disk.now) (c.come_to-came.ensures.stays kept) (λ t s left. left), c.come_to-came.ensures.moments)

pub returns-clause-untouched : goal.returns-clause-untouched
returns-clause-untouched g c =
    let v = g.D.Disk.view c.args.disk.now in
    let w = g.D.Disk.view c.come_to-came.new.disk in
    let words = c.args.words.now.items in (
      λ quiet. subst (λ d. Untouched v (g.D.Disk.view d)) (sym (c.come_to-came.ensures.quiet quiet)) (untouched_still v),
      ⊎_elim (λ kept. stays_lasting v w (c.come_to-came.ensures.stays kept)) (λ not. lasts_refused words (command_of words) (sight (g.H.Shelf.view c.args.shelf.now)) (sight (g.H.Shelf.view c.come_to-came.new.shelf)) v w c.come_to-came.result c.tell.result c.come_to-came.ensures.answer c.come_to-came.ensures.keeps c.come_to-came.ensures.stays c.tell.ensures.fixed c.tell.ensures.at_hand not),
    )

pub returns-clause-lasting : goal.returns-clause-lasting
returns-clause-lasting g c =
    let w = g.D.Disk.view c.come_to-came.new.disk in
    let command = command_of c.args.words.now.items in
    let console = g.K.Sink.view in
    ⊎_elim (λ told. output_lasting command w c.come_to-came.result (console c.args.console.now) (console c.tell.new.console) c.tell.result c.come_to-came.ensures.lasting told)
    (λ told. output_lasting command w (Err NoMemory) (console c.args.console.now) (console c.tell.new.console) c.tell.result (λ life. tt) told) c.tell.ensures.answer

pub returns-clause-blamed_disk : goal.returns-clause-blamed_disk
returns-clause-blamed_disk g c = blamed_disk c.come_to-came.result _ _ c.tell.result c.come_to-came.ensures.count c.tell.ensures.fixed

pub returns-clause-complete : goal.returns-clause-complete
returns-clause-complete g c =
    let shelf = g.H.Shelf.view in
    let console = g.K.Sink.view in
    let disk = g.D.Disk.view in
    let words = c.args.words.now.items in
    let at = complete c.standing_stores_are_accepted.ensures.law words (command_of words) (shelf c.args.shelf.now) (shelf c.come_to-came.new.shelf) (disk c.args.disk.now) (disk c.come_to-came.new.disk) (console c.args.console.now) (console c.tell.new.console) c.tell.result in
    ⊎_elim (λ told. at c.come_to-came.result (λ told_it. (g.met.D.Disk.lawful c.args.disk.now told_it).seen_stays) c.come_to-came.ensures.answer told) (λ told. at (Err NoMemory) (λ told_it. (g.met.D.Disk.lawful c.args.disk.now told_it).seen_stays) tt told) c.tell.ensures.answer

pub returns-clause-steady : goal.returns-clause-steady
returns-clause-steady g c = (calm_later c.come_to-came.result (sight (g.H.Shelf.view c.args.shelf.now)) (sight (g.H.Shelf.view c.come_to-came.new.shelf)) c.come_to-came.ensures.calm, c.come_to-came.ensures.keeps.steady)

pub returns-clause-in_order : goal.returns-clause-in_order
returns-clause-in_order g c =
    let shelf = sight (g.H.Shelf.view c.args.shelf.now) in
    let v = g.D.Disk.view c.args.disk.now in
    let w = g.D.Disk.view c.come_to-came.new.disk in
    let console = g.K.Sink.view in
    let words = c.args.words.now.items in
    let command = command_of words in
    ⊎_elim (λ told. in_order words command shelf v w c.come_to-came.result (console c.args.console.now) (console c.tell.new.console) c.tell.result c.come_to-came.ensures.told told)
    (λ told. in_order words command shelf v w (Err NoMemory) (console c.args.console.now) (console c.tell.new.console) c.tell.result (none_told words command shelf v w NoMemory) told) c.tell.ensures.answer

pub returns-clause-drills : goal.returns-clause-drills
returns-clause-drills g c =
    let shelf = g.H.Shelf.view in
    let disk = g.D.Disk.view in
    let console = g.K.Sink.view in
    let words = c.args.words.now.items in
    let drilled = λ (o : Result Done Stop). drills_as_source words (command_of words) (sight (shelf c.args.shelf.now)) (sight (shelf c.come_to-came.new.shelf)) (plate (disk c.args.disk.now)) (plate (disk c.come_to-came.new.disk)) o (console c.args.console.now) (console c.tell.new.console) c.tell.result in
    ⊎_elim (λ told. drilled c.come_to-came.result c.come_to-came.ensures.answer told) (λ told. drilled (Err NoMemory) tt told) c.tell.ensures.answer
