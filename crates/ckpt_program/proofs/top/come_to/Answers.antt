use Rattle.std.proofs.Common.{◌∙◌, sym, subst, Option, Err}
use Rattle.command_words.specs.declared.command.Command.{Command}
use Rattle.ckpt_program.specs.Top.{NoImageLost}
use Rattle.std.proofs.lemmas.Result.{err_from_is_err_and}
use Rattle.ckpt_program.specs.Headline.{SourceOf}
use Rattle.ckpt_program.specs.declared.done.Done.{Done}
use Rattle.ckpt_program.specs.declared.stop.Cause.TheVariants as cause
use Rattle.ckpt_program.specs.declared.stop.Stop.TheVariants.{Because}
use Rattle.ckpt_program.specs.Sight.{sight}
use Rattle.command_words.specs.Words.{command_of}
use Rattle.ckpt_program.proofs.Disks.{stays_still}
use Rattle.ckpt_program.proofs.Lasting.{none_told}
use Rattle.ckpt_program.proofs.Living.{keeps_still, standing_stays, images_stay}
use Rattle.ckpt_program.proofs.top.come_to.Goals as goal

pub returns-in_err-command-clause-stays : goal.returns-in_err-command-clause-stays
returns-in_err-command-clause-stays g c = λ kept. stays_still (g.D.Disk.view c.args.disk.now) (g.met.D.Disk.lawful c.args.disk.now)

pub returns-in-None-clause-stays : goal.returns-in-None-clause-stays
returns-in-None-clause-stays g c = λ kept. stays_still (g.D.Disk.view c.args.disk.now) (g.met.D.Disk.lawful c.args.disk.now)

pub returns-in_err-command-clause-keeps : goal.returns-in_err-command-clause-keeps
returns-in_err-command-clause-keeps g c = keeps_still c.from_residual.result (g.D.Disk.view c.args.disk.now)

pub returns-in-None-clause-keeps : goal.returns-in-None-clause-keeps
returns-in-None-clause-keeps g c = keeps_still {A = Done} (Err (Because cause.Usage)) (g.D.Disk.view c.args.disk.now)

pub returns-in_err-command-clause-moments : goal.returns-in_err-command-clause-moments
returns-in_err-command-clause-moments g c =
    let v = g.D.Disk.view c.args.disk.now in
    let words = c.args.words.now.items in
    standing_stays (SourceOf words (command_of words) (sight (g.H.Shelf.view c.args.shelf.now))) v v (g.met.D.Disk.tells_all c.args.disk.now) (stays_still v (g.met.D.Disk.lawful c.args.disk.now))

pub returns-in-None-clause-moments : goal.returns-in-None-clause-moments
returns-in-None-clause-moments g c =
    let v = g.D.Disk.view c.args.disk.now in
    let words = c.args.words.now.items in
    standing_stays (SourceOf words (command_of words) (sight (g.H.Shelf.view c.args.shelf.now))) v v (g.met.D.Disk.tells_all c.args.disk.now) (stays_still v (g.met.D.Disk.lawful c.args.disk.now))

pub returns-in_err-command-clause-later : goal.returns-in_err-command-clause-later
returns-in_err-command-clause-later g c = λ spares. let v = g.D.Disk.view c.args.disk.now in images_stay v v (g.met.D.Disk.tells_all c.args.disk.now) (stays_still v (g.met.D.Disk.lawful c.args.disk.now))

pub returns-in-Some-clause-later : goal.returns-in-Some-clause-later
returns-in-Some-clause-later g c =
    let kept = λ (x : Option Command). NoImageLost x (g.D.Disk.view c.args.disk.now) (g.D.Disk.view c.carry.new.disk) in
    subst kept (sym c.in-Some.is ∙ c.in_ok-command.ensures.answer) c.carry.ensures.later

pub returns-in-None-clause-later : goal.returns-in-None-clause-later
returns-in-None-clause-later g c = λ spares. let v = g.D.Disk.view c.args.disk.now in images_stay v v (g.met.D.Disk.tells_all c.args.disk.now) (stays_still v (g.met.D.Disk.lawful c.args.disk.now))

pub returns-in_err-command-clause-told : goal.returns-in_err-command-clause-told
returns-in_err-command-clause-told g c =
    let v = g.D.Disk.view c.args.disk.now in
    let words = c.args.words.now.items in
    let told = err_from_is_err_and c.from_residual.result c.from_residual.ensures.1 in
    rw told.1 (none_told words (command_of words) (sight (g.H.Shelf.view c.args.shelf.now)) v v told.0)
