use Rattle.std.proofs.Common.{refl, sym, ◌∙◌, ap, subst, List, ℕ, ◌≤◌, [], false, length, IsTrue}
use Rattle.disk_model.specs.Store.{Store}
use Rattle.image_format.specs.Image.{Image}
use Rattle.image_chain.specs.ChainView.{ChainView}
use Rattle.image_chain.specs.Lists.{Rests}
use Rattle.machine_code.specs.State.{State}
use Rattle.life_journal.proofs.BesideLaws.{rests_beside}
use Rattle.ckpt_runner.specs.declared.started.Started.TheVariants.{Resumed}
use Rattle.ckpt_runner.specs.Arguments.{given_as}
use Rattle.ckpt_runner.specs.LifeView.{LifeView, Idle}
use Rattle.ckpt_runner.proofs.RecoveredLaws.{looked_images}
use Rattle.ckpt_runner.proofs.ResumedLaws.{IsResumedLife, new_room, resumed_at, resumed_fit, resumed_is, resumed_lives, resumed_opened, resumed_sound, resumed_starts}
use Rattle.ckpt_runner.proofs.GoodOpening.{looked_standing, looked_later, standing_twice, cut_standing, cut_later, resumed_opened_good}
use Rattle.ckpt_runner.proofs.StandingThen.{images_after}
use Rattle.ckpt_runner.proofs.resuming.resume.Goals as goal

pub recovered-requires-clause-room : goal.recovered-requires-clause-room
recovered-requires-clause-room g c = new_room _ _ _ _ _ _ c.requires.memory

pub resume-requires-clause-within : goal.resume-requires-clause-within
resume-requires-clause-within g c = λ tells.
    let told = subst IsTrue c.recovered.ensures.looked.tells tells in
    subst (λ (s : Store). c.in_ok-newest.newest.output_length ≤ length s.output) (sym (c.recovered.ensures.looked.seen told)) (c.in_ok-newest.ensures.written told)

pub resume-requires-clause-rests : goal.resume-requires-clause-rests
resume-requires-clause-rests g c = λ tells.
    let u = g.D.Disk.view c.args.disk.now in
    let v = g.D.Disk.view c.recovered.new.disk in
    let told = subst IsTrue c.recovered.ensures.looked.tells tells in
    let found = c.requires.rests told in
    (found.0, rests_beside c.args.chain u v found.0 (looked_images u v told c.recovered.ensures.looked) found.1, found.2)

pub invariant_of-result : goal.invariant_of-result
invariant_of-result g c =
    let given = c.args.given in
    let kept = c.args.rooms.journal.kept in
    let newest = c.in_ok-newest.newest in
    let memory = c.stand_behind.new.memory in
    let life : LifeView = record { compiled = given.compiled.now; marks = given.marks; input = given.input.now; pace = given.how.pace.now; machine = memory.machine; frames = memory.frames; copies = memory.copies; pages = memory.pages; progress = c.progress_behind.result; journal = c.in_ok-journal.journal; writer = Idle; started = Resumed newest.number newest.steps; failed = false; finished = false } in
    let is : IsResumedLife life kept given.how.fill newest = resumed_is life kept given.how.fill newest c.args.rooms.memory.machine c.args.rooms.memory.frames c.args.rooms.memory.copies c.recovered.new.frames c.args.rooms.memory.pages c.requires.memory c.in_ok-newest.ensures.newest.1
    c.in_ok-newest.ensures.words c.recovered.ensures.size c.stand_behind.ensures.frames c.stand_behind.ensures.pages c.stand_behind.ensures.state c.progress_behind.ensures.answer c.in_ok-journal.ensures.output refl in
    resumed_sound (given_as given) life kept given.how.fill newest is c.in_ok-newest.ensures.restarts refl refl refl c.requires.memory.runs c.stand_behind.ensures.stands
    (resumed_fit given.compiled.now.code c.args.rooms.memory.frames memory.frames c.args.rooms.memory.pages memory.pages c.requires.memory.fit (ap (λ (l : List ℕ). length l) c.stand_behind.ensures.frames ∙ c.recovered.ensures.size) c.stand_behind.ensures.pages)
    (ap (λ (l : List ℕ). length l) c.stand_behind.ensures.copies ∙ c.requires.memory.copies_are ∙ sym (ap (λ (l : List ℕ). length l) c.stand_behind.ensures.frames ∙ c.recovered.ensures.size))
    c.requires.short c.in_ok-journal.ensures.whole (ap (λ (x : ChainView). x.current.newest) c.in_ok-journal.ensures.chain ∙ c.in_ok-newest.ensures.newest.0)

pub returns-clause-opens : goal.returns-clause-opens
returns-clause-opens g c = λ told.
    let u = g.D.Disk.view c.args.disk.now in
    let v = g.D.Disk.view c.recovered.new.disk in
    let w = g.D.Disk.view c.resume.new.disk in
    let looked = c.recovered.ensures.looked in
    let found = c.requires.rests told in
    let beside = rests_beside c.args.chain u v found.0 (looked_images u v told looked) found.1 in
    let given = c.args.given in
    let kept = c.args.rooms.journal.kept in
    let newest = c.in_ok-newest.newest in
    let memory = c.stand_behind.new.memory in
    let life : LifeView = record { compiled = given.compiled.now; marks = given.marks; input = given.input.now; pace = given.how.pace.now; machine = memory.machine; frames = memory.frames; copies = memory.copies; pages = memory.pages; progress = c.progress_behind.result; journal = c.in_ok-journal.journal; writer = Idle; started = Resumed newest.number newest.steps; failed = false; finished = false } in
    let is : IsResumedLife life kept given.how.fill newest = resumed_is life kept given.how.fill newest c.args.rooms.memory.machine c.args.rooms.memory.frames c.args.rooms.memory.copies c.recovered.new.frames c.args.rooms.memory.pages c.requires.memory c.in_ok-newest.ensures.newest.1
    c.in_ok-newest.ensures.words c.recovered.ensures.size c.stand_behind.ensures.frames c.stand_behind.ensures.pages c.stand_behind.ensures.state c.progress_behind.ensures.answer c.in_ok-journal.ensures.output refl in
    resumed_opened (given_as given) life kept newest c.args.chain u v w found.0 told (g.met.D.Disk.lawful c.args.disk.now told) looked found.1 found.2 c.in_ok-journal.ensures.chain
    (c.in_ok-journal.ensures.holds (subst IsTrue (sym looked.tells) told) found.0 beside found.2) refl refl refl is c.in_ok-newest.ensures.restarts c.in_ok-newest.ensures.newest.0 (c.in_ok-newest.ensures.written told)

pub returns-clause-lives : goal.returns-clause-lives
returns-clause-lives g c =
    let given = c.args.given in
    let kept = c.args.rooms.journal.kept in
    let newest = c.in_ok-newest.newest in
    let memory = c.stand_behind.new.memory in
    let life : LifeView = record { compiled = given.compiled.now; marks = given.marks; input = given.input.now; pace = given.how.pace.now; machine = memory.machine; frames = memory.frames; copies = memory.copies; pages = memory.pages; progress = c.progress_behind.result; journal = c.in_ok-journal.journal; writer = Idle; started = Resumed newest.number newest.steps; failed = false; finished = false } in
    let is : IsResumedLife life kept given.how.fill newest = resumed_is life kept given.how.fill newest c.args.rooms.memory.machine c.args.rooms.memory.frames c.args.rooms.memory.copies c.recovered.new.frames c.args.rooms.memory.pages c.requires.memory c.in_ok-newest.ensures.newest.1
    c.in_ok-newest.ensures.words c.recovered.ensures.size c.stand_behind.ensures.frames c.stand_behind.ensures.pages c.stand_behind.ensures.state c.progress_behind.ensures.answer c.in_ok-journal.ensures.output refl in
    (resumed_at life newest [] [], resumed_starts (given_as given) life kept given.how.fill newest.number newest [] [] refl c.in_ok-newest.ensures.restarts.node is, resumed_lives life kept given.how.fill newest [] [] is)

pub returns-clause-ticks : goal.returns-clause-ticks
returns-clause-ticks g c = ap (λ (s : State). s.ticks) c.stand_behind.ensures.state.2

pub returns-clause-given : goal.returns-clause-given
returns-clause-given g c =
    let ticks = ap (λ (s : State). s.ticks) c.stand_behind.ensures.state.2 in
    (record { compiled = refl; marks = refl; input = refl; within = subst (λ (k : ℕ). k ≤ c.args.given.how.until) (sym ticks) c.in_ok-newest.ensures.restarts.within }, refl)

pub returns-clause-good : goal.returns-clause-good
returns-clause-good g c = λ told s source stand.
    let u = g.D.Disk.view c.args.disk.now in
    let v = g.D.Disk.view c.recovered.new.disk in
    let w = g.D.Disk.view c.resume.new.disk in
    let looked = c.recovered.ensures.looked in
    let found = c.requires.rests told in
    let beside = rests_beside c.args.chain u v found.0 (looked_images u v told looked) found.1 in
    let given = c.args.given in
    let kept = c.args.rooms.journal.kept in
    let newest = c.in_ok-newest.newest in
    let memory = c.stand_behind.new.memory in
    let life : LifeView = record { compiled = given.compiled.now; marks = given.marks; input = given.input.now; pace = given.how.pace.now; machine = memory.machine; frames = memory.frames; copies = memory.copies; pages = memory.pages; progress = c.progress_behind.result; journal = c.in_ok-journal.journal; writer = Idle; started = Resumed newest.number newest.steps; failed = false; finished = false } in
    let is : IsResumedLife life kept given.how.fill newest = resumed_is life kept given.how.fill newest c.args.rooms.memory.machine c.args.rooms.memory.frames c.args.rooms.memory.copies c.recovered.new.frames c.args.rooms.memory.pages c.requires.memory c.in_ok-newest.ensures.newest.1
    c.in_ok-newest.ensures.words c.recovered.ensures.size c.stand_behind.ensures.frames c.stand_behind.ensures.pages c.stand_behind.ensures.state c.progress_behind.ensures.answer c.in_ok-journal.ensures.output refl in
    let here = subst IsTrue (sym looked.tells) told in
    resumed_opened_good c.newest_images_need_most.ensures.law (record { stand = c.resumed_lives_hold_their_records.ensures.stand; held = c.resumed_lives_hold_their_records.ensures.held }) c.resumed_lives_are_of_their_source.ensures.law
    (given_as given) life kept newest c.args.chain u v w found.0 s told (g.met.D.Disk.lawful c.args.disk.now told) (g.met.D.Disk.lawful c.recovered.new.disk here) looked found.1 beside found.2 c.in_ok-journal.ensures.chain c.in_ok-journal.ensures.output
    (c.in_ok-journal.ensures.holds here found.0 beside found.2) refl refl refl is c.in_ok-newest.ensures.restarts c.in_ok-newest.ensures.newest.0 (c.in_ok-newest.ensures.written told) (c.resume.ensures.any_moment here found.0 beside) source stand

pub returns-in_err-newest-clause-moments : goal.returns-in_err-newest-clause-moments
returns-in_err-newest-clause-moments g c =
    let u = g.D.Disk.view c.args.disk.now in
    let v = g.D.Disk.view c.recovered.new.disk in
    looked_standing u v (g.met.D.Disk.lawful c.args.disk.now) (g.met.D.Disk.tells_all c.args.disk.now) c.recovered.ensures.looked

pub returns-in_err-newest-clause-later : goal.returns-in_err-newest-clause-later
returns-in_err-newest-clause-later g c =
    let u = g.D.Disk.view c.args.disk.now in
    let v = g.D.Disk.view c.recovered.new.disk in
    looked_later u v (g.met.D.Disk.lawful c.args.disk.now) (g.met.D.Disk.tells_all c.args.disk.now) c.recovered.ensures.looked

pub returns-in_err-journal-clause-moments : goal.returns-in_err-journal-clause-moments
returns-in_err-journal-clause-moments g c =
    let u = g.D.Disk.view c.args.disk.now in
    let v = g.D.Disk.view c.recovered.new.disk in
    let w = g.D.Disk.view c.resume.new.disk in
    let looked = c.recovered.ensures.looked in
    let rests : IsTrue v.tells → (rs : List Image) × Rests c.args.chain v rs = λ here.
    let told = subst IsTrue looked.tells here in
    let found = c.requires.rests told in
    (found.0, rests_beside c.args.chain u v found.0 (looked_images u v told looked) found.1) in
    standing_twice u v w (g.met.D.Disk.tells_all c.args.disk.now) looked.tells (looked_standing u v (g.met.D.Disk.lawful c.args.disk.now) (g.met.D.Disk.tells_all c.args.disk.now) c.recovered.ensures.looked)
    (cut_standing c.in_ok-newest.newest c.args.chain v w c.in_ok-newest.ensures.newest.0 c.newest_images_need_most.ensures.law rests c.resume.ensures.any_moment)

pub returns-in_err-journal-clause-later : goal.returns-in_err-journal-clause-later
returns-in_err-journal-clause-later g c =
    let u = g.D.Disk.view c.args.disk.now in
    let v = g.D.Disk.view c.recovered.new.disk in
    let w = g.D.Disk.view c.resume.new.disk in
    let looked = c.recovered.ensures.looked in
    let rests : IsTrue v.tells → (rs : List Image) × Rests c.args.chain v rs = λ here.
    let told = subst IsTrue looked.tells here in
    let found = c.requires.rests told in
    (found.0, rests_beside c.args.chain u v found.0 (looked_images u v told looked) found.1) in
    images_after u v w (g.met.D.Disk.tells_all c.args.disk.now) looked.tells (looked_later u v (g.met.D.Disk.lawful c.args.disk.now) (g.met.D.Disk.tells_all c.args.disk.now) c.recovered.ensures.looked)
    (cut_later c.in_ok-newest.newest c.args.chain v w c.in_ok-newest.ensures.newest.0 rests c.resume.ensures.any_moment)

pub returns-clause-moments : goal.returns-clause-moments
returns-clause-moments g c =
    let u = g.D.Disk.view c.args.disk.now in
    let v = g.D.Disk.view c.recovered.new.disk in
    let w = g.D.Disk.view c.resume.new.disk in
    let looked = c.recovered.ensures.looked in
    let rests : IsTrue v.tells → (rs : List Image) × Rests c.args.chain v rs = λ here.
    let told = subst IsTrue looked.tells here in
    let found = c.requires.rests told in
    (found.0, rests_beside c.args.chain u v found.0 (looked_images u v told looked) found.1) in
    standing_twice u v w (g.met.D.Disk.tells_all c.args.disk.now) looked.tells (looked_standing u v (g.met.D.Disk.lawful c.args.disk.now) (g.met.D.Disk.tells_all c.args.disk.now) c.recovered.ensures.looked)
    (cut_standing c.in_ok-newest.newest c.args.chain v w c.in_ok-newest.ensures.newest.0 c.newest_images_need_most.ensures.law rests c.resume.ensures.any_moment)

pub returns-clause-later : goal.returns-clause-later
returns-clause-later g c =
    let u = g.D.Disk.view c.args.disk.now in
    let v = g.D.Disk.view c.recovered.new.disk in
    let w = g.D.Disk.view c.resume.new.disk in
    let looked = c.recovered.ensures.looked in
    let rests : IsTrue v.tells → (rs : List Image) × Rests c.args.chain v rs = λ here.
    let told = subst IsTrue looked.tells here in
    let found = c.requires.rests told in
    (found.0, rests_beside c.args.chain u v found.0 (looked_images u v told looked) found.1) in
    images_after u v w (g.met.D.Disk.tells_all c.args.disk.now) looked.tells (looked_later u v (g.met.D.Disk.lawful c.args.disk.now) (g.met.D.Disk.tells_all c.args.disk.now) c.recovered.ensures.looked)
    (cut_later c.in_ok-newest.newest c.args.chain v w c.in_ok-newest.ensures.newest.0 rests c.resume.ensures.any_moment)
