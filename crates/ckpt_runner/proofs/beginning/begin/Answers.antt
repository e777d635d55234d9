use Rattle.std.proofs.Common.{refl, take, false}
use Rattle.run_images.specs.Compiled.{cells_in}
use Rattle.run_images.specs.Origin.{begun_at}
use Rattle.ckpt_runner.specs.declared.started.Started.TheVariants.{Begun}
use Rattle.ckpt_runner.specs.LifeView.{LifeView, Idle}
use Rattle.ckpt_runner.specs.Arguments.{given_as}
use Rattle.ckpt_runner.proofs.BeginLaws.{IsNewLife, new_lives, new_kept}
use Rattle.ckpt_runner.proofs.GoodOpening.{begun_of}
use Rattle.ckpt_runner.proofs.GoodStarts.{begun_moments, begun_good}
use Rattle.ckpt_runner.proofs.GoodTaking.{images_begun}
use Rattle.ckpt_runner.proofs.beginning.begin.Goals as goal

pub returns-clause-opens : goal.returns-clause-opens
returns-clause-opens g c = λ told.
    let given = c.args.given in
    let memory = c.args.rooms.memory in
    let u = g.D.Disk.view c.args.disk.now in
    let life : LifeView = record { compiled = given.compiled.now; marks = given.marks; input = given.input.now; pace = given.how.pace.now; machine = memory.machine; frames = c.load_first_words.new.frames; copies = memory.copies; pages = memory.pages; progress = c.at_first.result; journal = c.in_ok-journal.journal; writer = Idle; started = Begun; failed = false; finished = false } in
    let new : IsNewLife life = record { entry = c.requires.memory.entry; words = c.load_first_words.ensures.words; count = c.requires.memory.count; pages = c.requires.memory.pages_are; progress = c.at_first.ensures.answer; output = c.in_ok-journal.ensures.output; writer = refl } in (
      begun_at given.compiled.now given.marks given.how.every given.input.now,
      (c.requires.none told u.seen (g.met.D.Disk.lawful c.args.disk.now told).seen_stays, refl),
      new_lives life given.how.every new c.in_ok-journal.ensures.chain.0,
      new_kept life given.how.every (g.D.Disk.view c.begin.new.disk) new (c.in_ok-journal.ensures.holds told),
    )

pub returns-clause-lives : goal.returns-clause-lives
returns-clause-lives g c =
    let given = c.args.given in
    let memory = c.args.rooms.memory in
    let life : LifeView = record { compiled = given.compiled.now; marks = given.marks; input = given.input.now; pace = given.how.pace.now; machine = memory.machine; frames = c.load_first_words.new.frames; copies = memory.copies; pages = memory.pages; progress = c.at_first.result; journal = c.in_ok-journal.journal; writer = Idle; started = Begun; failed = false; finished = false } in
    let new : IsNewLife life = record { entry = c.requires.memory.entry; words = c.load_first_words.ensures.words; count = c.requires.memory.count; pages = c.requires.memory.pages_are; progress = c.at_first.ensures.answer; output = c.in_ok-journal.ensures.output; writer = refl } in
    (begun_at given.compiled.now given.marks given.how.every given.input.now, refl, new_lives life given.how.every new c.in_ok-journal.ensures.chain.0)

pub returns-clause-good : goal.returns-clause-good
returns-clause-good g c = λ told s is stand.
    let given = c.args.given in
    let memory = c.args.rooms.memory in
    let u = g.D.Disk.view c.args.disk.now in
    let life : LifeView = record { compiled = given.compiled.now; marks = given.marks; input = given.input.now; pace = given.how.pace.now; machine = memory.machine; frames = c.load_first_words.new.frames; copies = memory.copies; pages = memory.pages; progress = c.at_first.result; journal = c.in_ok-journal.journal; writer = Idle; started = Begun; failed = false; finished = false } in
    let new : IsNewLife life = record { entry = c.requires.memory.entry; words = c.load_first_words.ensures.words; count = c.requires.memory.count; pages = c.requires.memory.pages_are; progress = c.at_first.ensures.answer; output = c.in_ok-journal.ensures.output; writer = refl } in
    let of = begun_of c.begun_lives_are_of_their_source.ensures.law (given_as given) s is in (
      begun_at given.compiled.now given.marks given.how.every given.input.now,
      (c.requires.none told u.seen (g.met.D.Disk.lawful c.args.disk.now told).seen_stays, refl),
      new_lives life given.how.every new c.in_ok-journal.ensures.chain.0,
      new_kept life given.how.every (g.D.Disk.view c.begin.new.disk) new (c.in_ok-journal.ensures.holds told),
      of,
      begun_good s given.compiled.now given.marks given.how.every given.input.now (take (cells_in given.compiled.now) c.load_first_words.new.frames) c.in_ok-journal.journal u (g.D.Disk.view c.begin.new.disk) told of c.in_ok-journal.ensures.chain.0
          (c.in_ok-journal.ensures.holds told) (c.begin.ensures.any_moment told),
    )

pub returns-in_err-journal-clause-moments : goal.returns-in_err-journal-clause-moments
returns-in_err-journal-clause-moments g c = λ told s is stand. begun_moments s (g.D.Disk.view c.args.disk.now) (g.D.Disk.view c.begin.new.disk) (c.begin.ensures.any_moment told)

pub returns-in_err-journal-clause-later : goal.returns-in_err-journal-clause-later
returns-in_err-journal-clause-later g c = images_begun (g.D.Disk.view c.args.disk.now) (g.D.Disk.view c.begin.new.disk) (g.met.D.Disk.lawful c.args.disk.now) c.requires.none

pub returns-clause-moments : goal.returns-clause-moments
returns-clause-moments g c = λ told s is stand. begun_moments s (g.D.Disk.view c.args.disk.now) (g.D.Disk.view c.begin.new.disk) (c.begin.ensures.any_moment told)

pub returns-clause-later : goal.returns-clause-later
returns-clause-later g c = images_begun (g.D.Disk.view c.args.disk.now) (g.D.Disk.view c.begin.new.disk) (g.met.D.Disk.lawful c.args.disk.now) c.requires.none
