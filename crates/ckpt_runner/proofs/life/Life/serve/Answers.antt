use Rattle.std.proofs.Common.{sym, ap, subst, ℤ, [], ◌∷◌, map, Some}
use Rattle.std.specs.Fmt.{signed_decimal}
use Rattle.std.proofs.lemmas.Result.{on_ok_weaker}
use Rattle.ckpt_base.specs.Event as run
use Rattle.machine_code.specs.declared.event.Event.{Event}
use Rattle.machine_code.specs.declared.event.Event.TheVariants as machine
use Rattle.paged_machine.specs.RunOn.{Answers, told_by}
use Rattle.ckpt_runner.specs.LifeView.{LifeView}
use Rattle.ckpt_runner.specs.Calls.{Serves}
use Rattle.ckpt_runner.specs.Standing.{ServesStanding}
use Rattle.ckpt_runner.proofs.GoingLaws.{shown_as, served_on, input_on, directive_on}
use Rattle.ckpt_runner.proofs.StoppedLaws.{node_named, directive_there, number_back}
use Rattle.ckpt_runner.proofs.StandingThen.{standing_first, images_first}
use Rattle.ckpt_runner.proofs.life.Life.serve.Goals as goal

pub exclude-requires : goal.exclude-requires
exclude-requires g c =
    let life = c.args.self.now in
    record { there = directive_there life.compiled life.pages life.machine.state life.frames c.in-Exclude.directive c.requires.runs (subst (λ (e : Event). Answers life.compiled.code life.pages life.machine.state life.frames (Some e)) c.in-Exclude.is c.requires.answers) }

pub pass-requires-clause-node : goal.pass-requires-clause-node
pass-requires-clause-node g c =
    let life = c.args.self.now in
    node_named life.compiled life.pages life.machine.state life.frames c.in-Checkpoint.node c.requires.runs (subst (λ (e : Event). Answers life.compiled.code life.pages life.machine.state life.frames (Some e)) c.in-Checkpoint.is c.requires.answers)

pub returns-in-WantsInput-clause-goes : goal.returns-in-WantsInput-clause-goes
returns-in-WantsInput-clause-goes g c = λ o es h.
    let life = c.args.self.now in
    let same = c.give_input.ensures.same in
    input_on o es life c.give_input.new.self (g.D.Disk.view c.args.disk.now) (ap (λ (l : LifeView). l.journal) same) (ap (λ (l : LifeView). l.frames) same) (ap (λ (l : LifeView). l.writer) same) (ap (λ (l : LifeView). l.pages) same)
    (c.give_input.ensures.lives o es (shown_as o es life life.machine.state.ticks c.args.event machine.WantsInput c.in-WantsInput.is h))

pub returns-in-Out-clause-goes : goal.returns-in-Out-clause-goes
returns-in-Out-clause-goes g c =
    let life = c.args.self.now in
    on_ok_weaker c.write.result (λ d o es h.
    served_on o es (run.Byte c.in-Out.byte ∷ []) life c.write.new.self (g.D.Disk.view c.args.disk.now) (g.D.Disk.view c.write.new.disk) (d o es)
    (shown_as o es life life.machine.state.ticks c.args.event (machine.Out c.in-Out.byte) c.in-Out.is h)) c.write.ensures.serves

pub returns-in-OutNumber-clause-goes : goal.returns-in-OutNumber-clause-goes
returns-in-OutNumber-clause-goes g c =
    let life = c.args.self.now in
    let number = c.in-OutNumber.number in
    let u = g.D.Disk.view c.args.disk.now in
    let w = g.D.Disk.view c.write_number.new.disk in
    let back = number_back life.compiled.code life.pages life.machine.state life.frames number (subst (λ (e : Event). Answers life.compiled.code life.pages life.machine.state life.frames (Some e)) c.in-OutNumber.is c.requires.answers) in
    on_ok_weaker c.write_number.result (λ d o es h.
    served_on o es (map run.Byte (signed_decimal number)) life c.write_number.new.self u w
    (subst (λ (z : ℤ). Serves o es (map run.Byte (signed_decimal z)) life u c.write_number.new.self w) back (d o es))
    (shown_as o es life life.machine.state.ticks c.args.event (machine.OutNumber number) c.in-OutNumber.is h)) c.write_number.ensures.serves

pub returns-in-Exclude-clause-goes : goal.returns-in-Exclude-clause-goes
returns-in-Exclude-clause-goes g c = λ o es h.
    let life = c.args.self.now in
    let same = c.exclude.ensures.same in
    directive_on o es c.in-Exclude.directive life c.exclude.new.self (g.D.Disk.view c.args.disk.now) (ap (λ (l : LifeView). l.journal) same) (ap (λ (l : LifeView). l.frames) same) (ap (λ (l : LifeView). l.writer) same) (ap (λ (l : LifeView). l.pages) same)
    (c.exclude.ensures.lives o es (shown_as o es life life.machine.state.ticks c.args.event (machine.Exclude c.in-Exclude.directive) c.in-Exclude.is h))

pub returns-in-Checkpoint-clause-goes : goal.returns-in-Checkpoint-clause-goes
returns-in-Checkpoint-clause-goes g c =
    let life = c.args.self.now in
    on_ok_weaker c.pass.result (λ d o es h.
    served_on o es (run.Checkpoint c.in-Checkpoint.node life.machine.state.ticks ∷ []) life c.pass.new.self (g.D.Disk.view c.args.disk.now) (g.D.Disk.view c.pass.new.disk) (d o es)
    (shown_as o es life life.machine.state.ticks c.args.event (machine.Checkpoint c.in-Checkpoint.node) c.in-Checkpoint.is h)) c.pass.ensures.serves

pub returns-in-WantsInput-clause-moments : goal.returns-in-WantsInput-clause-moments
returns-in-WantsInput-clause-moments g c =
    let life = c.args.self.now in
    standing_first (told_by life.machine.state.ticks (Some c.args.event)) life (g.D.Disk.view c.args.disk.now) (g.met.D.Disk.lawful c.args.disk.now) (g.met.D.Disk.tells_all c.args.disk.now)

pub returns-in-WantsInput-clause-later : goal.returns-in-WantsInput-clause-later
returns-in-WantsInput-clause-later g c = images_first (g.D.Disk.view c.args.disk.now) (g.met.D.Disk.lawful c.args.disk.now) (g.met.D.Disk.tells_all c.args.disk.now)

pub returns-in-Exclude-clause-moments : goal.returns-in-Exclude-clause-moments
returns-in-Exclude-clause-moments g c =
    let life = c.args.self.now in
    standing_first (told_by life.machine.state.ticks (Some c.args.event)) life (g.D.Disk.view c.args.disk.now) (g.met.D.Disk.lawful c.args.disk.now) (g.met.D.Disk.tells_all c.args.disk.now)

pub returns-in-Exclude-clause-later : goal.returns-in-Exclude-clause-later
returns-in-Exclude-clause-later g c = images_first (g.D.Disk.view c.args.disk.now) (g.met.D.Disk.lawful c.args.disk.now) (g.met.D.Disk.tells_all c.args.disk.now)

pub returns-in-Out-clause-moments : goal.returns-in-Out-clause-moments
returns-in-Out-clause-moments g c =
    let life = c.args.self.now in
    subst (λ (e : Event). ServesStanding (told_by life.machine.state.ticks (Some e)) life (g.D.Disk.view c.args.disk.now) (g.D.Disk.view c.write.new.disk)) (sym c.in-Out.is) c.write.ensures.moments

pub returns-in-Checkpoint-clause-moments : goal.returns-in-Checkpoint-clause-moments
returns-in-Checkpoint-clause-moments g c =
    let life = c.args.self.now in
    subst (λ (e : Event). ServesStanding (told_by life.machine.state.ticks (Some e)) life (g.D.Disk.view c.args.disk.now) (g.D.Disk.view c.pass.new.disk)) (sym c.in-Checkpoint.is) c.pass.ensures.moments

pub returns-in-OutNumber-clause-moments : goal.returns-in-OutNumber-clause-moments
returns-in-OutNumber-clause-moments g c =
    let life = c.args.self.now in
    let number = c.in-OutNumber.number in
    let u = g.D.Disk.view c.args.disk.now in
    let w = g.D.Disk.view c.write_number.new.disk in
    let back = number_back life.compiled.code life.pages life.machine.state life.frames number (subst (λ (e : Event). Answers life.compiled.code life.pages life.machine.state life.frames (Some e)) c.in-OutNumber.is c.requires.answers) in
    subst (λ (e : Event). ServesStanding (told_by life.machine.state.ticks (Some e)) life u w) (sym c.in-OutNumber.is)
    (subst (λ (z : ℤ). ServesStanding (map run.Byte (signed_decimal z)) life u w) back c.write_number.ensures.moments)
