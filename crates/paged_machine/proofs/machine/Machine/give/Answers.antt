use Rattle.std.proofs.Common.{length, ap, sym, subst, arith}
use Rattle.machine_code.specs.declared.instr.Instr.TheVariants.{In}
use Rattle.paged_machine.specs.MachineView.{MachineView}
use Rattle.paged_machine.specs.Standing.{StandsBy}
use Rattle.paged_machine.specs.Rank.{Nearer}
use Rattle.paged_machine.proofs.Rank.{nearer_given, limited}
use Rattle.machine_code.specs.State.{State}
use Rattle.paged_machine.proofs.ToGo.{given_shrinks}
use Rattle.paged_machine.proofs.Stays.{stands_there, given_fits, has, room_for}
use Rattle.paged_machine.proofs.machine.Machine.give.Goals as goal

pub push-requires-clause-room : goal.push-requires-clause-room
push-requires-clause-room c = omega (arith, room_for c.args.code.now c.requires.stands.0 c.args.self.now In c.requires.stands.1 c.requires.asked)

pub returns-clause-stands : goal.returns-clause-stands
returns-clause-stands c =
    let code = c.args.code.now in
    let ds = c.requires.stands.0 in
    let v = c.args.self.now in
    let fit = c.requires.stands.1 in
    (ds, subst (StandsBy code ds) (sym c.push.ensures.machine) (given_fits code ds v fit 0 c.word_of.result (has code ds v fit 0 (omega arith)) (stands_there code ds v.state.place In fit.depths c.requires.asked).next))

pub returns-clause-falls : goal.returns-clause-falls
returns-clause-falls c =
    let code = c.args.code.now in
    let v = c.args.self.now in
    subst (Nearer code v.state) (sym (ap (λ (w : MachineView). w.state) c.push.ensures.machine)) (nearer_given code v.state 0 c.word_of.result c.requires.stands.1.here.within)

pub returns-clause-limited : goal.returns-clause-limited
returns-clause-limited c =
    limited c.args.code.now c.push.new.self.state (omega (arith, c.requires.stands.1.calls, ap (λ (w : MachineView). length w.state.callers) c.push.ensures.machine))

pub returns-clause-shrinks : goal.returns-clause-shrinks
returns-clause-shrinks c = λ until.
    let code = c.args.code.now in
    let v = c.args.self.now in
    let state = ap (λ (w : MachineView). w.state) c.push.ensures.machine in
    given_shrinks code until v.state c.push.new.self.state c.requires.asked (ap (λ (s : State). s.ticks) state)
    (subst (Nearer code v.state) (sym state) (nearer_given code v.state 0 c.word_of.result c.requires.stands.1.here.within))
