use Rattle.std.proofs.Common.{◌+◌, ◌<◌, sym, subst, refl, arith}
use Rattle.paged_machine.specs.RunOn.{done_of}
use Rattle.paged_machine.proofs.ToGo.{to_go, all_to_go, less_after}
use Rattle.paged_machine.proofs.RunOnLaws.{first_holds, holds_after}
use Rattle.paged_machine.proofs.machine.Machine.run_on.Goals as goal

pub turns-init : goal.turns-init
turns-init g c = record { count = 0; held = first_holds c.args.code.now c.args.pages.now c.args.until c.args.self.now c.args.frames.now c.requires.live c.requires.stands; steps = refl }

pub turns-smaller : goal.turns-smaller
turns-smaller g c =
    let code = c.args.code.now in
    subst (λ x. to_go code c.args.until c.turn-last.new.self.state c.turn-last.result < x) (sym (all_to_go code c.args.until c.turns.self.state c.turns.last (c.goes_on.ensures.on c.turns-test.true)))
    (less_after code c.args.until c.args.pages.now c.turns.self c.turn-last.new.self c.turns.frames c.turn-last.new.frames c.turn-last.result c.turn-last.ensures.did c.turn-last.ensures.below)

pub turns-preserved : goal.turns-preserved
turns-preserved g c = record {
  count = c.turns.invariant.count + done_of c.turn-last.result;
  held = holds_after c.args.code.now c.args.pages.now c.args.until c.args.self.now c.args.frames.now c.turns.invariant.count c.turns.self c.turns.frames c.turns.last (c.goes_on.ensures.on c.turns-test.true) c.turns.invariant.held c.turn-last.result c.turn-last.new.self c.turn-last.new.frames c.turn-last.ensures.did c.turn-last.ensures.below c.turn-last.ensures.stopped;
  steps = omega (arith, c.turn-last.ensures.steps, c.turns.invariant.steps);
}
