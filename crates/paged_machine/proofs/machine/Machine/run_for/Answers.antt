use Rattle.std.proofs.Common.{◌≡◌, ◌+◌, ◌<◌, sym, subst, refl, arith, ◌∙◌}
use Rattle.dirty_pages.specs.Pages.{is_protected}
use Rattle.paged_machine.specs.RunOn.{done_of}
use Rattle.paged_machine.proofs.ToGo.{to_go, all_to_go, less_after}
use Rattle.paged_machine.proofs.RunOnLaws.{first_holds, holds_after, counted_on, done_on, stopped_for}
use Rattle.paged_machine.proofs.machine.Machine.run_for.Goals as goal

pub turns-init : goal.turns-init
turns-init g c = record { count = 0; counted = omega arith; fits = omega arith; held = first_holds c.args.code.now c.args.pages.now c.args.until c.args.self.now c.args.frames.now c.requires.live c.requires.stands; steps = refl }

pub turns-smaller : goal.turns-smaller
turns-smaller g c =
    let code = c.args.code.now in
    subst (λ x. to_go code c.args.until c.turn-last.new.self.state c.turn-last.result < x) (sym (all_to_go code c.args.until c.turns.self.state c.turns.last (c.is_left.ensures.on c.turns-test.true)))
    (less_after code c.args.until c.args.pages.now c.turns.self c.turn-last.new.self c.turns.frames c.turn-last.new.frames c.turn-last.result c.turn-last.ensures.did c.turn-last.ensures.below)

pub turns-preserved : goal.turns-preserved
turns-preserved g c = record {
  count = c.turns.invariant.count + done_of c.turn-last.result;
  counted = omega (arith, c.turns.invariant.counted, done_on c.turns.last (c.is_left.ensures.on c.turns-test.true), c.is_left.ensures.some c.turns-test.true);
  fits = omega (arith, c.turns.invariant.fits, done_on c.turns.last (c.is_left.ensures.on c.turns-test.true), c.is_left.ensures.some c.turns-test.true);
  held = holds_after c.args.code.now c.args.pages.now c.args.until c.args.self.now c.args.frames.now c.turns.invariant.count c.turns.self c.turns.frames c.turns.last (c.is_left.ensures.on c.turns-test.true) c.turns.invariant.held c.turn-last.result c.turn-last.new.self c.turn-last.new.frames c.turn-last.ensures.did c.turn-last.ensures.below c.turn-last.ensures.stopped;
  steps = omega (arith, c.turn-last.ensures.steps, c.turns.invariant.steps);
}

pub returns-clause-goes : goal.returns-clause-goes
returns-clause-goes g c =
    let held = c.turns.invariant.held in
    let taken : c.args.left.now ≡ c.turns.invariant.count + (c.turns.rest + c.not_done.result) = omega (arith, c.turns.invariant.counted, c.not_done.ensures) in
    counted_on c.args.code.now (is_protected c.args.pages.now) c.args.self.now.state c.args.frames.now _ c.told.result c.turns.self.state c.turns.frames c.turns.invariant.count c.args.left.now (c.turns.rest + c.not_done.result)
    (sym c.told.ensures) held.goes held.counted taken

pub returns-clause-stopped : goal.returns-clause-stopped
returns-clause-stopped g c = λ none.
    stopped_for c.args.code.now c.args.pages.now c.args.until c.args.self.now c.args.frames.now c.turns.invariant.count c.turns.self c.turns.frames c.turns.last c.turns.rest c.not_done.result
    c.turns.invariant.held (sym c.told.ensures ∙ none) c.not_done.ensures (c.is_left.ensures.over c.turns-test.false)

pub overflow_add-left : goal.overflow_add-left
overflow_add-left g c = omega (arith, c.turns.invariant.fits, c.not_done.ensures)
