use Rattle.std.proofs.Common.{◌*◌, [], true, sym, subst, arith}
use Rattle.paged_machine.specs.MachineView.{Stacked}
use Rattle.paged_machine.specs.Standing.{StandsBy}
use Rattle.paged_machine.proofs.Checkpoints.{standing_fits, at_main}
use Rattle.paged_machine.proofs.machine.Machine.new.Goals as goal

pub returns-clause-stands : goal.returns-clause-stands
returns-clause-stands c =
    let code = c.args.code.now in
    let valid = c.requires.valid in
    let ds = valid.depths.0 in
    let at : Stacked → Stacked → Type 0 =
    λ a b. StandsBy code ds (record { state = record { place = 0; operands = a.items; below = 0; locals = b.items; locals_below = 0; callers = []; ticks = 0 }; live = true; operand_room = a.room; local_room = b.room }) in
    let operands : Stacked = record { items = []; room = c.stack.result * 1001 } in (
      ds,
      subst (λ a. at a c.in_ok-new-2.field-0) (sym c.in_ok-new.ensures) (subst (λ b. at operands b) (sym c.in_ok-new-2.ensures)
          (standing_fits code ds 0 0 true (c.stack.result * 1001) (c.most_locals.result * 1001) valid valid.depths.1 (at_main code ds valid valid.depths.1) (omega (arith, c.stack.ensures.answer)) (omega (arith, c.most_locals.ensures.answer)))),
    )
