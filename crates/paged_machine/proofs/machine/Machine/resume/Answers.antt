use Rattle.std.proofs.Common.{ap, sym, ◌∙◌, subst}
use Rattle.paged_machine.specs.MachineView.{MachineView}
use Rattle.machine_code.specs.State.{standing}
use Rattle.paged_machine.specs.Standing.{StandsBy}
use Rattle.paged_machine.proofs.Checkpoints.{standing_fits, at_checkpoint, one_place}
use Rattle.paged_machine.proofs.machine.Machine.resume.Goals as goal

pub returns-in-Some-clause-state : goal.returns-in-Some-clause-state
returns-in-Some-clause-state c = λ q e.
    ap (λ (v : MachineView). v.state) c.stand_at.ensures ∙ ap (λ p. standing p c.args.ticks) (one_place c.args.code.now c.args.node _ q c.requires.stands.1.valid c.in-Some.ensures.found e)

pub returns-in-Some-clause-stands : goal.returns-in-Some-clause-stands
returns-in-Some-clause-stands c =
    let fit = c.requires.stands.1 in
    let ds = c.requires.stands.0 in (
      ds,
      subst (StandsBy c.args.code.now ds) (sym c.stand_at.ensures)
          (standing_fits c.args.code.now ds _ c.args.ticks _ _ _ fit.valid fit.depths (at_checkpoint c.args.code.now ds c.args.node _ fit.valid fit.depths c.in-Some.ensures.found) fit.operand_room fit.local_room),
    )
