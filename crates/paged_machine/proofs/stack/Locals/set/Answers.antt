use Rattle.std.proofs.Common.{◌+◌, ◌<◌, length, ap, ◌∙◌, arith, vec_len}
use Rattle.std.specs.Prelude.{slice_set}
use Rattle.std.proofs.Math.Seq.{take-set-lt}
use Rattle.std.proofs.lemmas.Grind.{common_steps}
use Rattle.paged_machine.specs.MachineView.{Stacked}
use Rattle.paged_machine.proofs.stack.Locals.set.Goals as goal

pub returns : goal.returns
returns c =
    let words = c.self.inside.words in
    let top = c.self.inside.top in
    let l = ap (λ (s : Stacked). length s.items) c.self.view_is in
    let lt : c.args.base + c.args.i < top = grind (arith, common_steps) in
    ap (λ i. record { items = i; room = vec_len words }) (take-set-lt top words.items (c.args.base + c.args.i) c.args.v lt)
    ∙ ap (λ (s : Stacked). record { items = slice_set s.items (c.args.base + c.args.i) c.args.v; room = s.room }) c.self.view_is
