use Rattle.std.proofs.Common.{length, drop, ap, sym, ◌∙◌, arith, vec_len}
use Rattle.paged_machine.specs.MachineView.{Stacked}
use Rattle.paged_machine.proofs.Tops.{length_tops, tops_drop}
use Rattle.paged_machine.proofs.stack.Stack.cut.Goals as goal

pub returns : goal.returns
returns c =
    let words = c.self.inside.words in
    let top = c.self.inside.top in
    let l = ap (λ (s : Stacked). length s.items) c.self.view_is in
    let m = length_tops words.items top (omega arith) in
    ap (λ i. record { items = i; room = vec_len words }) (sym (tops_drop words.items c.args.n top (omega arith) (omega arith)))
    ∙ ap (λ (s : Stacked). record { items = drop c.args.n s.items; room = s.room }) c.self.view_is
