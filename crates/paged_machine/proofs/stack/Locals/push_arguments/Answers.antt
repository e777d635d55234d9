use Rattle.std.proofs.Common.{◌≡◌, ◌+◌, ◌-◌, ◌<◌, ◌≤◌, ◌∷◌, [], ◌++◌, List, ℕ, length, take, get_or, reverse, ap, sym, ◌∙◌, arith, append_assoc}
use Rattle.std.proofs.lemmas.List.{take_more, get_or-reverse}
use Rattle.std.proofs.lemmas.Grind.{common_steps}
use Rattle.paged_machine.specs.MachineView.{Stacked}
use Rattle.paged_machine.proofs.stack.Locals.push_arguments.Goals as goal

argument : (ops : List ℕ) (p k : ℕ) → k < p → p ≤ length ops → take (k + 1) (reverse (take p ops)) ≡ take k (reverse (take p ops)) ++ get_or ops (p - 1 - k) 0 ∷ []
argument ops p k lt le =
    let l : length (take p ops) ≡ p = grind (arith, common_steps) in
    let lr : length (reverse (take p ops)) ≡ p = grind (arith, common_steps) in
    let e : length (take p ops) - 1 - k ≡ p - 1 - k = omega arith in
    let g : get_or (take p ops) (p - 1 - k) 0 ≡ get_or ops (p - 1 - k) 0 = grind (arith, common_steps) in
    take_more (reverse (take p ops)) k 0 (omega arith)
    ∙ ap (λ v. take k (reverse (take p ops)) ++ v ∷ []) (get_or-reverse (take p ops) k 0 (omega arith) ∙ ap (λ i. get_or (take p ops) i 0) e ∙ g)

pub loop-k-preserved : goal.loop-k-preserved
loop-k-preserved c =
    let ops = c.args.operands.now.items in
    let p = c.args.parameters in
    let k = c.loop-k.k in
    let old = c.args.self.now.items in
    let args = take k (reverse (take p ops)) in
    c.push.ensures
    ∙ ap (λ (s : Stacked). record { items = s.items ++ c.word.result ∷ []; room = s.room }) c.loop-k.invariant
    ∙ ap (λ v. record { items = (old ++ args) ++ v ∷ []; room = c.args.self.now.room }) c.word.ensures
    ∙ ap (λ l. record { items = l; room = c.args.self.now.room }) (append_assoc old args (get_or ops (p - 1 - k) 0 ∷ []) ∙ ap (λ l. old ++ l) (sym (argument ops p k (omega arith) (omega arith))))
