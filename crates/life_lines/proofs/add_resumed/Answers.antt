use Rattle.std.proofs.Common.{◌∙◌, ap, codes, ℕ, List, ◌++◌}
use Rattle.std.specs.Fmt.{decimal}
use Rattle.life_lines.proofs.Joining.{all_behind}
use Rattle.life_lines.proofs.add_resumed.Goals as goal

pub returns-clause-list : goal.returns-clause-list
returns-clause-list c = c.append-3.ensures.list ∙ (ap (λ (l : List ℕ). l ++ codes "\n") (c.add_number-2.ensures.list ∙ (ap (λ (l : List ℕ). l ++ decimal c.args.step) (c.append-2.ensures.list ∙ (ap (λ (l : List ℕ). l ++ codes " step ") (c.add_number.ensures.list ∙ (ap (λ (l : List ℕ). l ++ decimal c.args.image) c.append.ensures.list)))))))
    ∙ all_behind c.args.text.now.list (codes "resumed image ") (decimal c.args.image) (codes " step ") (decimal c.args.step) (codes "\n")
