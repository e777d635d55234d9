use Rattle.std.proofs.Common.{◌∙◌, ap, codes, ℕ, List, ◌++◌}
use Rattle.std.specs.Fmt.{decimal}
use Rattle.generated_program.proofs.Joining.{all_behind}
use Rattle.generated_program.proofs.figures.add_generated_line.Goals as goal

pub returns-clause-list : goal.returns-clause-list
returns-clause-list c = c.append-3.ensures.list ∙ (ap (λ (l : List ℕ). l ++ codes "\n") (c.add_number-2.ensures.list ∙ (ap (λ (l : List ℕ). l ++ decimal c.cells.result) (c.append-2.ensures.list ∙ (ap (λ (l : List ℕ). l ++ codes " cells ") (c.add_number.ensures.list ∙ (ap (λ (l : List ℕ). l ++ decimal c.args.n) c.append.ensures.list)))))))
    ∙ all_behind c.args.text.now.list (codes "generated functions ") (decimal c.args.n) (codes " cells ") (decimal c.cells.result) (codes "\n")
    ∙ ap (λ (d : ℕ). c.args.text.now.list ++ (codes "generated functions " ++ (decimal c.args.n ++ (codes " cells " ++ (decimal d ++ codes "\n"))))) c.cells.ensures.answer
