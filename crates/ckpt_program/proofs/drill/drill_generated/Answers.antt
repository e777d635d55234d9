use Rattle.std.proofs.Common.{◌≡◌, ◌∙◌, ◌++◌, subst, ap, List, [], ℕ}
use Rattle.command_words.specs.declared.stops.Stop.{Stop}
use Rattle.generated_program.specs.Generated.{generated_line}
use Rattle.ckpt_program.specs.Drill as row
use Rattle.ckpt_program.specs.Stage.{Comes}
use Rattle.ckpt_program.proofs.drill.drill_generated.Goals as goal

pub returns : goal.returns
returns c =
    let line = generated_line c.args.functions in
    let heading : c.as_slice.result.now ≡ line = c.as_slice.ensures.answer ∙ c.add_generated_line.ensures.list ∙ ap (λ (l : List ℕ). l ++ line) c.in_ok-heading.ensures.answer.0 in
    let came = λ (h : List ℕ) (s : List Stop). Comes (row.OfProgram h (row.to_drill row.default_settings 0) s c.args.program.now c.args.text.now []) c.drill_program.result in
    record { answer = subst (λ (h : List ℕ). came h (row.stops_of c.args.functions)) heading (subst (came c.as_slice.result.now) c.generated_stops-stops.ensures.answer c.drill_program.ensures.answer) }
