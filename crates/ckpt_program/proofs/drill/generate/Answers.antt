use Rattle.std.proofs.Common.{◌≡◌, ◌∙◌, subst, List, [], ℕ, Ok}
use Rattle.c_tree.specs.declared.resolved.Resolved.{Resolved}
use Rattle.generated_program.specs.Generated.{generated, generated_line}
use Rattle.ckpt_program.specs.Accepted.{Accepted}
use Rattle.ckpt_program.specs.Drill as row
use Rattle.ckpt_program.specs.Stage.{Comes}
use Rattle.ckpt_program.proofs.Joining.{went}
use Rattle.ckpt_program.proofs.drill.generate.Goals as goal

pub returns : goal.returns
returns c =
    let n = c.args.functions in
    let tree = c.in_ok-program.program in
    let next = λ (t : Resolved) (text : List ℕ). row.OfProgram (generated_line n) (row.to_drill row.default_settings 0) (row.stops_of n) t text [] in
    let first : c.as_slice.result.now ≡ generated n = c.as_slice.ensures.answer ∙ c.in_ok-text.ensures.answer in
    let again : c.as_slice-2.result.now ≡ generated n = c.as_slice-2.ensures.answer ∙ c.in_ok-text.ensures.answer in
    record {
      answer =
          went (Accepted (generated n)) (λ (t : Resolved). next t (generated n)) tree c.drill_generated.result
          (subst (λ (text : List ℕ). Accepted text (Ok tree)) first c.in_ok-program.ensures.answer)
          (subst (λ (text : List ℕ). Comes (next tree text) c.drill_generated.result) again c.drill_generated.ensures.answer);
    }
