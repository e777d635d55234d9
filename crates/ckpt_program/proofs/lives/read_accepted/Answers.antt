use Rattle.std.proofs.Common.{subst, ℕ, List, Ok}
use Rattle.ckpt_program.specs.Accepted.{Accepted}
use Rattle.ckpt_program.specs.Sight.{sight}
use Rattle.ckpt_program.specs.LifeRow as row
use Rattle.ckpt_program.proofs.Joining.{went}
use Rattle.ckpt_program.proofs.lives.read_accepted.Goals as goal

pub returns-clause-answer : goal.returns-clause-answer
returns-clause-answer g c =
    let view = g.H.Shelf.view in
    let old = sight (view c.args.shelf.now) in
    let new = sight (view c.read_input.new.shelf) in
    let tree = c.in_ok-program.program in
    went (Accepted c.args.text.list) (λ t. row.ReadsInput c.args.text t c.args.input_name.now old new) tree c.read_input.result (subst (λ (t : List ℕ). Accepted t (Ok tree)) c.as_slice.ensures.answer c.in_ok-program.ensures.answer) c.read_input.ensures.answer
