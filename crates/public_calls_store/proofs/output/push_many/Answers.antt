use Rattle.std.proofs.Common.{refl, ap, ◌∙◌, ◌++◌, ◌∷◌, []}
use Rattle.output_file.specs.Pushed.{Pushed}
use Rattle.public_calls_store.proofs.output.push_many.Goals as goal

pub push-requires : goal.push-requires
push-requires c = record { begun = c.loop-left.invariant.0; fits = λ _. c.loop-left.invariant.1 }

pub loop-left-preserved : goal.loop-left-preserved
loop-left-preserved c =
    let was = c.loop-left.invariant in
    (ap (λ (o : Pushed). o.begun) c.in_ok-push.ensures.exact ∙ was.0, (was.1.0 ++ 7 ∷ [], c.in_ok-push.ensures.answer refl was.1.0 was.1.1))
