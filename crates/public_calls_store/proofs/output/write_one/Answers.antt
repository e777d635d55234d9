use Rattle.std.proofs.Common.{refl, ap, ◌∙◌, take, ◌++◌, ◌∷◌, []}
use Rattle.output_file.specs.Pushed.{Pushed}
use Rattle.public_calls_store.proofs.output.write_one.Goals as goal

pub begin_at-requires : goal.begin_at-requires
begin_at-requires c = record { within = λ _. c.requires.within }

pub push-requires : goal.push-requires
push-requires c = record {
  begun = ap (λ (o : Pushed). o.begun) c.in_ok-begin_at.ensures.exact;
  fits = λ _. (take c.args.length _, c.in_ok-begin_at.ensures.answer refl);
}

pub flush-requires : goal.flush-requires
flush-requires c = record {
  begun = ap (λ (o : Pushed). o.begun) c.in_ok-push.ensures.exact ∙ ap (λ (o : Pushed). o.begun) c.in_ok-begin_at.ensures.exact;
  fits = λ _. (take c.args.length _ ++ c.args.b ∷ [], c.in_ok-push.ensures.answer refl _ (c.in_ok-begin_at.ensures.answer refl));
}

pub returns : goal.returns
returns c = record { written = c.in_ok-flush.ensures.durable refl _ (c.in_ok-push.ensures.answer refl _ (c.in_ok-begin_at.ensures.answer refl)) }
