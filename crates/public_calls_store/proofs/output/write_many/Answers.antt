use Rattle.std.proofs.Common.{refl, ap, ◌∙◌, [], arith}
use Rattle.output_file.specs.Pushed.{Pushed}
use Rattle.public_calls_store.proofs.output.write_many.Goals as goal

pub begin_at-requires : goal.begin_at-requires
begin_at-requires c = record { within = λ _. omega arith }

pub push_many-requires : goal.push_many-requires
push_many-requires c = record { begun = ap (λ (o : Pushed). o.begun) c.in_ok-begin_at.ensures.exact; fits = ([], c.in_ok-begin_at.ensures.answer refl) }

pub flush-requires : goal.flush-requires
flush-requires c = record { begun = c.in_ok-push_many.ensures.begun; fits = λ _. c.in_ok-push_many.ensures.fits }

pub flush-requires-2 : goal.flush-requires-2
flush-requires-2 c =
    let fits = c.in_ok-push_many.ensures.fits in
    record { begun = ap (λ (o : Pushed). o.begun) c.in_ok-flush.ensures.exact ∙ c.in_ok-push_many.ensures.begun; fits = λ _. (fits.0, c.in_ok-flush.ensures.answer refl fits.0 fits.1) }
