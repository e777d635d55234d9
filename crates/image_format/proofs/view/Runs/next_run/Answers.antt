use Rattle.std.proofs.Common.{arith, sym, ◌∙◌, ap, subst, ◌≡◌, ℕ, suc, ◌-◌, [], IsOk}
use Rattle.image_format.specs.Reading.{runs_at, runs_of}
use Rattle.image_format.proofs.RunLaws.{none_left, one_left, not_bad}
use Rattle.image_format.proofs.view.Runs.next_run.Goals as goal

pub returns-then-self-eq0 : goal.returns-then-self-eq0
returns-then-self-eq0 c =
    let r = c.self.inside in
    let zero : r.left ≡ 0 = omega arith in
    let none : c.args.self.now ≡ [] = sym c.self.view_is ∙ ap (λ (n : ℕ). runs_of (runs_at n r.end r.least r.rest.now)) zero ∙ none_left r.end r.least r.rest.now in
    (none, none)

pub returns-in-Err : goal.returns-in-Err
returns-in-Err c =
    let r = c.self.inside in
    let more : r.left ≡ suc (r.left - 1) = omega arith in
    absurd (not_bad (r.left - 1) r.end r.least r.rest.now _ c.in-Err.ensures.exact (subst (λ (n : ℕ). IsOk (runs_at n r.end r.least r.rest.now)) more c.self.invariant.read))

pub invariant_of-self : goal.invariant_of-self
invariant_of-self c =
    let r = c.self.inside in
    let fits = c.in-Ok.ensures.fits in
    let within = fits.within in
    let size = fits.size in
    let more : r.left ≡ suc (r.left - 1) = omega arith in
    let one = one_left (r.left - 1) r.end r.least _ _ _ r.rest.now _ c.in-Ok.ensures.exact (subst (λ (n : ℕ). IsOk (runs_at n r.end r.least r.rest.now)) more c.self.invariant.read) in
    record { read = one.0; few = omega arith; within = omega arith; least = omega arith }

pub returns : goal.returns
returns c =
    let r = c.self.inside in
    let fits = c.in-Ok.ensures.fits in
    let more : r.left ≡ suc (r.left - 1) = omega arith in
    let one = one_left (r.left - 1) r.end r.least _ _ _ r.rest.now _ c.in-Ok.ensures.exact (subst (λ (n : ℕ). IsOk (runs_at n r.end r.least r.rest.now)) more c.self.invariant.read) in
    record {
      run = sym c.self.view_is ∙ ap (λ (n : ℕ). runs_of (runs_at n r.end r.least r.rest.now)) more ∙ one.1;
      some = fits.some;
      within = fits.within;
      size = c.in-Ok.ensures.words;
    }
