-- How what is kept of a disk goes on from call to call.
use Rattle.std.proofs.Common.{inl, inr, ⊎_elim, refl, sym, ◌∙◌, subst, ℕ, ◌≤◌, IsTrue, Result, arith}
use Rattle.disk_model.specs.Store.{Store}
use Rattle.disk_model.specs.View.{View, IsDisk, Looks}
use Rattle.disk_model.specs.Moments.{LeavesOnly}
use Rattle.disk_model.specs.Keeps.{Untouched, LeavesNow, AddsOnly, Protects, KeepsStanding}
use Rattle.disk_model.proofs.Calls.{steady_twice, looks_steady}

-- ---- what leaves the contents as they were

pub untouched_still : (v : View) → Untouched v v
untouched_still v = record { tells = refl; tells_past = refl; seen = λ t. refl; crash = λ t c. (λ left. left, λ left. left); later = λ p. omega arith; past = λ p t c le. (λ left. left, λ left. left) }

pub looks_untouched : {T E : Type 0} (result : Result T E) (a b : View) → Looks result a b → Untouched a b
looks_untouched result a b look = record { tells = look.tells; tells_past = look.tells_past; seen = look.seen; crash = look.crash; later = look.later; past = look.past }

pub untouched_twice : (a b c : View) → Untouched a b → Untouched b c → Untouched a c
untouched_twice a b c first second = record {
  tells = second.tells ∙ first.tells;
  tells_past = second.tells_past ∙ first.tells_past;
  seen = λ t. second.seen (h t) ∙ first.seen t;
  crash = λ t s. (λ left. (first.crash t s).0 ((second.crash (h t) s).0 left), λ left. (second.crash (h t) s).1 ((first.crash t s).1 left));
  later = λ p. let x = first.later p in let y = second.later (q p) in omega (arith, x, y);
  past = λ p t s le.
      let x = first.later p in
      let there : t ≤ b.moment = omega (arith, le, x) in
      (λ left. (first.past p t s le).0 ((second.past (q p) t s there).0 left), λ left. (second.past (q p) t s there).1 ((first.past p t s le).1 left));
}
  where
    h : IsTrue a.tells → IsTrue b.tells
    h t = subst IsTrue (sym first.tells) t

    q : IsTrue a.tells_past → IsTrue b.tells_past
    q p = subst IsTrue (sym first.tells_past) p

-- what every crash leaves at entry, it leaves at each moment
pub untouched_moments : (v w : View) (P : Store → Type 0) → (IsTrue v.tells → IsDisk v) → (IsTrue v.tells_past → IsTrue v.tells) → Untouched v w → LeavesNow P v → LeavesOnly v w P
untouched_moments v w P lawful both same here = record {
  tells = same.tells;
  tells_past = same.tells_past;
  now = λ t c left. here t c ((same.crash t c).0 left);
  later = same.later;
  each = λ p c left. here (both p) c ((lawful (both p)).only_now p c ((same.past p v.moment c (omega arith)).0 left));
  before = λ p t c le left. inl ((same.past p t c le).0 left);
}

-- ---- what adds to the outcomes of a crash

-- a look adds nothing
pub looked : {T E : Type 0} (result : Result T E) (a b : View) (P : Store → Type 0) → Looks result a b → AddsOnly a b P
looked result a b P call = record {
  tells = call.tells;
  tells_past = call.tells_past;
  later = call.later;
  now = λ t c left. inl ((call.crash t c).0 left);
  before = λ p t c le left. inl ((call.past p t c le).0 left);
}

-- one run after another
pub adds_twice : (a b c : View) (P : Store → Type 0) → AddsOnly a b P → AddsOnly b c P → AddsOnly a c P
adds_twice a b c P first second = record {
  tells = second.tells ∙ first.tells;
  tells_past = second.tells_past ∙ first.tells_past;
  later = λ p. let x = first.later p in let y = second.later (q p) in omega (arith, x, y);
  now = λ t s left. ⊎_elim (first.now t s) (λ h. inr h) (second.now (subst IsTrue (sym first.tells) t) s left);
  before = λ p t s le left. let x = first.later p in ⊎_elim (first.before p t s le) (λ h. inr h) (second.before (q p) t s (omega (arith, le, x)) left);
}
  where
    q : IsTrue a.tells_past → IsTrue b.tells_past
    q p = subst IsTrue (sym first.tells_past) p

-- the second run has the premise where the first one keeps it
pub protects_twice : (a b c : View) (P : Store → Type 0) → Protects P a b → Protects P b c → Protects P a c
protects_twice a b c P first second = λ here.
    let one = first here in
    adds_twice a b c P one (second (λ t s left. let old : IsTrue a.tells = subst IsTrue one.tells t in ⊎_elim (here old s) (λ h. h) (one.now old s left)))

-- a look, and then what keeps of the disk
pub keeps_after : {X T E : Type 0} (stands : X → Store → Type 0) (newest : Store → ℕ) (P : X → Type 0) (images : Type 0) (result : Result T E) (a b c : View) → Looks result a b → KeepsStanding stands newest P images b c → KeepsStanding stands newest P images a c
keeps_after stands newest P images result a b c look run = record {
  steady = steady_twice a b c (looks_steady result a b look) run.steady;
  any_moment = λ x is. protects_twice a b c (stands x) (λ _. looked result a b (stands x) look) (run.any_moment x is);
  no_image_lost = λ can j. protects_twice a b c (λ s. j ≤ newest s) (λ _. looked result a b (λ s. j ≤ newest s) look) (run.no_image_lost can j);
}

-- what is kept for some givens is for fewer
pub keeps_for : {X : Type 0} (stands : X → Store → Type 0) (newest : Store → ℕ) (P Q : X → Type 0) (images fewer : Type 0) (a b : View) → KeepsStanding stands newest P images a b → ((x : X) → Q x → P x) → (fewer → images) → KeepsStanding stands newest Q fewer a b
keeps_for stands newest P Q images fewer a b run weaker less = record { steady = run.steady; any_moment = λ x is. run.any_moment x (weaker x is); no_image_lost = λ can. run.no_image_lost (less can) }

-- what is kept of a lawful disk is so at each moment
pub at_each_moment : (v w : View) (P : Store → Type 0) → (IsTrue v.tells → IsDisk v) → (IsTrue v.tells_past → IsTrue v.tells) → Protects P v w → LeavesNow P v → LeavesOnly v w P
at_each_moment v w P lawful both run here =
    let adds = run here in
    record {
      tells = adds.tells;
      tells_past = adds.tells_past;
      now = λ t c left. ⊎_elim (here t c) (λ h. h) (adds.now t c left);
      later = adds.later;
      each = λ p c left. ⊎_elim (λ was. here (both p) c ((lawful (both p)).only_now p c was)) (λ h. h) (adds.before p v.moment c (omega arith) left);
      before = adds.before;
    }
