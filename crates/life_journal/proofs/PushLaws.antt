-- Bytes that are pushed one after another.
use Rattle.std.proofs.Common.{◌≡◌, refl, sym, ◌∙◌, ap, subst, ℕ, ◌+◌, List, [], ◌∷◌, ◌++◌, length, IsTrue, append-nil, append_assoc, arith}
use Rattle.std.proofs.lemmas.List.{length_push}
use Rattle.disk_model.specs.declared.disk_file.DiskFile.TheVariants.{One, Two}
use Rattle.disk_model.specs.View.{View, IsDisk, SameFile, Steady}
use Rattle.disk_model.specs.Moments.{Among, LeavesOnly}
use Rattle.disk_model.proofs.Calls.{steady_twice, stays_twice}
use Rattle.output_file.specs.Pushed.{Pushed, length_of, pushed}
use Rattle.output_file.specs.OnDisk.{IsOutputOn, IsBehind}
use Rattle.life_journal.proofs.BesideLaws.{same_file, behind_first, behind_then}

-- the output has come from one standing to another by pushing these bytes
pub record Pushes (u v : View) (o p : Pushed) (added : List ℕ) : Type 0 where
  pub begun : IsTrue p.begun
  pub lasting : p.lasting ≡ o.lasting
  pub count : length_of p ≡ length_of o + length added
  pub answer : IsTrue u.tells → (written : List ℕ) → IsOutputOn o u written → IsOutputOn p v (written ++ added)
  pub moments : IsTrue u.tells → LeavesOnly u v (Among u.may_leave (IsBehind o.lasting))
  pub same : IsTrue u.tells → SameFile One u v × SameFile Two u v
  pub counts : v.faults ≡ u.faults
  pub steady : Steady u v

pub pushes_first : (u : View) (o : Pushed) → (IsTrue u.tells → IsDisk u) → (IsTrue u.tells_past → IsTrue u.tells) → IsTrue o.begun → Pushes u u o o []
pushes_first u o lawful both begun = record {
  begun = begun;
  lasting = refl;
  count = omega arith;
  answer = λ tells written on. subst (IsOutputOn o u) (sym (append-nil written)) on;
  moments = λ tells. behind_first u o.lasting lawful both;
  same = λ tells. (same_file One u, same_file Two u);
  counts = refl;
  steady = record { tells = refl; tells_past = refl; faults = omega arith };
}

pub moments_then : (u v w : View) (o p : Pushed) → v.tells ≡ u.tells → p.lasting ≡ o.lasting → (IsTrue u.tells → LeavesOnly u v (Among u.may_leave (IsBehind o.lasting))) → (IsTrue v.tells → LeavesOnly v w (Among v.may_leave (IsBehind p.lasting)))
    → IsTrue u.tells → LeavesOnly u w (Among u.may_leave (IsBehind o.lasting))
moments_then u v w o p told same first second tells =
    behind_then u v w o.lasting tells (first tells) (subst (λ (n : ℕ). LeavesOnly v w (Among v.may_leave (IsBehind n))) same (second (subst IsTrue (sym told) tells)))

pub images_then : (u v w : View) → v.tells ≡ u.tells → (IsTrue u.tells → SameFile One u v × SameFile Two u v) → (IsTrue v.tells → SameFile One v w × SameFile Two v w) → IsTrue u.tells → SameFile One u w × SameFile Two u w
images_then u v w told first second tells =
    let a = first tells in
    let b = second (subst IsTrue (sym told) tells) in
    (stays_twice One u v w a.0 b.0, stays_twice Two u v w a.1 b.1)

pub pushes_then : (u v w : View) (o p q : Pushed) (added : List ℕ) (b : ℕ) → Pushes u v o p added → q ≡ pushed b p → length_of q ≡ length_of p + 1
    → (IsTrue v.tells → (bytes : List ℕ) → IsOutputOn p v bytes → IsOutputOn q w (bytes ++ b ∷ []))
    → (IsTrue v.tells → LeavesOnly v w (Among v.may_leave (IsBehind p.lasting))) → (IsTrue v.tells → SameFile One v w × SameFile Two v w) → w.faults ≡ v.faults → Steady v w → Pushes u w o q (added ++ b ∷ [])
pushes_then u v w o p q added b h is count answer moments same counts steady = record {
  begun = subst IsTrue (sym (ap (λ (x : Pushed). x.begun) is)) h.begun;
  lasting = ap (λ (x : Pushed). x.lasting) is ∙ h.lasting;
  count = let n = length_push added b in omega (arith, count, h.count, n);
  answer = λ tells written on. subst (IsOutputOn q w) (append_assoc written added (b ∷ [])) (answer (subst IsTrue (sym h.steady.tells) tells) (written ++ added) (h.answer tells written on));
  moments = moments_then u v w o p h.steady.tells h.lasting h.moments moments;
  same = images_then u v w h.steady.tells h.same same;
  counts = counts ∙ h.counts;
  steady = steady_twice u v w h.steady steady;
}
