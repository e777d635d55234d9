-- Loops over the parts of a text.
use Rattle.std.proofs.Common.{◌≡◌, ℕ, suc, ◌+◌, ◌<◌, List, [], ◌∷◌, ◌++◌, map, drop, length, get_or, sym, ◌∙◌, ap, subst, add-one}
use Rattle.std.proofs.Math.Seq.{drop-cons}
use Rattle.c_types.specs.declared.fault.CheckFault.{CheckFault}
use Rattle.c_types.specs.declared.known.Known.{Known}
use Rattle.c_types.specs.Faults.{IsFirst}
use Rattle.c_types.specs.Names.{Step, all}
use Rattle.c_types.proofs.Faulty.{in_front}

pub split : {X : Type 0} (xs : List X) (i : ℕ) (x : X) → i < length xs → x ≡ get_or xs i x → drop i xs ≡ x ∷ drop (i + 1) xs
split xs i x h e = drop-cons xs i x h ∙ ap (λ y. y ∷ drop (suc i) xs) (sym e) ∙ sym (ap (λ n. x ∷ drop n xs) (add-one i))

pub split_at : {X : Type 0} (xs : List X) (i : ℕ) (d : X) → i < length xs → drop i xs ≡ get_or xs i d ∷ drop (i + 1) xs
split_at xs i d h = drop-cons xs i d h ∙ sym (ap (λ n. get_or xs i d ∷ drop n xs) (add-one i))

-- a loop over parts, as far as it has come
pub record Ongoing {X : Type 0} (p : X → Step) (xs : List X) (i : ℕ) (old now : Known) : Type 0 where
  pub faults : (all (map p (drop i xs))).faults now ≡ (all (map p xs)).faults old
  pub after : (all (map p (drop i xs))).after now ≡ (all (map p xs)).after old

module _ {X : Type 0} (p : X → Step) (xs : List X) (i : ℕ) (x : X) (old now : Known) where
  pub goes_on : (new : Known) → i < length xs → x ≡ get_or xs i x → Ongoing p xs i old now → (p x).faults now ≡ [] → (p x).after now ≡ new → Ongoing p xs (i + 1) old new
  goes_on new h e so none after =
      let s = ap (λ ys. all (map p ys)) (split xs i x h e) in
      record {
        faults = ap (all (map p (drop (i + 1) xs))).faults (sym after) ∙ sym (ap (λ ys. ys ++ (all (map p (drop (i + 1) xs))).faults ((p x).after now)) none) ∙ sym (ap (λ (q : Step). q.faults now) s) ∙ so.faults;
        after = ap (all (map p (drop (i + 1) xs))).after (sym after) ∙ sym (ap (λ (q : Step). q.after now) s) ∙ so.after;
      }

  pub fails_at : (g : CheckFault) → i < length xs → x ≡ get_or xs i x → Ongoing p xs i old now → IsFirst g ((p x).faults now) → IsFirst g ((all (map p xs)).faults old)
  fails_at g h e so fails =
      let s = ap (λ ys. all (map p ys)) (split xs i x h e) in
      subst (IsFirst g) (sym (ap (λ (q : Step). q.faults now) s) ∙ so.faults) (in_front ((p x).faults now) ((all (map p (drop (i + 1) xs))).faults ((p x).after now)) g fails)
