-- The items of a text, one after another.
use Rattle.std.proofs.Common.{◌≡◌, ℕ, zero, suc, ◌<◌, ◌≤◌, List, [], ◌∷◌, ◌++◌, length, Some, None, refl, sym, ap, ◌∙◌, arith, Bool, false}
use Rattle.std.specs.Prelude.{◌==◌}
use Rattle.std.proofs.lemmas.Grind.{common_steps}
use Rattle.c_tree.specs.declared.token.Token.{Token}
use Rattle.c_tree.specs.declared.tree.Item.{Item}
use Rattle.c_reader.specs.Reading.{Got, ◌>>=◌}
use Rattle.c_reader.specs.ReadingItems.{item, file, program}
use Rattle.c_reader.proofs.ItemForms.{item_takes}

-- to go on from here gives what the whole gives, in turns enough
pub record GoingFile (ts : List Token) (xs : List Item) (rest : List Token) : Type 0 where
  pub turns : ℕ
  pub enough : length rest ≤ turns
  pub same : file turns xs rest ≡ program ts

pub file_starts : (ts : List Token) → GoingFile ts [] ts
file_starts ts = record { turns = length ts; enough = omega arith; same = refl }

over_at : (n : ℕ) (xs : List Item) (rest : List Token) → length rest ≡ 0 → file n xs rest ≡ Some xs
over_at zero xs [] h = refl
over_at (suc n) xs [] h = refl
over_at n xs (t ∷ ts) h = absurd (omega arith)

turn_at : (n : ℕ) (xs : List Item) (rest : List Token) → 0 < length rest → file (suc n) xs rest ≡ (item rest >>= (λ i. file n (xs ++ i.value ∷ []) i.rest))
turn_at n xs [] h = absurd (omega arith)
turn_at n xs (t ∷ ts) h = refl

none_at : (n : ℕ) (xs : List Item) (rest : List Token) → 0 < length rest → item rest ≡ None → file n xs rest ≡ None
none_at n xs [] h r = absurd (omega arith)
none_at zero xs (t ∷ ts) h r = refl
none_at (suc n) xs (t ∷ ts) h r = ap (λ o. o >>= (λ i. file n (xs ++ i.value ∷ []) i.rest)) r

goes : (ts : List Token) (xs : List Item) (rest : List Token) (x : Got Item) (n : ℕ) → length rest ≤ n → file n xs rest ≡ program ts → 0 < length rest → item rest ≡ Some x → GoingFile ts (xs ++ x.value ∷ []) x.rest
goes ts xs rest x zero en same h r = absurd (omega arith)
goes ts xs rest x (suc n) en same h r =
    record {
      turns = n;
      enough = omega (arith, item_takes rest x r);
      same = sym (turn_at n xs rest h ∙ ap (λ o. o >>= (λ i. file n (xs ++ i.value ∷ []) i.rest)) r) ∙ same;
    }

module _ (ts : List Token) (xs : List Item) (rest : List Token) (g : GoingFile ts xs rest) where
  pub file_ends : length rest ≡ 0 → program ts ≡ Some xs
  file_ends h = sym g.same ∙ over_at g.turns xs rest h

  pub file_fails : 0 < length rest → item rest ≡ None → program ts ≡ None
  file_fails h r = sym g.same ∙ none_at g.turns xs rest h r

  pub file_goes_on : (x : Got Item) → 0 < length rest → item rest ≡ Some x → GoingFile ts (xs ++ x.value ∷ []) x.rest
  file_goes_on x h r = goes ts xs rest x g.turns g.enough g.same h r

pub some_left : (n : ℕ) (b : Bool) → b ≡ (n == 0) → b ≡ false → 0 < n
some_left n b h e = let q : (n == 0) ≡ false = sym h ∙ e in grind (arith, common_steps)
