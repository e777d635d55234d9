-- What a loop over items with commas between them computes, on lists.
use Rattle.std.specs.Prelude.{ℕ, zero, suc, List, [], ◌∷◌, ◌++◌, length, Option, Some, None}
use Rattle.c_tree.specs.declared.token.Token.{Token}
use Rattle.c_tree.specs.declared.token.Word.TheVariants as word
use Rattle.c_reader.specs.Reading.{got, Read, Reader, ◌>>=◌, after}

-- behind the last item, or with a further one behind a comma
abbrev pub listed_on : {B : Type 0} → (B → Reader B) → B → List Token → Option (List Token) → Read B
listed_on go b ts None = Some (got b ts)
listed_on go b ts (Some us) = go b us

-- after what was gathered so far, items with commas between them, in at most n turns
abbrev pub listed : {A B : Type 0} → Reader A → (B → A → B) → ℕ → B → Reader B
listed item add zero b ts = None
listed item add (suc n) b ts = item ts >>= (λ x. listed_on (listed item add n) (add b x.value) x.rest (after word.Comma x.rest))

abbrev pub push : {A : Type 0} → List A → A → List A
push xs x = xs ++ x ∷ []

-- all items
abbrev pub listing : {A : Type 0} → Reader A → Reader (List A)
listing item ts = listed item push (length ts) [] ts
