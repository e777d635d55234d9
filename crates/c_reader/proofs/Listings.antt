-- Items with commas between them: the loop, and what it reads.
use Rattle.std.proofs.Common.{◌≡◌, ℕ, zero, suc, ◌<◌, ◌≤◌, List, [], ◌∷◌, ◌++◌, length, Option, Some, None, refl, sym, ap, ◌∙◌, subst, arith, append_assoc, append-nil}
use Rattle.c_tree.specs.declared.token.Token.{Token}
use Rattle.c_tree.specs.declared.token.Word.TheVariants as word
use Rattle.c_tree.specs.Scan.{Spot}
use Rattle.c_tree.specs.Expressions.{the}
use Rattle.c_tree.specs.Listed.{Listed, Last, Then, tokens, trees, AreWell, depth}
use Rattle.c_reader.specs.Reading.{Got, got, Reader, ◌>>=◌, after}
use Rattle.c_reader.specs.Listing.{listed_on, listed, push}
use Rattle.c_reader.proofs.TokenKinds.{after_is}
use Rattle.c_reader.proofs.Complete.{Ends}
use Rattle.c_reader.proofs.Sound.{bind_some}

-- a reader leaves fewer tokens than there were
abbrev pub Takes : {A : Type 0} → Reader A → Type 0
Takes {A} item = (ts : List Token) (x : Got A) → item ts ≡ Some x → length x.rest < length ts

pub after_shorter : (ts us : List Token) → after word.Comma ts ≡ Some us → length us < length ts
after_shorter ts us h = let r = after_is word.Comma ts us h in omega (arith, ap length r.1)

pub next_shorter : {A : Type 0} (item : Reader A) → Takes item → (ts us : List Token) (x : Got A) → item ts ≡ Some x → after word.Comma x.rest ≡ Some us → length us < length ts
next_shorter item k ts us x h c = omega (arith, k ts x h, after_shorter x.rest us c)

-- to go on from here gives what the whole gives, in turns enough
pub record Going {A B : Type 0} (item : Reader A) (add : B → A → B) (start : B) (ts : List Token) (b : B) (rest : List Token) : Type 0 where
  pub turns : ℕ
  pub enough : length rest ≤ turns
  pub same : listed item add turns b rest ≡ listed item add (length ts) start ts

pub starts : {A B : Type 0} (item : Reader A) (add : B → A → B) (start : B) (ts : List Token) → Going item add start ts start ts
starts item add start ts = record { turns = length ts; enough = omega arith; same = refl }

module _ {A B : Type 0} (item : Reader A) (add : B → A → B) (start : B) (ts : List Token) (b : B) (rest : List Token) where
  none_at : (n : ℕ) → item rest ≡ None → listed item add n b rest ≡ None
  none_at zero h = refl
  none_at (suc n) h = ap (λ r. r >>= (λ x. listed_on (listed item add n) (add b x.value) x.rest (after word.Comma x.rest))) h

  some_at : (n : ℕ) (x : Got A) → item rest ≡ Some x → listed item add (suc n) b rest ≡ listed_on (listed item add n) (add b x.value) x.rest (after word.Comma x.rest)
  some_at n x h = ap (λ r. r >>= (λ x. listed_on (listed item add n) (add b x.value) x.rest (after word.Comma x.rest))) h

  pub fails : Going item add start ts b rest → item rest ≡ None → listed item add (length ts) start ts ≡ None
  fails g h = sym g.same ∙ none_at g.turns h

  ends_at : (n : ℕ) (x : Got A) → Takes item → length rest ≤ n → item rest ≡ Some x → after word.Comma x.rest ≡ None → listed item add n b rest ≡ Some (got (add b x.value) x.rest)
  ends_at zero x k e h c = absurd (omega (arith, k rest x h))
  ends_at (suc n) x k e h c = some_at n x h ∙ ap (listed_on (listed item add n) (add b x.value) x.rest) c

  pub ends : Going item add start ts b rest → Takes item → (x : Got A) → item rest ≡ Some x → after word.Comma x.rest ≡ None → listed item add (length ts) start ts ≡ Some (got (add b x.value) x.rest)
  ends g k x h c = sym g.same ∙ ends_at g.turns x k g.enough h c

  goes_at : (n : ℕ) (x : Got A) (us : List Token) → Takes item → length rest ≤ n → listed item add n b rest ≡ listed item add (length ts) start ts → item rest ≡ Some x → after word.Comma x.rest ≡ Some us → Going item add start ts (add b x.value) us
  goes_at zero x us k e s h c = absurd (omega (arith, k rest x h, after_shorter x.rest us c))
  goes_at (suc n) x us k e s h c =
      record {
        turns = n;
        enough = omega (arith, k rest x h, after_shorter x.rest us c);
        same = sym (some_at n x h ∙ ap (listed_on (listed item add n) (add b x.value) x.rest) c) ∙ s;
      }

  pub goes_on : Going item add start ts b rest → Takes item → (x : Got A) (us : List Token) → item rest ≡ Some x → after word.Comma x.rest ≡ Some us → Going item add start ts (add b x.value) us
  goes_on g k x us h c = goes_at g.turns x us k g.enough g.same h c

-- ---- both ways

-- what gathering all of these gives
abbrev pub gathered : {A B : Type 0} → (B → A → B) → B → List A → B
gathered add b [] = b
gathered add b (x ∷ xs) = gathered add (add b x) xs

pub pushed : {A : Type 0} (b xs : List A) → gathered push b xs ≡ b ++ xs
pushed b [] = sym (append-nil b)
pushed b (x ∷ xs) = pushed (push b x) xs ∙ append_assoc b (x ∷ []) xs

-- one item is spelled
pub record Item {F A : Type 0} (one : F → List Token → List Token) (tree : F → A) (Well : F → Type 0) (ts : List Token) (x : Got A) : Type 0 where
  pub form : F
  pub well : Well form
  pub tree_is : tree form ≡ x.value
  pub tokens_are : ts ≡ one form x.rest

pub record Items {F A B : Type 0} (one : F → List Token → List Token) (tree : F → A) (Well : F → Type 0) (add : B → A → B) (b : B) (ts : List Token) (x : Got B) : Type 0 where
  pub forms : Listed F
  pub well : AreWell Well forms
  pub trees_are : gathered add b (trees tree forms) ≡ x.value
  pub tokens_are : ts ≡ tokens one forms x.rest

-- an item has tokens
abbrev pub Grows : {F : Type 0} → (F → List Token → List Token) → Type 0
Grows {F} one = (f : F) (ts : List Token) → length ts < length (one f ts)

pub all_grow : {F : Type 0} (one : F → List Token → List Token) → Grows one → (fs : Listed F) (ts : List Token) → length ts < length (tokens one fs ts)
all_grow one g (Last f) ts = g f ts
all_grow one g (Then f c fs) ts = let a = g f (the c word.Comma ∷ tokens one fs ts) in let b = all_grow one g fs ts in omega (arith, a, b)

module _ {F A B : Type 0} (one : F → List Token → List Token) (tree : F → A) (Well : F → Type 0) (item : Reader A) (add : B → A → B) where
  items_last : (b : B) (ts : List Token) (y : Got A) (x : Got B) → Item one tree Well ts y → got (add b y.value) y.rest ≡ x → Items one tree Well add b ts x
  items_last b ts y x i e =
      subst (Items one tree Well add b ts) e (record { forms = Last i.form; well = i.well; trees_are = ap (add b) i.tree_is; tokens_are = i.tokens_are })

  items_then : (b : B) (ts : List Token) (y : Got A) (us : List Token) (x : Got B) → Item one tree Well ts y → after word.Comma y.rest ≡ Some us → Items one tree Well add (add b y.value) us x → Items one tree Well add b ts x
  items_then b ts y us x i c r =
      let o = after_is word.Comma y.rest us c in
      record {
        forms = Then i.form o.0 r.forms;
        well = (i.well, r.well);
        trees_are = ap (λ v. gathered add (add b v) (trees tree r.forms)) i.tree_is ∙ r.trees_are;
        tokens_are = i.tokens_are ∙ ap (one i.form) (o.1 ∙ ap (λ v. the o.0 word.Comma ∷ v) r.tokens_are);
      }

  on_sound : (go : B → Reader B) (b : B) (ts : List Token) (y : Got A) (o : Option (List Token)) (x : Got B) → Item one tree Well ts y → after word.Comma y.rest ≡ o
      → ((us : List Token) → go (add b y.value) us ≡ Some x → Items one tree Well add (add b y.value) us x) → listed_on go (add b y.value) y.rest o ≡ Some x → Items one tree Well add b ts x
  on_sound go b ts y None x i c k h = items_last b ts y x i cc
  on_sound go b ts y (Some us) x i c k h = items_then b ts y us x i c (k us h)

  pub listed_sound : ((ts : List Token) (y : Got A) → item ts ≡ Some y → Item one tree Well ts y) → (n : ℕ) (b : B) (ts : List Token) (x : Got B) → listed item add n b ts ≡ Some x → Items one tree Well add b ts x
  listed_sound sound zero b ts x h = absurd cc
  listed_sound sound (suc n) b ts x h =
      let a = bind_some (item ts) (λ y. listed_on (listed item add n) (add b y.value) y.rest (after word.Comma y.rest)) x h in
      on_sound (listed item add n) b ts a.0 (after word.Comma a.0.rest) x (sound ts a.0 a.1) refl (λ us g. listed_sound sound n (add b a.0.value) us x g) a.2

  pub record Reads : Type 0 where
    pub grows : Grows one
    pub read : (f : F) (ts : List Token) → Well f → Ends ts → item (one f ts) ≡ Some (got (tree f) ts)

  ends_comma : (c : Spot) (ts : List Token) → Ends (the c word.Comma ∷ ts)
  ends_comma c ts = record { no_operator = refl; no_index = refl; no_call = refl; no_equals = refl; no_name = refl }

  last_read : (n : ℕ) (b : B) (f : F) (rest : List Token) → Reads → Well f → Ends rest → after word.Comma rest ≡ None → listed item add (suc n) b (one f rest) ≡ Some (got (add b (tree f)) rest)
  last_read n b f rest r w e c =
      ap (λ o. o >>= (λ x. listed_on (listed item add n) (add b x.value) x.rest (after word.Comma x.rest))) (r.read f rest w e)
      ∙ ap (listed_on (listed item add n) (add b (tree f)) rest) c

  pub listed_read : Reads → (fs : Listed F) (n : ℕ) (b : B) (rest : List Token) → AreWell Well fs → length (tokens one fs rest) ≤ n → Ends rest → after word.Comma rest ≡ None → listed item add n b (tokens one fs rest) ≡ Some (got (gathered add b (trees tree fs)) rest)
  listed_read r (Last f) zero b rest w l e c = absurd (omega (arith, r.grows f rest))
  listed_read r (Last f) (suc n) b rest w l e c = last_read n b f rest r w e c
  listed_read r (Then f s fs) zero b rest w l e c = absurd (omega (arith, r.grows f (the s word.Comma ∷ tokens one fs rest)))
  listed_read r (Then f s fs) (suc n) b rest w l e c =
      ap (λ o. o >>= (λ x. listed_on (listed item add n) (add b x.value) x.rest (after word.Comma x.rest))) (r.read f (the s word.Comma ∷ tokens one fs rest) w.0 (ends_comma s (tokens one fs rest)))
      ∙ listed_read r fs n (add b (tree f)) rest w.1 (omega (arith, l, r.grows f (the s word.Comma ∷ tokens one fs rest))) e c

-- well within a depth, each and all
pub all_within : {F : Type 0} (Well : F → Type 0) (deep : F → ℕ) (d : ℕ) (fs : Listed F) → AreWell Well fs → depth deep fs ≤ d → AreWell (λ f. Well f × (deep f ≤ d)) fs
all_within Well deep d (Last f) w l = (w, l)
all_within Well deep d (Then f c fs) w l = ((w.0, omega arith), all_within Well deep d fs w.1 (omega arith))

pub all_well : {F : Type 0} (Well : F → Type 0) (deep : F → ℕ) (d : ℕ) (fs : Listed F) → AreWell (λ f. Well f × (deep f ≤ d)) fs → AreWell Well fs × (depth deep fs ≤ d)
all_well Well deep d (Last f) w = (w.0, w.1)
all_well Well deep d (Then f c fs) w = let a = all_well Well deep d fs w.1 in ((w.0.0, a.0), omega (arith, w.0.1, a.1))
