-- The depths of a block of instructions: how many operands there are before each of them.
use Rattle.std.proofs.Common.{◌≡◌, ◌≢◌, ℕ, suc, ◌+◌, ◌-◌, ◌<◌, ◌≤◌, List, [], ◌∷◌, ◌++◌, length, Some, refl, sym, ◌∙◌, subst, ◌⊎◌, ⊎_elim, arith, length-append}
use Rattle.std.specs.Prelude.{slice_get, slice_index, IsTrue}
use Rattle.std.proofs.lemmas.Bool.{cases_lt}
use Rattle.std.proofs.lemmas.Option.{get_or_from_slice_get}
use Rattle.machine_code.specs.declared.instr.Instr.{Instr}
use Rattle.machine_code.specs.declared.instr.Instr.TheVariants as instr
use Rattle.machine_code.specs.CodeView.{CodeView, home}
use Rattle.machine_code.specs.Needs.{needs, gives, EachNext}
use Rattle.code_maker.proofs.Segments.{some_is}
use Rattle.machine_code.specs.Valid.{Names, LevelAt, IsNext, Stands, NoneComesTo, has_checkpoint}

-- ---- lists that stand in a list

-- the elements stand in the list from place p on
abbrev pub StandsFrom : {A : Type 0} → List A → ℕ → List A → Type 0
StandsFrom xs p [] = Unit {0}
StandsFrom xs p (y ∷ ys) = (slice_get xs p ≡ Some y) × StandsFrom xs (p + 1) ys

pub front_stands : {A : Type 0} → (xs : List A) (p : ℕ) (a b : List A) → StandsFrom xs p (a ++ b) → StandsFrom xs p a
front_stands xs p [] b h = tt
front_stands xs p (y ∷ a) b h = (h.0, front_stands xs (p + 1) a b h.1)

pub back_stands : {A : Type 0} → (xs : List A) (p : ℕ) (a b : List A) → StandsFrom xs p (a ++ b) → StandsFrom xs (p + length a) b
back_stands xs p [] b h = let e : p ≡ p + 0 = omega arith in subst (λ n. StandsFrom xs n b) e h
back_stands xs p (y ∷ a) b h =
    let e : p + 1 + length a ≡ p + length (y ∷ a) = omega arith in
    subst (λ n. StandsFrom xs n b) e (back_stands xs (p + 1) a b h.1)

later_stands : {A : Type 0} → (x : A) (xs ys : List A) (p : ℕ) → StandsFrom xs p ys → StandsFrom (x ∷ xs) (p + 1) ys
later_stands x xs [] p h = tt
later_stands x xs (y ∷ ys) p h =
    let e : suc p ≡ p + 1 = omega arith in
    (subst (λ n. slice_get (x ∷ xs) n ≡ Some y) e h.0, later_stands x xs ys (p + 1) h.1)

pub all_stand : {A : Type 0} → (xs : List A) → StandsFrom xs 0 xs
all_stand [] = tt
all_stand (x ∷ xs) = (refl, later_stands x xs xs 0 (all_stand xs))

-- ---- places

-- what an instruction at place q names beside its operands: a cell, a directive, a checkpoint of the table
abbrev pub IsSound : CodeView → ℕ → ℕ → ℕ → Instr → Type 0
IsSound c cells most q (instr.LoadC cell) = cell < cells
IsSound c cells most q (instr.StoreC cell) = cell < cells
IsSound c cells most q (instr.Excl k) = (1 ≤ k) × (k ≤ most)
IsSound c cells most q (instr.Ckpt n) = IsTrue (has_checkpoint c n (q + 1))
IsSound c cells most q i = Unit {0}

-- place q of the code is right, with these depths
pub record IsPlace (c : CodeView) (cells most : ℕ) (depths : List ℕ) (q : ℕ) : Type 0 where
  pub stands : (i : Instr) → slice_get c.instrs q ≡ Some i → Stands c depths q i
  pub sound : (i : Instr) → slice_get c.instrs q ≡ Some i → IsSound c cells most q i
  pub reached : NoneComesTo c q → slice_index depths q ≡ 0

-- where the code of a graph stands: from `low` on, its end node at `last`; its function begins at `own`
pub record Setting : Type 0 where
  pub code : CodeView
  pub cells : ℕ
  pub most : ℕ
  pub own : ℕ
  pub low : ℕ
  pub last : ℕ
  pub size : ℕ
  pub start : ℕ → ℕ
  pub within : last + 1 < length code.instrs
  pub at_home : (q : ℕ) → low ≤ q → q ≤ last + 1 → home code.functions q ≡ own
  pub starts : (n : ℕ) → n < size → low ≤ start n
  pub ends : (n : ℕ) → n < size → start n ≤ last
  pub ticks : (n : ℕ) → n < size → (start n ≡ last) ⊎ (slice_get code.instrs (start n) ≡ Some instr.Tick)

abbrev pub Place : Setting → List ℕ → ℕ → Type 0
Place S depths q = IsPlace S.code S.cells S.most depths q

-- there are no operands where a node's segment begins
abbrev pub AreLevel : Setting → List ℕ → Type 0
AreLevel S depths = (n : ℕ) → n < S.size → slice_index depths (S.start n) ≡ 0

-- no instruction goes on at q, or there are no operands
abbrev pub Unreached : CodeView → ℕ → ℕ → Type 0
Unreached c q d = NoneComesTo c q → d ≡ 0

pub stands_with : (c : CodeView) (depths : List ℕ) (q : ℕ) (i : Instr) (d : ℕ) → slice_index depths q ≡ d → needs c i ≤ d → d ≤ c.stack → LevelAt i d → Names c q i → EachNext (IsNext c depths q (d - needs c i + gives i)) i q → Stands c depths q i
stands_with c depths q i d e enough few level names next = record {
  enough = subst (λ x. needs c i ≤ x) (sym e) enough;
  few = subst (λ x. x ≤ c.stack) (sym e) few;
  level = subst (λ x. LevelAt i x) (sym e) level;
  names = names;
  next = subst (λ x. EachNext (IsNext c depths q (x - needs c i + gives i)) i q) (sym e) next;
}

pub place_with : (c : CodeView) (cells most : ℕ) (depths : List ℕ) (q : ℕ) (i : Instr) (d : ℕ) → slice_get c.instrs q ≡ Some i → slice_index depths q ≡ d → needs c i ≤ d → d ≤ c.stack → LevelAt i d → Names c q i → IsSound c cells most q i
    → EachNext (IsNext c depths q (d - needs c i + gives i)) i q → Unreached c q d → IsPlace c cells most depths q
place_with c cells most depths q i d at e enough few level names sound next unreached = record {
  stands = λ j h. subst (Stands c depths q) (some_is (sym at ∙ h)) (stands_with c depths q i d e enough few level names next);
  sound = λ j h. subst (IsSound c cells most q) (some_is (sym at ∙ h)) sound;
  reached = λ none. e ∙ unreached none;
}

-- on to a later place
pub later : (S : Setting) (depths : List ℕ) (p q d : ℕ) → S.low ≤ p → p < q → q ≤ S.last + 1 → slice_index depths q ≡ d → IsNext S.code depths p d q
later S depths p q d low lt le e = record {
  within = omega (arith, S.within);
  same = S.at_home q (omega arith) le ∙ sym (S.at_home p low (omega arith));
  depth = e;
  back = λ back. absurd (omega arith);
}

-- on to where a node's segment begins
pub to_start : (S : Setting) (depths : List ℕ) (p n : ℕ) → S.low ≤ p → p < S.last → n < S.size → AreLevel S depths → IsNext S.code depths p 0 (S.start n)
to_start S depths p n low lt within level = record {
  within = omega (arith, S.within, S.ends n within);
  same = S.at_home (S.start n) (S.starts n within) (omega (arith, S.ends n within)) ∙ sym (S.at_home p low (omega arith));
  depth = level n within;
  back = λ back. ⊎_elim {C = slice_get S.code.instrs (S.start n) ≡ Some instr.Tick} (λ e. absurd (omega arith)) (λ e. e) (S.ticks n within);
}

-- ---- blocks

-- a block at place p, with d operands before it and d' behind it
pub record HasDepths (S : Setting) (p : ℕ) (is : List Instr) (d d' : ℕ) : Type 0 where
  pub depths : List ℕ
  pub same : length depths ≡ length is
  pub first : (D : List ℕ) → StandsFrom D p depths → slice_index D (p + length is) ≡ d' → slice_index D p ≡ d
  pub places : (D : List ℕ) → AreLevel S D → StandsFrom D p depths → slice_index D (p + length is) ≡ d' → Unreached S.code p d → (q : ℕ) → p ≤ q → q < p + length is → Place S D q
  pub unreached : Unreached S.code p d → Unreached S.code (p + length is) d'

-- .. where it stands in the code of the graph, before its end node
abbrev pub Fits : Setting → ℕ → List Instr → ℕ → ℕ → Type 0
Fits S p is d d' = StandsFrom S.code.instrs p is → S.low ≤ p → p + length is ≤ S.last → HasDepths S p is d d'

-- nothing
pub none_fits : (S : Setting) (p d : ℕ) → Fits S p [] d d
none_fits S p d at low le = record {
  depths = [];
  same = refl;
  first = λ D h e. let z : p + 0 ≡ p = omega arith in subst (λ n. slice_index D n ≡ d) z e;
  places = λ D level h e u q le lt. absurd (omega arith);
  unreached = λ u. let z : p ≡ p + 0 = omega arith in subst (λ n. Unreached S.code n d) z u;
}

-- one instruction that goes on to the next place
pub one_fits : (S : Setting) (p : ℕ) (i : Instr) (d d' : ℕ) → needs S.code i ≤ d → d ≤ S.code.stack → d - needs S.code i + gives i ≡ d' → LevelAt i d → (S.low ≤ p → p < S.last → Names S.code p i) → IsSound S.code S.cells S.most p i
    → ((P : ℕ → Type 0) → P (p + 1) → EachNext P i p) → ((P : ℕ → Type 0) → EachNext P i p → P (p + 1)) → Fits S p (i ∷ []) d d'
one_fits S p i d d' enough few leaves level names sound to from at low le = record {
  depths = d ∷ [];
  same = refl;
  first = λ D h e. get_or_from_slice_get D p d 0 h.0;
  places = λ D starts h e u q from_p to_p.
      let here : p ≡ q = omega arith in
      let next : IsNext S.code D p (d - needs S.code i + gives i) (p + 1) = later S D p (p + 1) (d - needs S.code i + gives i) low (omega arith) (omega arith) (e ∙ sym leaves) in
      subst (Place S D) here (place_with S.code S.cells S.most D p i d at.0 (get_or_from_slice_get D p d 0 h.0) enough few level (names low (omega arith)) sound (to (IsNext S.code D p (d - needs S.code i + gives i)) next) u);
  unreached = λ u none. absurd (from (λ r. r ≢ p + 1) (none p i at.0) refl);
}

-- one block behind another
pub both_fit : (S : Setting) (p : ℕ) (a b : List Instr) (d e d' : ℕ) → Fits S p a d e → Fits S (p + length a) b e d' → Fits S p (a ++ b) d d'
both_fit S p a b d e d' fa fb at low le =
    let A : HasDepths S p a d e = fa (front_stands S.code.instrs p a b at) low (omega (arith, length-append a b)) in
    let B : HasDepths S (p + length a) b e d' = fb (back_stands S.code.instrs p a b at) (omega arith) (omega (arith, length-append a b)) in
    let z : p + length (a ++ b) ≡ p + length a + length b = omega (arith, length-append a b) in
    let behind : (D : List ℕ) → StandsFrom D p (A.depths ++ B.depths) → StandsFrom D (p + length a) B.depths = λ D h. subst (λ n. StandsFrom D (p + n) B.depths) A.same (back_stands D p A.depths B.depths h) in
    record {
      depths = A.depths ++ B.depths;
      same = omega (arith, length-append A.depths B.depths, A.same, B.same, length-append a b);
      first = λ D h x. A.first D (front_stands D p A.depths B.depths h) (B.first D (behind D h) (subst (λ n. slice_index D n ≡ d') z x));
      places = λ D starts h x u q from_p to_p.
          let y : slice_index D (p + length a + length b) ≡ d' = subst (λ n. slice_index D n ≡ d') z x in
          ⊎_elim {C = Place S D q}
          (λ below. A.places D starts (front_stands D p A.depths B.depths h) (B.first D (behind D h) y) u q from_p below)
          (λ above. B.places D starts (behind D h) y (A.unreached u) q above (omega arith))
          (cases_lt q (p + length a));
      unreached = λ u. subst (λ n. Unreached S.code n d') (sym z) (B.unreached (A.unreached u));
    }
