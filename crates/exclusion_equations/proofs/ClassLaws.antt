-- Classes that were found so far.
use Rattle.std.proofs.Common.{ℕ, ◌+◌, ◌-◌, ◌<◌, ◌≤◌, ◌≡◌, true, false, ◌||◌, List, [], ◌∷◌, ◌++◌, length, length-append, get_or, take, arith, subst, sym, ap, ◌∙◌, refl, eqb, inl, inr, zero, suc}
use Rattle.std.proofs.lemmas.Bool.{false≢true, cases_lt, or_parts, eqb-false}
use Rattle.std.proofs.lemmas.Bool.Decides.{nat_tests}
use Rattle.std.proofs.lemmas.Option.{slice_get_past}
use Rattle.std.specs.Option.{option_map_or}
use Rattle.cell_sets.specs.Sets.{Cells, has}
use Rattle.cell_sets.specs.declared.runs.Run.{Run}
use Rattle.cell_sets.specs.Runs.{in_run, in_runs}
use Rattle.cell_sets.proofs.RunLaws.{in_runs-take}
use Rattle.path_laws.specs.declared.graph.Node.{Node}
use Rattle.path_laws.specs.declared.graph.Mark.TheVariants.{Plain}
use Rattle.path_laws.specs.Graph.{Graph, may_read, may_write, kills, is_directive, mark_is_directive}
use Rattle.exclusion_equations.specs.declared.signature.Signature.{Signature}
use Rattle.exclusion_equations.specs.Excluded.{IsExactly, numbered}
use Rattle.exclusion_equations.specs.Classes.{AreAlike, AreClasses}
use Rattle.exclusion_equations.specs.Finding.{HasWidth, IsSignature, AreSame, signature_at, AreFound}

-- a node that is not there has no cells and no mark
pub no_read : (g : Graph) (n c : ℕ) → length g.nodes ≤ n → may_read g n c ≡ false
no_read g n c l = ap (λ o. has (option_map_or (λ (d : Node). d.reads) o []) c) (slice_get_past g.nodes n l)

pub no_write : (g : Graph) (n c : ℕ) → length g.nodes ≤ n → may_write g n c ≡ false
no_write g n c l = ap (λ o. has (option_map_or (λ (d : Node). d.writes) o []) c) (slice_get_past g.nodes n l)

pub no_kill : (g : Graph) (n c : ℕ) → length g.nodes ≤ n → kills g n c ≡ false
no_kill g n c l = ap (λ o. has (option_map_or (λ (d : Node). d.kills) o []) c) (slice_get_past g.nodes n l)

pub directive_in : (g : Graph) (k n : ℕ) → is_directive g k n ≡ true → n < length g.nodes
directive_in g k n h =
    elim (cases_lt n (length g.nodes)) [
      | inl l ↦ l
      | inr l ↦ absurd (false≢true (sym (ap (λ o. mark_is_directive k (option_map_or (λ (d : Node). d.mark) o Plain)) (slice_get_past g.nodes n l)) ∙ h))
    ]

pub get_or-push_below : {X : Type 0} (xs : List X) (x : X) (k : ℕ) (d : X) → k < length xs → get_or (xs ++ x ∷ []) k d ≡ get_or xs k d
get_or-push_below [] x k d l = absurd (omega arith)
get_or-push_below (y ∷ xs) x zero d l = refl
get_or-push_below (y ∷ xs) x (suc k) d l = get_or-push_below xs x k d (omega arith)

pub get_or-push_at : {X : Type 0} (xs : List X) (x : X) (k : ℕ) (d : X) → k ≡ length xs → get_or (xs ++ x ∷ []) k d ≡ x
get_or-push_at [] x k d e = ap (λ j. get_or (x ∷ []) j d) e
get_or-push_at (y ∷ xs) x zero d e = absurd (omega arith)
get_or-push_at (y ∷ xs) x (suc k) d e = get_or-push_at xs x k d (omega arith)

no_signature : Signature
no_signature = record { reads = []; writes = []; kills = [] }

pub found_none : (g : Graph) → AreFound g 0 [] [] []
found_none g = record {
  numbers_len = refl;
  few = omega arith;
  signatures_len = refl;
  wide = λ k l. absurd (omega arith);
  below = λ c l. absurd (omega arith);
  signed = λ c l. absurd (omega arith);
  apart = λ k l a b s. absurd (omega arith);
  first_in = λ k l. absurd (omega arith);
  least = λ k b l m. absurd (omega arith);
}

-- the next cell goes into a class that there is
pub found_same : (g : Graph) (end : ℕ) (numbers firsts : List ℕ) (signatures : List Signature) (k : ℕ) → AreFound g end numbers firsts signatures → k < length firsts → IsSignature g end (signature_at signatures k) →
    AreFound g (end + 1) (numbers ++ k ∷ []) firsts signatures
found_same g end numbers firsts signatures k h lk s = record {
  numbers_len = omega (arith, length-append numbers (k ∷ []), h.numbers_len);
  few = omega (arith, h.few);
  signatures_len = h.signatures_len;
  wide = h.wide;
  below = λ c l. elim (cases_lt c end) [
    | inl old ↦ subst (λ (j : ℕ). j < length firsts) (sym (get_or-push_below numbers k c 0 (omega (arith, h.numbers_len)))) (h.below c old)
    | inr new ↦ subst (λ (j : ℕ). j < length firsts) (sym (get_or-push_at numbers k c 0 (omega (arith, h.numbers_len)))) lk
  ];
  signed = λ c l. elim (cases_lt c end) [
    | inl old ↦ subst (λ (j : ℕ). IsSignature g c (signature_at signatures j)) (sym (get_or-push_below numbers k c 0 (omega (arith, h.numbers_len)))) (h.signed c old)
    | inr new ↦ let at : end ≡ c = omega arith in
        subst (λ (j : ℕ). IsSignature g c (signature_at signatures j)) (sym (get_or-push_at numbers k c 0 (omega (arith, h.numbers_len)))) (subst (λ (d : ℕ). IsSignature g d (signature_at signatures k)) at s)
  ];
  apart = h.apart;
  first_in = λ j l. let f = h.first_in j l in (omega (arith, f.0), get_or-push_below numbers k (get_or firsts j 0) 0 (omega (arith, f.0, h.numbers_len)) ∙ f.1);
  least = λ j b l m. let f = h.first_in j l in subst (λ (v : ℕ). v < j) (sym (get_or-push_below numbers k b 0 (omega (arith, f.0, h.numbers_len)))) (h.least j b l m);
}

-- the next cell goes into a class of its own
pub found_new : (g : Graph) (end : ℕ) (numbers firsts : List ℕ) (signatures : List Signature) (wanted : Signature) → AreFound g end numbers firsts signatures → HasWidth (length g.nodes) wanted → IsSignature g end wanted →
    ((k : ℕ) → k < length signatures → AreSame (signature_at signatures k) wanted → ⊥) → AreFound g (end + 1) (numbers ++ length firsts ∷ []) (firsts ++ end ∷ []) (signatures ++ wanted ∷ [])
found_new g end numbers firsts signatures wanted h w s none =
    let d : Signature = record { reads = []; writes = []; kills = [] } in
    let old_sig = (λ (k : ℕ) (l : k < length firsts). get_or-push_below signatures wanted k d (omega (arith, h.signatures_len))) in
    let new_sig = (λ (k : ℕ) (l : length firsts ≤ k) (m : k < length firsts + 1). get_or-push_at signatures wanted k d (omega (arith, h.signatures_len))) in
    let old_number = (λ (c : ℕ) (l : c < end). get_or-push_below numbers (length firsts) c 0 (omega (arith, h.numbers_len))) in
    let new_number = (λ (c : ℕ) (l : end ≤ c) (m : c < end + 1). get_or-push_at numbers (length firsts) c 0 (omega (arith, h.numbers_len))) in
    let count : length (firsts ++ end ∷ []) ≡ length firsts + 1 = omega (arith, length-append firsts (end ∷ [])) in
    record {
      numbers_len = omega (arith, length-append numbers (length firsts ∷ []), h.numbers_len);
      few = omega (arith, h.few, count);
      signatures_len = omega (arith, length-append signatures (wanted ∷ []), h.signatures_len, count);
      wide = λ k l. elim (cases_lt k (length firsts)) [
        | inl old ↦ subst (HasWidth (length g.nodes)) (sym (old_sig k old)) (h.wide k old)
        | inr new ↦ subst (HasWidth (length g.nodes)) (sym (new_sig k new (omega (arith, l, count)))) w
      ];
      below = λ c l. elim (cases_lt c end) [
        | inl old ↦ let b = h.below c old in let e = old_number c old in omega (arith, b, e, count)
        | inr new ↦ let e = new_number c new l in omega (arith, e, count)
      ];
      signed = λ c l. elim (cases_lt c end) [
        | inl old ↦ subst (λ (j : ℕ). IsSignature g c (signature_at (signatures ++ wanted ∷ []) j)) (sym (old_number c old)) (subst (IsSignature g c) (sym (old_sig (get_or numbers c 0) (h.below c old))) (h.signed c old))
        | inr new ↦ let at : end ≡ c = omega arith in
            subst (λ (j : ℕ). IsSignature g c (signature_at (signatures ++ wanted ∷ []) j)) (sym (new_number c new l))
            (subst (IsSignature g c) (sym (new_sig (length firsts) (omega arith) (omega arith))) (subst (λ (q : ℕ). IsSignature g q wanted) at s))
      ];
      apart = λ k l lk ll same. elim (cases_lt k (length firsts)) [
        | inl a ↦ elim (cases_lt l (length firsts)) [
          | inl b ↦ h.apart k l a b (subst (λ (x : Signature). AreSame x (signature_at signatures l)) (old_sig k a) (subst (AreSame (signature_at (signatures ++ wanted ∷ []) k)) (old_sig l b) same))
          | inr b ↦ absurd (none k (omega (arith, h.signatures_len)) (subst (λ (x : Signature). AreSame x wanted) (old_sig k a) (subst (AreSame (signature_at (signatures ++ wanted ∷ []) k)) (new_sig l b (omega (arith, ll, count))) same)))
        ]
        | inr a ↦ elim (cases_lt l (length firsts)) [
          | inl b ↦ absurd (none l (omega (arith, h.signatures_len)) (turned (subst (λ (x : Signature). AreSame x (signature_at signatures l)) (new_sig k a (omega (arith, lk, count))) (subst (AreSame (signature_at (signatures ++ wanted ∷ []) k)) (old_sig l b) same))))
          | inr b ↦ omega (arith, lk, ll, count)
        ]
      ];
      first_in = λ k l. elim (cases_lt k (length firsts)) [
        | inl old ↦
            let f = h.first_in k old in
            let e = get_or-push_below firsts end k 0 old in
            (omega (arith, e, f.0), ap (λ q. get_or (numbers ++ length firsts ∷ []) q 0) e ∙ old_number (get_or firsts k 0) f.0 ∙ f.1)
        | inr new ↦
            let at : k ≡ length firsts = omega (arith, l, count) in
            let e = get_or-push_at firsts end k 0 at in
            (omega (arith, e), ap (λ q. get_or (numbers ++ length firsts ∷ []) q 0) e ∙ new_number end (omega arith) (omega arith) ∙ sym at)
      ];
      least = λ k b l m. elim (cases_lt k (length firsts)) [
        | inl old ↦
            let f = h.first_in k old in
            let e = get_or-push_below firsts end k 0 old in
            let o = old_number b (omega (arith, e, f.0, m)) in
            let r = h.least k b old (omega (arith, e, m)) in omega (arith, o, r)
        | inr new ↦
            let at : k ≡ length firsts = omega (arith, l, count) in
            let e = get_or-push_at firsts end k 0 at in
            let lb : b < end = omega (arith, e, m) in
            let o = old_number b lb in
            let r = h.below b lb in omega (arith, o, r)
      ];
    }
  where
    turned : {s t : Signature} → AreSame s t → AreSame t s
    turned r = record { reads = λ n. sym (r.reads n); writes = λ n. sym (r.writes n); kills = λ n. sym (r.kills n) }

-- the same, by what the lists are then
pub found_grown : (g : Graph) (end : ℕ) (numbers firsts : List ℕ) (signatures : List Signature) (wanted : Signature) (n : ℕ) (numbers' firsts' : List ℕ) (signatures' : List Signature) → n ≡ length firsts → numbers' ≡ numbers ++ n ∷ [] → firsts' ≡ firsts ++ end ∷ [] →
    signatures' ≡ signatures ++ wanted ∷ [] → AreFound g end numbers firsts signatures → HasWidth (length g.nodes) wanted → IsSignature g end wanted → ((k : ℕ) → k < length signatures → AreSame (signature_at signatures k) wanted → ⊥) →
    AreFound g (end + 1) numbers' firsts' signatures'
found_grown g end numbers firsts signatures wanted n numbers' firsts' signatures' e a b d h w s none =
    subst (λ (x : List Signature). AreFound g (end + 1) numbers' firsts' x) (sym d) (subst (λ (x : List ℕ). AreFound g (end + 1) numbers' x (signatures ++ wanted ∷ [])) (sym b)
    (subst (λ (x : List ℕ). AreFound g (end + 1) x (firsts ++ end ∷ []) (signatures ++ wanted ∷ [])) (sym (a ∙ ap (λ j. numbers ++ j ∷ []) e)) (found_new g end numbers firsts signatures wanted h w s none)))

-- a signature of the same nodes
pub signature_same : (g : Graph) (c : ℕ) (s t : Signature) → AreSame s t → IsSignature g c t → IsSignature g c s
signature_same g c s t r h = record { reads = λ n. r.reads n ∙ h.reads n; writes = λ n. r.writes n ∙ h.writes n; kills = λ n. r.kills n ∙ h.kills n }

-- the signature of a cell that is treated alike
pub signature_alike : (g : Graph) (a b : ℕ) (s : Signature) → AreAlike g a b → IsSignature g a s → IsSignature g b s
signature_alike g a b s r h = record { reads = λ n. h.reads n ∙ r.reads n; writes = λ n. h.writes n ∙ r.writes n; kills = λ n. h.kills n ∙ r.kills n }

-- the classes of all cells
pub classes_found : (g : Graph) (end : ℕ) (numbers firsts : List ℕ) (signatures : List Signature) → end ≡ g.cells → AreFound g end numbers firsts signatures → AreClasses g (record { numbers = numbers; firsts = firsts })
classes_found g end numbers firsts signatures e h = record {
  each = h.numbers_len ∙ e;
  below = λ c l. h.below c (omega (arith, e));
  alike = λ a b la lb same.
      let x = h.signed a (omega (arith, e)) in
      let y = subst (λ (j : ℕ). IsSignature g b (signature_at signatures j)) (sym same) (h.signed b (omega (arith, e))) in
      record { reads = λ n. sym (x.reads n) ∙ y.reads n; writes = λ n. sym (x.writes n) ∙ y.writes n; kills = λ n. sym (x.kills n) ∙ y.kills n };
  together = λ a b la lb r.
      let x = h.signed a (omega (arith, e)) in
      let y = h.signed b (omega (arith, e)) in
      h.apart (get_or numbers a 0) (get_or numbers b 0) (h.below a (omega (arith, e))) (h.below b (omega (arith, e)))
      (record { reads = λ n. x.reads n ∙ r.reads n ∙ sym (y.reads n); writes = λ n. x.writes n ∙ r.writes n ∙ sym (y.writes n); kills = λ n. x.kills n ∙ r.kills n ∙ sym (y.kills n) });
  first_in = λ k l. let f = h.first_in k l in (omega (arith, e, f.0), f.1);
  least = h.least;
}

-- a run has two neighbours or neither, unless it begins or ends between them
run_border : (r : Run) (q : ℕ) → (q + 1 ≡ r.first → ⊥) → (q + 1 ≡ r.first + r.count → ⊥) → in_run r q ≡ in_run r (q + 1)
run_border r q a b = grind (arith, nat_tests)

-- one run more of a set is marked
pub run_marked : (old mid new : Cells) (rs : List Run) (i universe : ℕ) (d : Run) → i < length rs → length old ≡ universe → length mid ≡ universe →
    ((q : ℕ) → q < length old → has mid q ≡ (has old q || eqb q (get_or rs i d).first)) → ((q : ℕ) → q < length mid → has new q ≡ (has mid q || eqb q ((get_or rs i d).first + (get_or rs i d).count))) →
    ((q : ℕ) → q + 1 < universe → has old (q + 1) ≡ false → in_runs (take i rs) q ≡ in_runs (take i rs) (q + 1)) →
    (q : ℕ) → q + 1 < universe → has new (q + 1) ≡ false → in_runs (take (i + 1) rs) q ≡ in_runs (take (i + 1) rs) (q + 1)
run_marked old mid new rs i universe d li lo lm m n so_far q lq off =
    let r = get_or rs i d in
    let x = or_parts (has mid (q + 1)) (eqb (q + 1) (r.first + r.count)) (sym (n (q + 1) (omega arith)) ∙ off) in
    let y = or_parts (has old (q + 1)) (eqb (q + 1) r.first) (sym (m (q + 1) (omega arith)) ∙ x.0) in
    in_runs-take rs i q d li ∙ (λ j. so_far q lq y.0 j || run_border r q (eqb-false _ _ y.1) (eqb-false _ _ x.1) j) ∙ sym (in_runs-take rs i (q + 1) d li)

pub kept_off : (old mid new : Cells) (a b : ℕ) → length mid ≡ length old → ((q : ℕ) → q < length old → has mid q ≡ (has old q || eqb q a)) → ((q : ℕ) → q < length mid → has new q ≡ (has mid q || eqb q b)) → (q : ℕ) → q < length old → has new q ≡ false → has old q ≡ false
kept_off old mid new a b e m n q l off =
    let x = or_parts (has mid q) (eqb q b) (sym (n q (omega arith)) ∙ off) in
    (or_parts (has old q) (eqb q a) (sym (m q l) ∙ x.0)).0

-- one node more whose set has its borders marked
pub border_more : (set_of : ℕ → Cells) (set : Cells) (n cells m q : ℕ) → set ≡ set_of n → length set ≡ cells → m < n + 1 → q + 1 < cells → (m < n → has (set_of m) q ≡ has (set_of m) (q + 1)) → (q + 1 < length set → has set q ≡ has set (q + 1)) →
    has (set_of m) q ≡ has (set_of m) (q + 1)
border_more set_of set n cells m q e u lm lq old new =
    elim (cases_lt m n) [
      | inl l ↦ old l
      | inr l ↦ let at : n ≡ m = omega arith in let s : set ≡ set_of m = e ∙ ap set_of at in ap (λ x. has x q) (sym s) ∙ new (omega arith) ∙ ap (λ x. has x (q + 1)) s
    ]

-- the sets of one EXCLUDE_HERE more
pub exact_push : (cells : ℕ) (Test : ℕ → ℕ → Type 0) (k : ℕ) (sets more : List Cells) (s : Cells) → more ≡ sets ++ s ∷ [] → length sets ≡ k → ((j : ℕ) → j < k → IsExactly cells (Test (j + 1)) (get_or sets j [])) → IsExactly cells (Test (k + 1)) s →
    (j : ℕ) → j < k + 1 → IsExactly cells (Test (j + 1)) (get_or more j [])
exact_push cells Test k sets more s e l old new j lj =
    subst (λ (x : List Cells). IsExactly cells (Test (j + 1)) (get_or x j [])) (sym e) (elim (cases_lt j k) [
      | inl below ↦ subst (IsExactly cells (Test (j + 1))) (sym (get_or-push_below sets s j [] (omega arith))) (old j below)
      | inr above ↦ let at : k ≡ j = omega arith in subst (IsExactly cells (Test (j + 1))) (sym (get_or-push_at sets s j [] (omega arith))) (subst (λ (i : ℕ). IsExactly cells (Test (i + 1)) s) at new)
    ])

-- the sets from 1 on
pub numbered_at : (sets : List Cells) (k : ℕ) → 1 ≤ k → get_or sets (k - 1) [] ≡ numbered sets k
numbered_at sets zero le = absurd (omega (arith, le))
numbered_at sets (suc k) le = let e : suc k - 1 ≡ k = omega arith in ap (λ i. get_or sets i []) e

pub numbered_exactly : (cells : ℕ) (Test : ℕ → ℕ → Type 0) (count : ℕ) (sets : List Cells) → ((j : ℕ) → j < count → IsExactly cells (Test (j + 1)) (get_or sets j [])) → (k : ℕ) → 1 ≤ k → k ≤ count → IsExactly cells (Test k) (numbered sets k)
numbered_exactly cells Test count sets each zero low high = absurd (omega (arith, low))
numbered_exactly cells Test count sets each (suc k) low high = let e : k + 1 ≡ suc k = omega arith in subst (λ i. IsExactly cells (Test i) (get_or sets k [])) e (each k (omega (arith, high)))
