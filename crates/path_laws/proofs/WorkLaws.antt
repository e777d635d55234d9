-- The solver's steps keep what it has to keep.
use Rattle.std.proofs.Common.{ℕ, ◌<◌, ◌≡◌, Bool, true, false, ◌&&◌, ◌||◌, not, List, [], ◌∷◌, ◌++◌, length, get_or, arith, subst, sym, ap, ◌∙◌, refl, eqb, inl, inr, ◌⊎◌, zero, suc}
use Rattle.std.proofs.lemmas.Bool.{false≢true, cases_eq, cases_Bool, eq-eqb, eqb-true, or_cases, or_right, or_left}
use Rattle.cell_sets.specs.Sets.{Cells}
use Rattle.path_laws.specs.Reaching.{IsPath, Until, Reaches, in_row, IsSolution}
use Rattle.path_laws.specs.Solving.{listed, before_of, IsLeft, Never, IsPartial, IsStep}

-- a goal that can be reached from a successor can be reached
pub one_more : (edge : ℕ → ℕ → Bool) (goal stop : ℕ → Bool) (n m : ℕ) → edge n m ≡ true → stop n ≡ false → Reaches edge goal stop m → Reaches edge goal stop n
one_more edge goal stop n m e s r = (m ∷ r.0, ((e, r.1.0), (s, r.1.1)))

-- at the end each walk is in the rows
walk_in : (edge : ℕ → ℕ → Bool) (goals stops rows : List Cells) (c : ℕ) → ((n : ℕ) → in_row goals n c ≡ true → in_row rows n c ≡ true) →
    ((k p : ℕ) → edge k p ≡ true → in_row rows p c ≡ true → in_row stops k c ≡ false → in_row rows k c ≡ true) →
    (n : ℕ) (w : List ℕ) → IsPath edge n w → Until (λ k. in_row goals k c) (λ k. in_row stops k c) n w → in_row rows n c ≡ true
walk_in edge goals stops rows c goal closed n [] p u = goal n u
walk_in edge goals stops rows c goal closed n (m ∷ w) p u = closed n m p.0 (walk_in edge goals stops rows c goal closed m w p.1 u.1) u.0

none_left : (A B : Type 0) → ((listed [] 0 ≡ true) ⊎ (A ⊎ B)) → (B → ⊥) → A
none_left A B h never = elim h [ inl f ↦ absurd (false≢true f) | inr (inl a) ↦ a | inr (inr b) ↦ absurd (never b) ]

pub done : (edge : ℕ → ℕ → Bool) (goals stops rows : List Cells) → IsPartial edge goals stops rows [] Never → IsSolution edge goals stops rows
done edge goals stops rows h = record {
  rows_len = h.rows_len;
  sound = h.sound;
  complete = λ n c l r. walk_in edge goals stops rows c (λ k. h.goals_in k c) (λ k p e x s. none_left _ _ (h.served k p c e x s) (λ b. b)) n r.0 r.1.0 r.1.1;
}

-- at the start each goal is a walk, and each node is in the list
pub start : (edge : ℕ → ℕ → Bool) (goals stops rows : List Cells) (work : List ℕ) → rows ≡ goals → ((n m : ℕ) → edge n m ≡ true → (n < length goals) × (m < length goals)) →
    ((k : ℕ) → k < length goals → listed work k ≡ true) → ((k : ℕ) → listed work k ≡ true → k < length goals) → IsPartial edge goals stops rows work Never
start edge goals stops rows work same within all only = record {
  rows_len = ap length same;
  sound = λ n c x. ([], (tt, ap (λ rs. in_row rs n c) (sym same) ∙ x));
  goals_in = λ n c x. ap (λ rs. in_row rs n c) same ∙ x;
  served = λ k p c e x s. inl (all p (within k p e).1);
  work_in = only;
}

or_or : (x y z : Bool) → (x || (y || z)) ≡ ((x || y) || z)
or_or true y z = refl
or_or false y z = refl

or_false : (x : Bool) → (x || false) ≡ x
or_false true = refl
or_false false = refl

pub listed-push : (work : List ℕ) (m k : ℕ) → listed (work ++ m ∷ []) k ≡ (listed work k || eqb m k)
listed-push [] m k = or_false (eqb m k)
listed-push (x ∷ work) m k = ap (λ b. eqb x k || b) (listed-push work m k) ∙ or_or (eqb x k) (listed work k) (eqb m k)

pub listed_at : (list : List ℕ) (i d : ℕ) → i < length list → listed list (get_or list i d) ≡ true
listed_at [] i d l = absurd (omega arith)
listed_at (x ∷ list) zero d l = or_left (eqb x x) (listed list x) (eq-eqb x x refl)
listed_at (x ∷ list) (suc i) d l = or_right (eqb x (get_or list i d)) (listed list (get_or list i d)) (listed_at list i d (omega arith))

-- the last node is taken off the list of work, and each edge into it is left
pub taken : (edge : ℕ → ℕ → Bool) (goals stops rows : List Cells) (all work before : List ℕ) (m : ℕ) → all ≡ work ++ m ∷ [] → ((k : ℕ) → edge k m ≡ true → listed before k ≡ true) →
    IsPartial edge goals stops rows all Never → IsPartial edge goals stops rows work (IsLeft m before)
taken edge goals stops rows all work before m e into h = record {
  rows_len = h.rows_len;
  sound = h.sound;
  goals_in = h.goals_in;
  served = λ k p c ed x s. elim (h.served k p c ed x s) [
    | inl f ↦ elim (or_cases (listed work p) (eqb m p) (sym (listed-push work m p) ∙ ap (λ w. listed w p) (sym e) ∙ f)) [
      | inl a ↦ inl a
      | inr b ↦ let at : m ≡ p = eqb-true m p b in inr (inr (sym at, into k (ap (edge k) at ∙ ed)))
    ]
    | inr (inl a) ↦ inr (inl a)
    | inr (inr b) ↦ absurd b
  ];
  work_in = λ k f. h.work_in k (ap (λ w. listed w k) e ∙ listed-push work m k ∙ or_left _ _ f);
}

pub taken_in : (edge : ℕ → ℕ → Bool) (goals stops rows : List Cells) (all work : List ℕ) (m : ℕ) → all ≡ work ++ m ∷ [] → IsPartial edge goals stops rows all Never → m < length goals
taken_in edge goals stops rows all work m e h = h.work_in m (ap (λ w. listed w m) e ∙ listed-push work m m ∙ or_right _ _ (eq-eqb m m refl))

-- once all edges into m are looked at, none is left over
pub all_seen : (edge : ℕ → ℕ → Bool) (goals stops rows : List Cells) (work left : List ℕ) (m : ℕ) → left ≡ [] → IsPartial edge goals stops rows work (IsLeft m left) → IsPartial edge goals stops rows work Never
all_seen edge goals stops rows work left m e h = record {
  rows_len = h.rows_len;
  sound = h.sound;
  goals_in = h.goals_in;
  served = λ k p c ed x s. elim (h.served k p c ed x s) [
    | inl f ↦ inl f
    | inr (inl a) ↦ inr (inl a)
    | inr (inr b) ↦ absurd (false≢true (ap (λ l. listed l k) (sym e) ∙ b.1))
  ];
  work_in = h.work_in;
}

-- what a grown row has, it had or got
grown_cases : (x a d e : Bool) → (x || (a && (d && not e))) ≡ true → (x ≡ true) ⊎ ((a ≡ true) × (d ≡ true) × (e ≡ false))
grown_cases true a d e h = inl refl
grown_cases false true true false h = inr (refl, refl, refl)
grown_cases false true true true h = absurd (false≢true h)
grown_cases false true false e h = absurd (false≢true h)
grown_cases false false d e h = absurd (false≢true h)

now_has : (a d e : Bool) → a ≡ true → d ≡ true → e ≡ false → (a && (d && not e)) ≡ true
now_has a d e x z w = (λ i. x i && (z i && not (w i)))

-- one edge more is looked at
pub seen : (edge : ℕ → ℕ → Bool) (goals stops rows : List Cells) (work : List ℕ) (rows' : List Cells) (work' left rest : List ℕ) (n m width : ℕ) → left ≡ n ∷ rest → edge n m ≡ true → n < length goals →
    IsStep stops n m width rows work rows' work' → IsPartial edge goals stops rows work (IsLeft m left) → IsPartial edge goals stops rows' work' (IsLeft m rest)
seen edge goals stops rows work rows' work' left rest n m width first ed' ln s h =
    let keep = (λ (k c : ℕ) (x : in_row rows k c ≡ true). s.grown k c ∙ or_left (in_row rows k c) (eqb k n && (in_row rows m c && not (in_row stops n c))) x) in
    record {
      rows_len = s.rows_len ∙ h.rows_len;
      sound = λ k c x. elim (grown_cases (in_row rows k c) (eqb k n) (in_row rows m c) (in_row stops n c) (sym (s.grown k c) ∙ x)) [
        | inl old ↦ h.sound k c old
        | inr new ↦ subst (λ (j : ℕ). Reaches edge (λ i. in_row goals i c) (λ i. in_row stops i c) j) (sym (eqb-true k n new.0))
            (one_more edge (λ i. in_row goals i c) (λ i. in_row stops i c) n m ed' new.2 (h.sound m c new.1))
      ];
      goals_in = λ k c x. keep k c (h.goals_in k c x);
      served = λ k p c ed x st. elim (cases_Bool (in_row rows p c)) [
        | inr fresh ↦ inl (s.noted p c fresh x)
        | inl old ↦ elim (h.served k p c ed old st) [
          | inl f ↦ inl (s.kept p f)
          | inr (inl a) ↦ inr (inl (keep k c a))
          | inr (inr b) ↦ elim (cases_eq k n) [
            | inl e ↦ inr (inl (s.grown k c ∙ or_right (in_row rows k c) (eqb k n && (in_row rows m c && not (in_row stops n c))) (now_has (eqb k n) (in_row rows m c) (in_row stops n c)
                (eq-eqb k n e) ((λ i. in_row rows (sym b.0 i) c) ∙ old) ((λ i. in_row stops (sym e i) c) ∙ st))))
            | inr ne ↦ elim (or_cases (eqb n k) (listed rest k) (ap (λ l. listed l k) (sym first) ∙ b.1)) [
              | inl at ↦ absurd (ne (sym (eqb-true n k at)))
              | inr later ↦ inr (inr (b.0, later))
            ]
          ]
        ]
      ];
      work_in = λ k f. elim (s.work_in k f) [ inl a ↦ h.work_in k a | inr b ↦ omega arith ];
    }

-- what was read as the list of the nodes before m has exactly the edges into m
pub lists_edges : (edge : ℕ → ℕ → Bool) (lists : List (List ℕ)) (m : ℕ) (list read : List ℕ) → list ≡ read → read ≡ get_or lists m [] → ((n p : ℕ) → listed (before_of lists p) n ≡ edge n p) → (k : ℕ) → listed list k ≡ edge k m
lists_edges edge lists m list read e f h k = ap (λ l. listed l k) (e ∙ f) ∙ h k m
