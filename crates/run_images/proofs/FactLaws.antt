-- What the fold over events keeps: where the newest image and the newest directive stand in them, and what was written since.
use Rattle.std.proofs.Common.{◌≡◌, refl, sym, ◌∙◌, ap, subst, ℕ, ◌+◌, ◌==◌, ◌||◌, Bool, true, false, cond, inl, inr, ◌⊎◌, ⊎_elim, List, [], ◌∷◌, ◌++◌, append_assoc, append-nil, arith}
use Rattle.std.specs.List.{list_any, Contains}
use Rattle.std.proofs.lemmas.Bool.Decides.{nat_tests}
use Rattle.std.proofs.lemmas.List.Elements.{Contains-append_left, Contains-append_right, Contains-append_cases, Contains-push_cases}
use Rattle.ckpt_base.specs.Event.{Event, Wrote, Byte, Took, Excluded, Checkpoint}
use Rattle.flow_graph.specs.Agreement.{wrote}
use Rattle.flow_graph.specs.Spared.{NoneExcluded}
use Rattle.run_images.specs.Since.{Since, at_first, is_due, with_event, since_after}
use Rattle.run_images.specs.Images.{Taking, TakenImage, taken_at, taken_with, images_from, images}
use Rattle.run_images.proofs.ImageLaws.{since_more, images_more, taken_due}

abbrev pub has_cell : List ℕ → ℕ → Bool
has_cell written c = list_any (λ d. d == c) written

-- the newest image, the checkpoint that took it, and the events behind that
pub record Past (T : Taking) (es : List Event) (s : Since) : Type 0 where
  pub front : List TakenImage
  pub image : TakenImage
  pub images_are : images T es ≡ front ++ image ∷ []
  pub before : List Event
  pub tick : ℕ
  pub behind : List Event
  pub split : es ≡ before ++ Checkpoint image.fields.node tick ∷ behind
  pub due : is_due T.every (since_after T.every before at_first) tick ≡ true
  pub taken : image ≡ taken_at T image.fields.node tick (since_after T.every before at_first)
  pub spared : (c : ℕ) → has_cell s.written c ≡ false → Contains (wrote behind) c → ⊥

-- the newest directive, and the events behind it
pub record Under (es : List Event) (s : Since) : Type 0 where
  pub before : List Event
  pub behind : List Event
  pub split : es ≡ before ++ Excluded s.directive ∷ behind
  pub none : NoneExcluded behind
  pub within : s.included ≡ true → (c : ℕ) → has_cell s.written c ≡ true → Contains (wrote behind) c

pub record Facts (T : Taking) (es : List Event) (s : Since) : Type 0 where
  pub is : s ≡ since_after T.every es at_first
  pub none : s.number ≡ 0 → images T es ≡ []
  pub some : (s.number ≡ 0 → ⊥) → Past T es s
  pub under : (s.directive ≡ 0 → ⊥) → Under es s
  pub included : s.included ≡ true → s.number ≡ 0 → ⊥

wrote_both : (xs ys : List Event) → wrote (xs ++ ys) ≡ wrote xs ++ wrote ys
wrote_both [] ys = refl
wrote_both (Wrote c ∷ xs) ys = ap (λ (l : List ℕ). c ∷ l) (wrote_both xs ys)
wrote_both (Byte b ∷ xs) ys = wrote_both xs ys
wrote_both (Took ∷ xs) ys = wrote_both xs ys
wrote_both (Excluded k ∷ xs) ys = wrote_both xs ys
wrote_both (Checkpoint m t ∷ xs) ys = wrote_both xs ys

abbrev IsNoDirective : Event → Type 0
IsNoDirective (Wrote c) = Unit {0}
IsNoDirective (Byte b) = Unit {0}
IsNoDirective Took = Unit {0}
IsNoDirective (Excluded k) = ⊥
IsNoDirective (Checkpoint m t) = Unit {0}

none_more : (es : List Event) (e : Event) → NoneExcluded es → IsNoDirective e → NoneExcluded (es ++ e ∷ [])
none_more [] (Wrote c) h n = tt
none_more [] (Byte b) h n = tt
none_more [] Took h n = tt
none_more [] (Excluded k) h n = absurd n
none_more [] (Checkpoint m t) h n = tt
none_more (Wrote c ∷ es) e h n = none_more es e h n
none_more (Byte b ∷ es) e h n = none_more es e h n
none_more (Took ∷ es) e h n = none_more es e h n
none_more (Excluded k ∷ es) e h n = absurd h
none_more (Checkpoint m t ∷ es) e h n = none_more es e h n

pub none_written : (c : ℕ) → Contains [] c → ⊥
none_written c h = omega (arith, h.1)

-- one event more behind
past_more : (T : Taking) (es : List Event) (s s' : Since) (e : Event) → images T (es ++ e ∷ []) ≡ images T es → ((c : ℕ) → has_cell s'.written c ≡ false → (has_cell s.written c ≡ false) × (Contains (wrote (e ∷ [])) c → ⊥)) → Past T es s → Past T (es ++ e ∷ []) s'
past_more T es s s' e same less p = record {
  front = p.front;
  image = p.image;
  images_are = same ∙ p.images_are;
  before = p.before;
  tick = p.tick;
  behind = p.behind ++ e ∷ [];
  split = ap (λ l. l ++ e ∷ []) p.split ∙ append_assoc p.before (Checkpoint p.image.fields.node p.tick ∷ p.behind) (e ∷ []);
  due = p.due;
  taken = p.taken;
  spared = λ c no h. let l = less c no in ⊎_elim (p.spared c l.0) l.1 (Contains-append_cases (wrote p.behind) (wrote (e ∷ [])) c (subst (λ x. Contains x c) (wrote_both p.behind (e ∷ [])) h));
}

under_more : (es : List Event) (s s' : Since) (e : Event) → s'.directive ≡ s.directive → IsNoDirective e → (s'.included ≡ true → (c : ℕ) → has_cell s'.written c ≡ true → ((s.included ≡ true) × (has_cell s.written c ≡ true)) ⊎ Contains (wrote (e ∷ [])) c) → Under es s → Under (es ++ e ∷ []) s'
under_more es s s' e same plain more u = record {
  before = u.before;
  behind = u.behind ++ e ∷ [];
  split = ap (λ l. l ++ e ∷ []) u.split ∙ append_assoc u.before (Excluded s.directive ∷ u.behind) (e ∷ []) ∙ ap (λ k. u.before ++ Excluded k ∷ (u.behind ++ e ∷ [])) (sym same);
  none = none_more u.behind e u.none plain;
  within = λ inc c yes. subst (λ x. Contains x c) (sym (wrote_both u.behind (e ∷ [])))
      (⊎_elim (λ was. Contains-append_left (wrote u.behind) (wrote (e ∷ [])) c (u.within was.0 c was.1)) (λ now. Contains-append_right (wrote u.behind) (wrote (e ∷ [])) c now) (more inc c yes));
}

pub or_both : (a b : Bool) → (a || b) ≡ false → (a ≡ false) × (b ≡ false)
or_both true b e = absurd (let z : true ≡ false = e in cc)
or_both false b e = (refl, e)

pub or_one : (a b : Bool) → (a || b) ≡ true → (a ≡ true) ⊎ (b ≡ true)
or_one true b e = inl refl
or_one false b e = inr e

first_here : (d c : ℕ) → (d == c) ≡ true → Contains (d ∷ []) c
first_here d c e = (0, omega arith, grind (arith, nat_tests, e))

pub not_first : (d c : ℕ) → (d == c) ≡ false → Contains (d ∷ []) c → ⊥
not_first d c e h = ⊎_elim (λ x. none_written c x) (λ x. absurd (grind (arith, nat_tests, e, x))) (Contains-push_cases [] d c h)

module _ (T : Taking) (es : List Event) (s : Since) (h : Facts T es s) where
  is_more : (e : Event) → with_event T.every e s ≡ since_after T.every (es ++ e ∷ []) at_first
  is_more e = ap (with_event T.every e) h.is ∙ sym (since_more T.every es (e ∷ []) at_first)

  images_same : (e : Event) → taken_with T e s ≡ [] → images T (es ++ e ∷ []) ≡ images T es
  images_same e none = images_more T es (e ∷ []) at_first ∙ ap (λ (x : Since). images T es ++ (taken_with T e x ++ [])) (sym h.is) ∙ ap (λ l. images T es ++ (l ++ [])) none ∙ append-nil (images T es)

  -- an event that neither writes, nor is a directive, nor takes an image
  plain_facts : (e : Event) → with_event T.every e s ≡ s → taken_with T e s ≡ [] → IsNoDirective e → wrote (e ∷ []) ≡ [] → Facts T (es ++ e ∷ []) s
  plain_facts e same none plain nothing = record {
    is = sym same ∙ is_more e;
    none = λ z. images_same e none ∙ h.none z;
    some = λ z. past_more T es s s e (images_same e none) (λ c no. (no, λ x. none_written c (subst (λ l. Contains l c) nothing x))) (h.some z);
    under = λ z. under_more es s s e refl plain (λ inc c yes. inl (inc, yes)) (h.under z);
    included = h.included;
  }

  step_facts : (e : Event) → Facts T (es ++ e ∷ []) (with_event T.every e s)
  step_facts (Byte b) = record {
    is = is_more (Byte b);
    none = λ z. images_same (Byte b) refl ∙ h.none z;
    some = λ z. past_more T es s (with_event T.every (Byte b) s) (Byte b) (images_same (Byte b) refl) (λ c no. (no, none_written c)) (h.some z);
    under = λ z. under_more es s (with_event T.every (Byte b) s) (Byte b) refl tt (λ inc c yes. inl (inc, yes)) (h.under z);
    included = h.included;
  }
  step_facts Took = record {
    is = is_more Took;
    none = λ z. images_same Took refl ∙ h.none z;
    some = λ z. past_more T es s (with_event T.every Took s) Took (images_same Took refl) (λ c no. (no, none_written c)) (h.some z);
    under = λ z. under_more es s (with_event T.every Took s) Took refl tt (λ inc c yes. inl (inc, yes)) (h.under z);
    included = h.included;
  }
  step_facts (Wrote d) = record {
    is = is_more (Wrote d);
    none = λ z. images_same (Wrote d) refl ∙ h.none z;
    some = λ z. past_more T es s (with_event T.every (Wrote d) s) (Wrote d) (images_same (Wrote d) refl) (λ c no. let b = or_both (d == c) (has_cell s.written c) no in (b.1, not_first d c b.0)) (h.some z);
    under = λ z. under_more es s (with_event T.every (Wrote d) s) (Wrote d) refl tt (λ inc c yes. ⊎_elim (λ x. inr (first_here d c x)) (λ x. inl (inc, x)) (or_one (d == c) (has_cell s.written c) yes)) (h.under z);
    included = h.included;
  }
  step_facts (Excluded k) = record {
    is = is_more (Excluded k);
    none = λ z. images_same (Excluded k) refl ∙ h.none z;
    some = λ z. past_more T es s (with_event T.every (Excluded k) s) (Excluded k) (images_same (Excluded k) refl) (λ c no. (no, none_written c)) (h.some z);
    under = λ z. record { before = es; behind = []; split = refl; none = tt; within = λ inc c yes. absurd (let w : false ≡ true = inc in cc) };
    included = λ inc z. absurd (let w : false ≡ true = inc in cc);
  }
  step_facts (Checkpoint n t) = by_due (is_due T.every s t) refl
    where
      by_due : (b : Bool) → is_due T.every s t ≡ b → Facts T (es ++ Checkpoint n t ∷ []) (with_event T.every (Checkpoint n t) s)
      by_due false e =
          let same : with_event T.every (Checkpoint n t) s ≡ s = ap (λ (b : Bool). cond b (record s { number = s.number + 1; newest_tick = t; written = []; included = true }) s) e in
          subst (Facts T (es ++ Checkpoint n t ∷ [])) (sym same) (plain_facts (Checkpoint n t) same (ap (λ (b : Bool). cond b (taken_at T n t s ∷ []) []) e) tt refl)
      by_due true e =
          let now : Since = record s { number = s.number + 1; newest_tick = t; written = []; included = true } in
          let same : with_event T.every (Checkpoint n t) s ≡ now = ap (λ (b : Bool). cond b (record s { number = s.number + 1; newest_tick = t; written = []; included = true }) s) e in
          subst (Facts T (es ++ Checkpoint n t ∷ [])) (sym same) (record {
            is = sym same ∙ is_more (Checkpoint n t);
            none = λ z. absurd (omega (arith, z));
            some = λ z. record {
              front = images T es;
              image = taken_at T n t s;
              images_are = images_more T es (Checkpoint n t ∷ []) at_first ∙ ap (λ (x : Since). images T es ++ images_from T (Checkpoint n t ∷ []) x) (sym h.is) ∙ ap (λ l. images T es ++ l) (taken_due T n t s e);
              before = es;
              tick = t;
              behind = [];
              split = refl;
              due = ap (λ (x : Since). is_due T.every x t) (sym h.is) ∙ e;
              taken = ap (taken_at T n t) h.is;
              spared = λ c no. none_written c;
            };
            under = λ z. under_more es s now (Checkpoint n t) refl tt (λ inc c yes. absurd (let w : false ≡ true = yes in cc)) (h.under z);
            included = λ inc z. omega (arith, z);
          })

first_facts : (T : Taking) → Facts T [] at_first
first_facts T = record { is = refl; none = λ z. refl; some = λ z. absurd (z refl); under = λ z. absurd (z refl); included = λ inc z. absurd (let w : false ≡ true = inc in cc) }

facts_on : (T : Taking) (done rest : List Event) (s : Since) → Facts T done s → Facts T (done ++ rest) (since_after T.every rest s)
facts_on T done [] s h = subst (λ l. Facts T l s) (sym (append-nil done)) h
facts_on T done (e ∷ rest) s h = subst (λ l. Facts T l (since_after T.every rest (with_event T.every e s))) (append_assoc done (e ∷ []) rest) (facts_on T (done ++ e ∷ []) rest (with_event T.every e s) (step_facts T done s h e))

pub all_facts : (T : Taking) (es : List Event) → Facts T es (since_after T.every es at_first)
all_facts T es = facts_on T [] es at_first (first_facts T)
