-- What a life shows is what its source's run shows, and the images that it takes stand.
use Rattle.std.proofs.Common.{◌≡◌, refl, sym, ◌∙◌, ap, subst, ℕ, ◌+◌, ◌==◌, ◌||◌, Bool, true, false, cond, ⊎_elim, List, [], ◌∷◌, ◌++◌, length, take, Some, None, append_assoc, append-nil, arith}
use Rattle.std.specs.Prelude.{slice_index}
use Rattle.std.specs.List.{Contains}
use Rattle.std.proofs.lemmas.List.{take_all}
use Rattle.std.proofs.lemmas.List.Elements.{Contains-append_cases}
use Rattle.ckpt_base.specs.Event.{Event, Wrote, Byte, Took, Excluded, Checkpoint}
use Rattle.ckpt_base.specs.Run.{output}
use Rattle.path_laws.specs.Forgettable.{IsForgettable}
use Rattle.image_format.specs.declared.fields.Fields.{Fields}
use Rattle.image_format.specs.Image.{Image}
use Rattle.machine_code.specs.Run.{World}
use Rattle.machine_code.specs.Shown.{wrote}
use Rattle.run_images.specs.Since.{Since, at_first, is_due, with_event, is_fresh, since_after}
use Rattle.run_images.specs.Images.{Taking, TakenImage, taken_at, images, images_from}
use Rattle.run_images.specs.JoinedList.{IsOf, IsJoinedList}
use Rattle.run_images.specs.Source.{Source, IsSource, run_of, output_of, taking_of, images_of}
use Rattle.run_images.specs.Hold.{HoldWords, HoldUnwritten, IsTakenAt}
use Rattle.run_images.specs.Stands.{StandsFor}
use Rattle.run_images.specs.Origin.{Origin, IsAsSource, events_before, IsOfSource}
use Rattle.run_images.specs.Shown.{HasShown, TakesImage, HasTaken}
use Rattle.run_images.proofs.ImageLaws.{since_more, images_more, taken_due}
use Rattle.run_images.proofs.JoinLaws.{joined_grow}
use Rattle.run_images.proofs.AppendLaws.{newest_more}
use Rattle.run_images.proofs.FactLaws.{has_cell, or_both, none_written, not_first}
use Rattle.run_images.proofs.HoldLaws.{RunsAreSpared, taken_holds}

pub output_both : (xs ys : List Event) → output (xs ++ ys) ≡ output xs ++ output ys
output_both [] ys = refl
output_both (Byte b ∷ xs) ys = ap (λ l. b ∷ l) (output_both xs ys)
output_both (Wrote c ∷ xs) ys = output_both xs ys
output_both (Took ∷ xs) ys = output_both xs ys
output_both (Excluded k ∷ xs) ys = output_both xs ys
output_both (Checkpoint m t ∷ xs) ys = output_both xs ys

-- ---- the source's run, from the origin on

module _ (s : Source) (o : Origin) (of : IsOfSource s o) where
  abbrev every : ℕ
  every = o.taking.every

  abbrev before : List Event
  before = events_before s o

  since_from : (es : List Event) → since_after every (before ++ es) at_first ≡ since_after every es o.since
  since_from es = since_more every before es at_first ∙ ap (since_after every es) (sym of.since)

  images_at : (es : List Event) → images (taking_of s every) (before ++ es) ≡ images_of s every o.state.ticks ++ images_from o.taking es o.since
  images_at es =
      images_more (taking_of s every) before es at_first
      ∙ ap (λ x. images_of s every o.state.ticks ++ images_from (taking_of s every) es x) (sym of.since)
      ∙ ap (λ t. images_of s every o.state.ticks ++ images_from t es o.since) (sym of.taking)

  pub has_shown : (es : List Event) (t : ℕ) → (run_of s t).events ≡ before ++ es → HasShown s o es t
  has_shown es t e = record {
    events = e;
    since = ap (λ l. since_after every l at_first) e ∙ since_from es;
    output = ap output e ∙ output_both before es ∙ ap (λ l. l ++ output es) (sym of.output);
    images = ap (images (taking_of s every)) e ∙ images_at es;
  }

  -- ---- an image that a life takes

  module _ (spared : RunsAreSpared) (is : IsSource s) (es : List Event) (node : ℕ) (w : World) (rs : List Image) (r : Image) (takes : TakesImage s o es node w rs r) where
    abbrev t : ℕ
    t = w.state.ticks

    there : IsAsSource s node w
    there = of.like.passes w node es takes.reaches takes.passes

    shown : HasShown s o (es ++ Checkpoint node t ∷ []) t
    shown = has_shown (es ++ Checkpoint node t ∷ []) t (there.events ∙ takes.passes)

    passes : (run_of s t).events ≡ (before ++ es) ++ Checkpoint node t ∷ []
    passes = shown.events ∙ sym (append_assoc before es (Checkpoint node t ∷ []))

    due : is_due every (since_after every (before ++ es) at_first) t ≡ true
    due = ap (λ x. is_due every x t) (since_from es) ∙ takes.due

    joined : IsJoinedList rs (images (taking_of s every) (before ++ es))
    joined = subst (IsJoinedList rs) (sym (images_at es)) takes.records

    image_is : taken_at o.taking node t (since_after every es o.since) ≡ taken_at (taking_of s every) node t (since_after every (before ++ es) at_first)
    image_is = ap (λ x. taken_at x node t (since_after every es o.since)) of.taking ∙ ap (taken_at (taking_of s every) node t) (sym (since_from es))

    image : IsOf r (taken_at (taking_of s every) node t (since_after every (before ++ es) at_first))
    image = subst (IsOf r) image_is takes.image

    taken : IsTakenAt s every node t (before ++ es) rs r w.memory
    taken = record {
      passes = passes;
      due = due;
      joined = joined;
      image = image;
      words = takes.words;
      held = subst (λ x. HoldUnwritten s x rs w.memory) (sym (since_from es)) takes.held;
    }

    holds : HoldWords s node (rs ++ r ∷ []) w.memory
    holds = taken_holds s every node t (before ++ es) rs r w.memory spared is taken

    node_is : r.fields.node ≡ node
    node_is = ap (λ (f : Fields). f.node) image.fields

    steps_are : r.fields.steps ≡ t
    steps_are = ap (λ (f : Fields). f.steps) image.fields

    images_now : images_of s every t ≡ images (taking_of s every) (before ++ es) ++ taken_at (taking_of s every) node t (since_after every (before ++ es) at_first) ∷ []
    images_now =
        ap (images (taking_of s every)) passes ∙ images_more (taking_of s every) (before ++ es) (Checkpoint node t ∷ []) at_first
        ∙ ap (λ l. images (taking_of s every) (before ++ es) ++ l) (taken_due (taking_of s every) node t (since_after every (before ++ es) at_first) due)

    output_is : output_of s t ≡ o.output ++ output es
    output_is = shown.output ∙ ap (λ l. o.output ++ l) (output_both es (Checkpoint node t ∷ []) ∙ append-nil (output es))

    abbrev StandAt : ℕ → Type 0
    StandAt n = take (length (output_of s n)) (o.output ++ output es) ≡ output_of s n

    stand : StandsFor s every (rs ++ r ∷ []) (o.output ++ output es)
    stand = record {
      newest = r.fields;
      newest_is = newest_more None rs r;
      joined = subst (λ n. IsJoinedList (rs ++ r ∷ []) (images_of s every n)) (sym steps_are) (subst (IsJoinedList (rs ++ r ∷ [])) (sym images_now)
          (joined_grow rs r (images (taking_of s every) (before ++ es)) (taken_at (taking_of s every) node t (since_after every (before ++ es) at_first)) joined image));
      begins = subst StandAt (sym steps_are) (ap (λ l. take (length l) (o.output ++ output es)) output_is ∙ take_all (length (o.output ++ output es)) (o.output ++ output es) (omega arith) ∙ sym output_is);
      words = λ c lt kept. holds c lt (subst (λ n. IsForgettable s.graph c n → ⊥) node_is kept) ∙ ap (λ v. Some v) (sym (there.words c (subst (λ n. IsForgettable s.graph c n → ⊥) node_is kept)) ∙ ap (λ n. slice_index (run_of s n).memory c) (sym steps_are));
      spaced = of.spaced;
    }

    some_is : (x y : Fields) → Some x ≡ Some y → x ≡ y
    some_is x y e = cc

    pub has_taken : HasTaken s o es node w (rs ++ r ∷ [])
    has_taken = record {
      shown = shown;
      stand = stand;
      held = λ f c newest lt fresh kept. holds c lt (subst (λ n. IsForgettable s.graph c n → ⊥) (ap (λ (x : Fields). x.node) (some_is f r.fields (sym newest ∙ newest_more None rs r)) ∙ node_is) kept);
    }

-- ---- between two images

none_taken : (x : TakenImage) (xs : List TakenImage) → x ∷ xs ≡ [] → ⊥
none_taken x xs e = cc

-- a checkpoint among events that take no image leaves what there was
not_due : {A : Type 0} (T : Taking) (m u : ℕ) (es : List Event) (now : Since) (c : ℕ) (b : Bool) → is_due T.every now u ≡ b → images_from T (Checkpoint m u ∷ es) now ≡ [] → is_fresh (since_after T.every (Checkpoint m u ∷ es) now) c ≡ false
    → (images_from T es now ≡ [] → is_fresh (since_after T.every es now) c ≡ false → A) → A
not_due T m u es now c true is none e go =
    absurd (none_taken (taken_at T m u now) (images_from T es (with_event T.every (Checkpoint m u) now)) (sym (ap (λ (b : Bool). cond b (taken_at T m u now ∷ []) [] ++ images_from T es (with_event T.every (Checkpoint m u) now)) is) ∙ none))
not_due T m u es now c false is none e go =
    let same : with_event T.every (Checkpoint m u) now ≡ now = ap (λ (b : Bool). cond b (record now { number = now.number + 1; newest_tick = u; written = []; included = true }) now) is in
    let empty : images_from T es now ≡ [] =
    ap (images_from T es) (sym same) ∙ sym (ap (λ (b : Bool). cond b (taken_at T m u now ∷ []) [] ++ images_from T es (with_event T.every (Checkpoint m u) now)) is) ∙ none in
    go empty (ap (λ x. is_fresh (since_after T.every es x) c) (sym same) ∙ e)

-- what is not written since the newest image was not written before, nor by these events
not_fresh : (T : Taking) (es : List Event) (now : Since) (c : ℕ) → images_from T es now ≡ [] → is_fresh (since_after T.every es now) c ≡ false → (is_fresh now c ≡ false) × (Contains (wrote es) c → ⊥)
not_fresh T [] now c none e = (e, none_written c)
not_fresh T (Byte b ∷ es) now c none e = not_fresh T es (with_event T.every (Byte b) now) c none e
not_fresh T (Took ∷ es) now c none e = not_fresh T es (with_event T.every Took now) c none e
not_fresh T (Excluded k ∷ es) now c none e = not_fresh T es (with_event T.every (Excluded k) now) c none e
not_fresh T (Wrote d ∷ es) now c none e =
    let later = not_fresh T es (with_event T.every (Wrote d) now) c none e in
    let both = or_both (now.number == 0) ((d == c) || has_cell now.written c) later.0 in
    let each = or_both (d == c) (has_cell now.written c) both.1 in
    (ap (λ (b : Bool). b || has_cell now.written c) both.0 ∙ each.1, λ h. ⊎_elim (not_first d c each.0) later.1 (Contains-append_cases (d ∷ []) (wrote es) c h))
not_fresh T (Checkpoint m u ∷ es) now c none e = not_due T m u es now c (is_due T.every now u) refl none e (λ x y. not_fresh T es now c x y)

pub unwritten_stays : (s : Source) (T : Taking) (now : Since) (es : List Event) (rs : List Image) (m k : List ℕ) → images_from T es now ≡ [] → HoldUnwritten s now rs m
    → ((c : ℕ) → (Contains (wrote es) c → ⊥) → slice_index k c ≡ slice_index m c) → HoldUnwritten s (since_after T.every es now) rs k
unwritten_stays s T now es rs m k none held same f c newest lt fresh kept =
    let was = not_fresh T es now c none fresh in
    held f c newest lt was.0 kept ∙ ap (λ v. Some v) (sym (same c was.1))
