-- Images of events, one part after another.
use Rattle.std.proofs.Common.{◌≡◌, refl, sym, ◌∙◌, ap, ℕ, ◌+◌, Bool, true, cond, List, [], ◌∷◌, ◌++◌, append_assoc}
use Rattle.ckpt_base.specs.Event.{Event, Checkpoint}
use Rattle.run_images.specs.Since.{Since, is_due, with_event, since_after}
use Rattle.run_images.specs.Images.{Taking, TakenImage, taken_at, taken_with, images_from, since_behind}

pub since_more : (every : ℕ) (es fs : List Event) (s : Since) → since_after every (es ++ fs) s ≡ since_after every fs (since_after every es s)
since_more every [] fs s = refl
since_more every (e ∷ es) fs s = since_more every es fs (with_event every e s)

pub images_more : (t : Taking) (es fs : List Event) (s : Since) → images_from t (es ++ fs) s ≡ images_from t es s ++ images_from t fs (since_after t.every es s)
images_more t [] fs s = refl
images_more t (e ∷ es) fs s =
    let s' = with_event t.every e s in
    ap (λ (is : List TakenImage). taken_with t e s ++ is) (images_more t es fs s') ∙ sym (append_assoc (taken_with t e s) (images_from t es s') (images_from t fs (since_after t.every es s')))

-- ---- the last of a list

abbrev last_or : TakenImage → List TakenImage → TakenImage
last_or d [] = d
last_or d (x ∷ xs) = last_or x xs

last_behind : (d : TakenImage) (xs : List TakenImage) (x : TakenImage) → last_or d (xs ++ x ∷ []) ≡ x
last_behind d [] x = refl
last_behind d (y ∷ xs) x = last_behind y xs x

pub same_last : (xs ys : List TakenImage) (x y : TakenImage) → xs ++ x ∷ [] ≡ ys ++ y ∷ [] → x ≡ y
same_last xs ys x y e = sym (last_behind x xs x) ∙ ap (last_or x) e ∙ last_behind x ys y

-- ---- the image that a checkpoint takes

pub taken_due : (t : Taking) (node tick : ℕ) (s : Since) → is_due t.every s tick ≡ true → images_from t (Checkpoint node tick ∷ []) s ≡ taken_at t node tick s ∷ []
taken_due t node tick s due = ap (λ (b : Bool). cond b (taken_at t node tick s ∷ []) [] ++ []) due

pub noted_due : (t : Taking) (node tick : ℕ) (s : Since) → is_due t.every s tick ≡ true → with_event t.every (Checkpoint node tick) s ≡ since_behind (taken_at t node tick s).fields
noted_due t node tick s due = ap (λ (b : Bool). cond b (record s { number = s.number + 1; newest_tick = tick; written = []; included = true }) s) due

pub newest_rest : (t : Taking) (es : List Event) (node tick : ℕ) (s : Since) (before : List TakenImage) (image : TakenImage) → is_due t.every (since_after t.every es s) tick ≡ true
    → images_from t (es ++ Checkpoint node tick ∷ []) s ≡ before ++ image ∷ [] → since_after t.every (es ++ Checkpoint node tick ∷ []) s ≡ since_behind image.fields
newest_rest t es node tick s before image due is =
    let s' = since_after t.every es s in
    let all : images_from t es s ++ taken_at t node tick s' ∷ [] ≡ before ++ image ∷ [] = sym (images_more t es (Checkpoint node tick ∷ []) s ∙ ap (λ (is : List TakenImage). images_from t es s ++ is) (taken_due t node tick s' due)) ∙ is in
    since_more t.every es (Checkpoint node tick ∷ []) s ∙ noted_due t node tick s' due ∙ ap (λ (i : TakenImage). since_behind i.fields) (same_last (images_from t es s) before (taken_at t node tick s') image all)
