-- The trails of visits.
use Rattle.std.proofs.Common.{ℕ, ◌+◌, ◌<◌, ◌≡◌, List, [], ◌∷◌, ◌++◌, length, get_or, arith, ap, ◌∙◌, refl, subst, inl, inr}
use Rattle.std.proofs.lemmas.List.{length_push, get_or_append_left, get_or_push}
use Rattle.std.proofs.lemmas.Bool.{cases_lt}
use Rattle.exclusion_reason.specs.declared.search.Visit.{Visit}
use Rattle.exclusion_reason.specs.Ways.{start}
use Rattle.exclusion_reason.specs.Visits.{trails, trail_of, visit_at, Keeps}

trails_push : (earlier : List (List ℕ)) (vs : List Visit) (v : Visit) → trails earlier (vs ++ v ∷ []) ≡ trails earlier vs ++ (v.state.node ∷ get_or (trails earlier vs) v.from []) ∷ []
unfolding trails
trails_push earlier [] v = refl
trails_push earlier (x ∷ vs) v = trails_push (earlier ++ (x.state.node ∷ get_or earlier x.from []) ∷ []) vs v

length_trails : (earlier : List (List ℕ)) (vs : List Visit) → length (trails earlier vs) ≡ length earlier + length vs
unfolding trails
length_trails earlier [] = omega arith
length_trails earlier (x ∷ vs) =
    let t : List ℕ = x.state.node ∷ get_or earlier x.from [] in
    omega (arith, length_trails (earlier ++ t ∷ []) vs, length_push earlier t)

as_many : (vs : List Visit) → length (trails [] vs) ≡ length vs
as_many vs = omega (arith, length_trails [] vs)

-- what is pushed leaves the earlier visits and trails as they were
pub trail_kept : (vs : List Visit) (v : Visit) (i : ℕ) → i < length vs → trail_of (vs ++ v ∷ []) i ≡ trail_of vs i
trail_kept vs v i l =
    ap (λ (t : List (List ℕ)). get_or t i []) (trails_push [] vs v)
    ∙ get_or_append_left (trails [] vs) ((v.state.node ∷ trail_of vs v.from) ∷ []) [] i (omega (arith, l, as_many vs))

pub trail_new : (vs : List Visit) (v : Visit) → trail_of (vs ++ v ∷ []) (length vs) ≡ v.state.node ∷ trail_of vs v.from
trail_new vs v =
    ap (λ (t : List (List ℕ)). get_or t (length vs) []) (trails_push [] vs v)
    ∙ get_or_push (trails [] vs) (v.state.node ∷ trail_of vs v.from) [] (length vs) (as_many vs)

pub visit_kept : (vs : List Visit) (v : Visit) (i : ℕ) → i < length vs → visit_at (vs ++ v ∷ []) i ≡ visit_at vs i
visit_kept vs v i l = get_or_append_left vs (v ∷ []) (record { state = start 0; from = 0 }) i l

pub visit_new : (vs : List Visit) (v : Visit) → visit_at (vs ++ v ∷ []) (length vs) ≡ v
visit_new vs v = get_or_push vs v (record { state = start 0; from = 0 }) (length vs) refl

pub keeps_push : (vs : List Visit) (v : Visit) → Keeps vs (vs ++ v ∷ [])
keeps_push vs v = record {
  more = omega (arith, length_push vs v);
  same = λ i l. ap (λ (x : Visit). x.state) (visit_kept vs v i l);
}

-- what holds at each visit and at the new one
pub each_push : (P : ℕ → Type 0) (vs : List Visit) (v : Visit) → ((i : ℕ) → i < length vs → P i) → P (length vs) → (i : ℕ) → i < length (vs ++ v ∷ []) → P i
each_push P vs v old new i l =
    elim (cases_lt i (length vs)) [
      | inl a ↦ old i a
      | inr b ↦ let e : length vs ≡ i = omega (arith, l, b, length_push vs v) in subst P e new
    ]
