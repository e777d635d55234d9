-- The order of the steps of an append.
use Rattle.std.proofs.Common.{◌≡◌, refl, sym, ◌∙◌, ap, subst, ℕ, ◌+◌, ◌*◌, ◌<◌, ◌≤◌, Bool, cond, inl, inr, List, length, arith}
use Rattle.std.proofs.lemmas.Bool.{cases_lt}
use Rattle.std.proofs.lemmas.Grind.{div_ceil_times}
use Rattle.image_format.specs.Image.{Image}
use Rattle.image_chain.specs.declared.chain.Step.{Step}
use Rattle.image_chain.specs.declared.chain.Step.TheVariants.{Piece, SyncRecord, OpenGate, SyncGate, Done}
use Rattle.image_chain.specs.Append.{IsInside, Spells, next_of, pieces_of, step_after, writer_calls}
use Rattle.image_chain.proofs.LoopLaws.{lt-yes, lt-no}
use Rattle.image_chain.proofs.StepLaws.{spells_length}

-- the pieces cover the record, and the last of them is not empty
cover : (n : ℕ) → (n ≤ pieces_of n * 4096) × (pieces_of n * 4096 < n + 4096)
cover n = div_ceil_times n 4096 (omega arith)

after_piece : (done n : ℕ) → done < pieces_of n → step_after done n ≡ Piece done
after_piece done n less = rw (lt-yes done (pieces_of n) less) refl

after_pieces : (done n : ℕ) → done ≡ pieces_of n → step_after done n ≡ SyncRecord
after_pieces done n is = rw (lt-no done (pieces_of n) (omega arith), lt-yes done (pieces_of n + 1) (omega arith)) refl

after_sync : (done n : ℕ) → done ≡ pieces_of n + 1 → step_after done n ≡ OpenGate
after_sync done n is = rw (lt-no done (pieces_of n) (omega arith), lt-no done (pieces_of n + 1) (omega arith), lt-yes done (pieces_of n + 2) (omega arith)) refl

after_gate : (done n : ℕ) → pieces_of n + 2 ≤ done → step_after done n ≡ SyncGate
after_gate done n more = rw (lt-no done (pieces_of n) (omega arith), lt-no done (pieces_of n + 1) (omega arith), lt-no done (pieces_of n + 2) more) refl

-- the piece of this number, or one of the last three steps
data Where (done n : ℕ) : Type 0 where
  Early : done < pieces_of n → Where done n
  AtSync : done ≡ pieces_of n → Where done n
  AtOpen : done ≡ pieces_of n + 1 → Where done n
  AtGate : pieces_of n + 2 ≤ done → Where done n

where_is : (done n : ℕ) → Where done n
where_is done n = elim (cases_lt done (pieces_of n)) [
  | inl less ↦ Early less
  | inr more ↦ elim (cases_lt done (pieces_of n + 1)) [
    | inl less ↦ AtSync (omega arith)
    | inr more ↦ elim (cases_lt done (pieces_of n + 2)) [
      | inl less ↦ AtOpen (omega arith)
      | inr more ↦ AtGate more
    ]
  ]
]

pub inside_after : (done n : ℕ) → IsInside (step_after done n) n
inside_after done n = by_place (where_is done n)
  where
    by_place : Where done n → IsInside (step_after done n) n
    by_place (Early less) = let c = cover n in subst (λ (at : Step). IsInside at n) (sym (after_piece done n less)) (omega arith)
    by_place (AtSync is) = subst (λ (at : Step). IsInside at n) (sym (after_pieces done n is)) tt
    by_place (AtOpen is) = subst (λ (at : Step). IsInside at n) (sym (after_sync done n is)) tt
    by_place (AtGate more) = subst (λ (at : Step). IsInside at n) (sym (after_gate done n more)) tt

-- the step behind a piece
behind_piece : (done n : ℕ) → done < pieces_of n → next_of (Piece done) n ≡ step_after (done + 1) n
behind_piece done n less =
    let c = cover n in elim (cases_lt (done + 1) (pieces_of n)) [
      | inl more ↦ ap (λ (b : Bool). cond b (Piece (done + 1)) SyncRecord) (lt-yes (4096 * (done + 1)) n (omega arith)) ∙ sym (after_piece (done + 1) n more)
      | inr last ↦ ap (λ (b : Bool). cond b (Piece (done + 1)) SyncRecord) (lt-no (4096 * (done + 1)) n (omega arith)) ∙ sym (after_pieces (done + 1) n (omega arith))
    ]

pub next_after : (done n : ℕ) → done + 1 < writer_calls n → next_of (step_after done n) n ≡ step_after (done + 1) n
next_after done n more = by_place (where_is done n)
  where
    by_place : Where done n → next_of (step_after done n) n ≡ step_after (done + 1) n
    by_place (Early less) = ap (λ (at : Step). next_of at n) (after_piece done n less) ∙ behind_piece done n less
    by_place (AtSync is) = ap (λ (at : Step). next_of at n) (after_pieces done n is) ∙ sym (after_sync (done + 1) n (omega arith))
    by_place (AtOpen is) = ap (λ (at : Step). next_of at n) (after_sync done n is) ∙ sym (after_gate (done + 1) n (omega arith))
    by_place (AtGate past) = absurd (omega arith)

pub last_after : (done n : ℕ) → done + 1 ≡ writer_calls n → next_of (step_after done n) n ≡ Done
last_after done n last = ap (λ (at : Step). next_of at n) (after_gate done n (omega arith))

pub first_after : (r : Image) (image : List ℕ) → Spells r image → IsInside (Piece 0) (length image) × (step_after 0 (length image) ≡ Piece 0)
first_after r image spells = let n = spells_length r image spells in let c = cover (length image) in (omega arith, after_piece 0 (length image) (omega arith))
