-- Blocks that jump within themselves: the right sides of `&&` and `||`.
use Rattle.std.proofs.Common.{◌≡◌, ℕ, ◌+◌, ◌-◌, ◌<◌, ◌≤◌, List, [], ◌∷◌, ◌++◌, length, Some, pos, refl, sym, ap, ◌∙◌, subst, ⊎_elim, arith, length-append}
use Rattle.std.specs.Prelude.{slice_get, slice_index}
use Rattle.std.proofs.lemmas.Bool.{cases_lt}
use Rattle.std.proofs.lemmas.Option.{get_or_from_slice_get}
use Rattle.machine_code.specs.declared.instr.Instr.{Instr}
use Rattle.machine_code.specs.declared.instr.Instr.TheVariants as instr
use Rattle.machine_code.specs.CodeView.{CodeView}
use Rattle.code_maker.proofs.DepthList.{StandsFrom, front_stands, back_stands, Setting, Place, AreLevel, Unreached, HasDepths, Fits, place_with, later}

-- the depth at the first of elements that stand
first_is : (D : List ℕ) (p d : ℕ) (ds : List ℕ) → StandsFrom D p (d ∷ ds) → slice_index D p ≡ d
first_is D p d ds h = get_or_from_slice_get D p d 0 h.0

module _ (S : Setting) where
  abbrev c : CodeView
  c = S.code

  -- one instruction with a value before it, which goes on to later places, where there are so many operands
  jump_zero_place : (D : List ℕ) (p d z : ℕ) → slice_get c.instrs p ≡ Some (instr.JumpZ z) → d + 1 ≤ c.stack → S.low ≤ p → p < z → z ≤ S.last → slice_index D p ≡ d + 1 → slice_index D (p + 1) ≡ d → slice_index D z ≡ d → Unreached c p (d + 1) → Place S D p
  jump_zero_place D p d z at room low lt le here next there u =
      let w : d + 1 - 1 + 0 ≡ d = omega arith in
      place_with c S.cells S.most D p (instr.JumpZ z) (d + 1) at here (omega arith) room tt tt tt
      (later S D p z (d + 1 - 1 + 0) low lt (omega arith) (there ∙ sym w), later S D p (p + 1) (d + 1 - 1 + 0) low (omega arith) (omega arith) (next ∙ sym w)) u

  jump_place : (D : List ℕ) (p d z : ℕ) → slice_get c.instrs p ≡ Some (instr.Jump z) → d + 1 ≤ c.stack → S.low ≤ p → p < z → z ≤ S.last → slice_index D p ≡ d + 1 → slice_index D z ≡ d + 1 → Unreached c p (d + 1) → Place S D p
  jump_place D p d z at room low lt le here there u =
      let w : d + 1 - 0 + 0 ≡ d + 1 = omega arith in
      place_with c S.cells S.most D p (instr.Jump z) (d + 1) at here (omega arith) room tt tt tt (later S D p z (d + 1 - 0 + 0) low lt (omega arith) (there ∙ sym w)) u

  test_place : (D : List ℕ) (p d : ℕ) → slice_get c.instrs p ≡ Some instr.Test → d + 1 ≤ c.stack → S.low ≤ p → p < S.last → slice_index D p ≡ d + 1 → slice_index D (p + 1) ≡ d + 1 → Unreached c p (d + 1) → Place S D p
  test_place D p d at room low lt here next u =
      let w : d + 1 - 1 + 1 ≡ d + 1 = omega arith in
      place_with c S.cells S.most D p instr.Test (d + 1) at here (omega arith) room tt tt tt (later S D p (p + 1) (d + 1 - 1 + 1) low (omega arith) (omega arith) (next ∙ sym w)) u

  number_place : (D : List ℕ) (p d n : ℕ) → slice_get c.instrs p ≡ Some (instr.Num (pos n)) → d + 1 ≤ c.stack → S.low ≤ p → p < S.last → slice_index D p ≡ d → slice_index D (p + 1) ≡ d + 1 → Unreached c p d → Place S D p
  number_place D p d n at room low lt here next u =
      let w : d - 0 + 1 ≡ d + 1 = omega arith in
      place_with c S.cells S.most D p (instr.Num (pos n)) d at here (omega arith) (omega arith) tt tt tt (later S D p (p + 1) (d - 0 + 1) low (omega arith) (omega arith) (next ∙ sym w)) u

module _ (S : Setting) (p d : ℕ) (b : List Instr) where
  -- where 0 is put in place of the value of `&&`
  abbrev pub zero_at : ℕ
  zero_at = p + 1 + length b + 2

  abbrev and_tail : List Instr
  and_tail = instr.Test ∷ instr.Jump (zero_at + 1) ∷ instr.Num (pos 0) ∷ []

  abbrev pub and_code : List Instr
  and_code = instr.JumpZ zero_at ∷ (b ++ and_tail)

  abbrev tail_at : ℕ
  tail_at = p + 1 + length b

  abbrev tail_depths : List ℕ
  tail_depths = (d + 1) ∷ (d + 1) ∷ d ∷ []

  module _ (room : d + 1 ≤ S.code.stack) (B : HasDepths S (p + 1) b d (d + 1)) (at : StandsFrom S.code.instrs p and_code) (low : S.low ≤ p) (le : p + length and_code ≤ S.last) where
    abbrev and_depths : List ℕ
    and_depths = (d + 1) ∷ (B.depths ++ tail_depths)

    and_length : length and_code ≡ length b + 4
    and_length = omega (arith, length-append b and_tail)

    tail_stands : StandsFrom S.code.instrs tail_at and_tail
    tail_stands = back_stands S.code.instrs (p + 1) b and_tail at.1

    right_depths : (D : List ℕ) → StandsFrom D p and_depths → StandsFrom D (p + 1) B.depths
    right_depths D h = front_stands D (p + 1) B.depths tail_depths h.1

    tail_depths_stand : (D : List ℕ) → StandsFrom D p and_depths → StandsFrom D tail_at tail_depths
    tail_depths_stand D h = subst (λ n. StandsFrom D (p + 1 + n) tail_depths) B.same (back_stands D (p + 1) B.depths tail_depths h.1)

    right_reached : Unreached S.code (p + 1) d
    right_reached none = absurd ((none p (instr.JumpZ zero_at) at.0).1 refl)

    module _ (D : List ℕ) (level : AreLevel S D) (h : StandsFrom D p and_depths) (after : slice_index D (p + length and_code) ≡ d + 1) where
      abbrev tails : StandsFrom D tail_at tail_depths
      tails = tail_depths_stand D h

      behind_and : slice_index D (tail_at + 1 + 1 + 1) ≡ d + 1
      behind_and = let z : p + length and_code ≡ tail_at + 1 + 1 + 1 = omega (arith, and_length) in subst (λ n. slice_index D n ≡ d + 1) z after

      left_place : Unreached S.code p (d + 1) → Place S D p
      left_place u =
          let z : tail_at + 1 + 1 ≡ zero_at = omega arith in
          jump_zero_place S D p d zero_at at.0 room low (omega arith) (omega (arith, and_length)) (first_is D p (d + 1) (B.depths ++ tail_depths) h)
          (B.first D (right_depths D h) (first_is D tail_at (d + 1) ((d + 1) ∷ d ∷ []) tails)) (ap (slice_index D) (sym z) ∙ first_is D (tail_at + 1 + 1) d [] tails.1.1) u

      truth_place : Place S D tail_at
      truth_place = test_place S D tail_at d tail_stands.0 room (omega arith) (omega (arith, and_length)) (first_is D tail_at (d + 1) ((d + 1) ∷ d ∷ []) tails) (first_is D (tail_at + 1) (d + 1) (d ∷ []) tails.1) (B.unreached right_reached)

      over_place : Place S D (tail_at + 1)
      over_place =
          let z : tail_at + 1 + 1 + 1 ≡ zero_at + 1 = omega arith in
          jump_place S D (tail_at + 1) d (zero_at + 1) tail_stands.1.0 room (omega arith) (omega arith) (omega (arith, and_length)) (first_is D (tail_at + 1) (d + 1) (d ∷ []) tails.1) (ap (slice_index D) (sym z) ∙ behind_and)
          (λ none. absurd (none tail_at instr.Test tail_stands.0 refl))

      zero_place : Place S D (tail_at + 1 + 1)
      zero_place =
          let z : tail_at + 1 + 1 ≡ zero_at = omega arith in
          number_place S D (tail_at + 1 + 1) d 0 tail_stands.1.1.0 room (omega arith) (omega (arith, and_length)) (first_is D (tail_at + 1 + 1) d [] tails.1.1) behind_and (λ none. absurd ((none p (instr.JumpZ zero_at) at.0).0 (sym z)))

      and_places : Unreached S.code p (d + 1) → (r : ℕ) → p ≤ r → r < p + length and_code → Place S D r
      and_places u r from_p to_p =
          let size = and_length in
          ⊎_elim {C = Place S D r} (λ lt. subst (Place S D) (omega arith) (left_place u)) (λ right.
          ⊎_elim {C = Place S D r} (λ lt. B.places D level (right_depths D h) (first_is D tail_at (d + 1) ((d + 1) ∷ d ∷ []) tails) right_reached r right lt) (λ ge.
          ⊎_elim {C = Place S D r} (λ lt. subst (Place S D) (omega arith) truth_place) (λ ge.
          ⊎_elim {C = Place S D r} (λ lt. subst (Place S D) (omega arith) over_place) (λ ge. subst (Place S D) (omega arith) zero_place)
          (cases_lt r (tail_at + 1 + 1))) (cases_lt r (tail_at + 1))) (cases_lt r tail_at)) (cases_lt r (p + 1))

    and_has : HasDepths S p and_code (d + 1) (d + 1)
    and_has = record {
      depths = and_depths;
      same = omega (arith, length-append B.depths tail_depths, B.same, and_length);
      first = λ D h after. first_is D p (d + 1) (B.depths ++ tail_depths) h;
      places = λ D level h after u. and_places D level h after u;
      unreached = λ u none. absurd (none (tail_at + 1 + 1) (instr.Num (pos 0)) tail_stands.1.1.0 (omega (arith, and_length)));
    }

  -- the right side of `&&`, with the left value before it
  pub and_rest : d + 1 ≤ S.code.stack → Fits S (p + 1) b d (d + 1) → Fits S p and_code (d + 1) (d + 1)
  and_rest room fb at low le =
      let size = length-append b and_tail in
      and_has room (fb (front_stands S.code.instrs (p + 1) b and_tail at.1) (omega arith) (omega arith)) at low le

  -- behind `||`
  abbrev pub or_over : ℕ
  or_over = p + 3 + length b + 1

  abbrev pub or_code : List Instr
  or_code = instr.JumpZ (p + 3) ∷ instr.Num (pos 1) ∷ instr.Jump or_over ∷ (b ++ (instr.Test ∷ []))

  abbrev last_at : ℕ
  last_at = p + 3 + length b

  right_stands : StandsFrom S.code.instrs p or_code → StandsFrom S.code.instrs (p + 3) (b ++ (instr.Test ∷ []))
  right_stands at = let y : p + 1 + 1 + 1 ≡ p + 3 = omega arith in subst (λ n. StandsFrom S.code.instrs n (b ++ (instr.Test ∷ []))) y at.1.1.1

  module _ (room : d + 1 ≤ S.code.stack) (B : HasDepths S (p + 3) b d (d + 1)) (at : StandsFrom S.code.instrs p or_code) (low : S.low ≤ p) (le : p + length or_code ≤ S.last) where
    abbrev or_depths : List ℕ
    or_depths = (d + 1) ∷ d ∷ (d + 1) ∷ (B.depths ++ ((d + 1) ∷ []))

    or_length : length or_code ≡ length b + 4
    or_length = omega (arith, length-append b (instr.Test ∷ []))

    last_stands : slice_get S.code.instrs last_at ≡ Some instr.Test
    last_stands = (back_stands S.code.instrs (p + 3) b (instr.Test ∷ []) (right_stands at)).0

    other_reached : Unreached S.code (p + 3) d
    other_reached none = absurd ((none p (instr.JumpZ (p + 3)) at.0).0 refl)

    module _ (D : List ℕ) (level : AreLevel S D) (h : StandsFrom D p or_depths) (after : slice_index D (p + length or_code) ≡ d + 1) where
      behind_or : slice_index D or_over ≡ d + 1
      behind_or = let z : p + length or_code ≡ or_over = omega (arith, or_length) in subst (λ n. slice_index D n ≡ d + 1) z after

      other_depths : StandsFrom D (p + 3) (B.depths ++ ((d + 1) ∷ []))
      other_depths = let y : p + 1 + 1 + 1 ≡ p + 3 = omega arith in subst (λ n. StandsFrom D n (B.depths ++ ((d + 1) ∷ []))) y h.1.1.1

      last_depth : slice_index D last_at ≡ d + 1
      last_depth = first_is D last_at (d + 1) [] (subst (λ n. StandsFrom D (p + 3 + n) ((d + 1) ∷ [])) B.same (back_stands D (p + 3) B.depths ((d + 1) ∷ []) other_depths))

      one_place : Place S D (p + 1)
      one_place = number_place S D (p + 1) d 1 at.1.0 room (omega arith) (omega (arith, or_length)) (get_or_from_slice_get D (p + 1) d 0 h.1.0) (get_or_from_slice_get D (p + 1 + 1) (d + 1) 0 h.1.1.0) (λ none. absurd ((none p (instr.JumpZ (p + 3)) at.0).1 refl))

      or_jump_place : Place S D (p + 1 + 1)
      or_jump_place = jump_place S D (p + 1 + 1) d or_over at.1.1.0 room (omega arith) (omega arith) (omega (arith, or_length)) (get_or_from_slice_get D (p + 1 + 1) (d + 1) 0 h.1.1.0) behind_or (λ none. absurd (none (p + 1) (instr.Num (pos 1)) at.1.0 refl))

      or_left_place : Unreached S.code p (d + 1) → Place S D p
      or_left_place u =
          jump_zero_place S D p d (p + 3) at.0 room low (omega arith) (omega (arith, or_length)) (get_or_from_slice_get D p (d + 1) 0 h.0) (get_or_from_slice_get D (p + 1) d 0 h.1.0)
          (B.first D (front_stands D (p + 3) B.depths ((d + 1) ∷ []) other_depths) last_depth) u

      or_last_place : Place S D last_at
      or_last_place = test_place S D last_at d last_stands room (omega arith) (omega (arith, or_length)) last_depth behind_or (B.unreached other_reached)

      or_places : Unreached S.code p (d + 1) → (r : ℕ) → p ≤ r → r < p + length or_code → Place S D r
      or_places u r from_p to_p =
          let size = or_length in
          ⊎_elim {C = Place S D r} (λ lt. subst (Place S D) (omega arith) (or_left_place u)) (λ ge.
          ⊎_elim {C = Place S D r} (λ lt. subst (Place S D) (omega arith) one_place) (λ ge.
          ⊎_elim {C = Place S D r} (λ lt. subst (Place S D) (omega arith) or_jump_place) (λ right.
          ⊎_elim {C = Place S D r} (λ lt. B.places D level (front_stands D (p + 3) B.depths ((d + 1) ∷ []) other_depths) last_depth other_reached r right lt) (λ ge. subst (Place S D) (omega arith) or_last_place)
          (cases_lt r last_at)) (cases_lt r (p + 3))) (cases_lt r (p + 1 + 1))) (cases_lt r (p + 1))

    or_has : HasDepths S p or_code (d + 1) (d + 1)
    or_has = record {
      depths = or_depths;
      same = omega (arith, length-append B.depths ((d + 1) ∷ []), B.same, or_length);
      first = λ D h after. get_or_from_slice_get D p (d + 1) 0 h.0;
      places = λ D level h after u. or_places D level h after u;
      unreached = λ u none. absurd (none last_at instr.Test last_stands (omega (arith, or_length)));
    }

  -- the right side of `||`, with the left value before it
  pub or_rest : d + 1 ≤ S.code.stack → Fits S (p + 3) b d (d + 1) → Fits S p or_code (d + 1) (d + 1)
  or_rest room fb at low le =
      let size = length-append b (instr.Test ∷ []) in
      or_has room (fb (front_stands S.code.instrs (p + 3) b (instr.Test ∷ []) (right_stands at)) (omega arith) (omega arith)) at low le
