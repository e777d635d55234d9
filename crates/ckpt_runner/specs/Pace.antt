-- The pace of the writer, a list of numbers that is used again and again: how many instructions are done before each of its calls.
use Rattle.std.specs.Prelude.{◌≡◌, ℕ, zero, suc, ◌+◌, ◌%◌, ◌<◌, ◌≤◌, List, [], ◌∷◌, length, slice_index}

-- number i of it
abbrev pub pace_at : List ℕ → ℕ → ℕ
pace_at pace i = slice_index pace (i % length pace)

-- the sum of n numbers of it, from number i on
abbrev pub pace_sum : List ℕ → ℕ → ℕ → ℕ
pace_sum pace i zero = 0
pace_sum pace i (suc n) = pace_sum pace i n + pace_at pace (i + n)

-- how many calls write an image of so many pieces: one a piece, one syncs them, one opens the gate and one syncs the gate
abbrev pub calls_for : ℕ → ℕ
calls_for pieces = pieces + 3

-- how many calls write all these images, of which the pieces are told
abbrev pub calls_of : List ℕ → ℕ
calls_of [] = 0
calls_of (pieces ∷ images) = calls_of images + calls_for pieces

-- The writer keeps the pace, in an image whose first call takes number `used`: of its calls so many are done, so many instructions since the checkpoint, and so many are left before the next call.
pub record InPace (pace : List ℕ) (used total done since wait : ℕ) : Type 0 where
  pub so_far : pace_sum pace used done ≤ since
  pub countdown : done < total → since + wait ≡ pace_sum pace used (suc done)
