-- The numbers in words.
use Rattle.std.specs.Prelude.{ℕ, ◌+◌, ◌-◌, ◌*◌, ◌^◌, List, [], ◌∷◌, Option, Some, None, option_and_then, Bool, ◌&&◌, ◌==◌, nat_le, nat_lt, if◌then◌else◌}

abbrev pub is_digit : ℕ → Bool
is_digit b = nat_le 48 b && nat_le b 57

-- a number with one more decimal digit behind it, where it has 64 bits
abbrev pub with_digit : ℕ → ℕ → Option ℕ
with_digit v b = if is_digit b && nat_lt (v * 10 + (b - 48)) (2 ^ 64) then Some (v * 10 + (b - 48)) else None

-- the number that decimal digits spell after the number v
abbrev pub number_from : ℕ → List ℕ → Option ℕ
number_from v [] = Some v
number_from v (b ∷ bs) = option_and_then (λ w. number_from w bs) (with_digit v b)

-- the number that a word spells: digits without a sign, and without a 0 in front of others
abbrev pub number : List ℕ → Option ℕ
number [] = None
number (b ∷ []) = number_from 0 (b ∷ [])
number (b ∷ c ∷ bs) = if b == 48 then None else number_from 0 (b ∷ c ∷ bs)

abbrev pub within : (least most : ℕ) → Option ℕ → Option ℕ
within least most None = None
within least most (Some n) = if nat_le least n && nat_le n most then Some n else None

-- the same, where it is within the range
abbrev pub number_in : (least most : ℕ) → List ℕ → Option ℕ
number_in least most word = within least most (number word)
