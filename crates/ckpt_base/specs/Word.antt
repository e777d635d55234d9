-- The operators on words (C99 6.5, on integers of 64 bits that wrap). A word is a number below 2^64.
use Rattle.std.specs.Prelude.{ℕ, ◌+◌, ◌-◌, ◌*◌, ◌%◌, ◌^◌, ℤ, Bool, true, false, not, if◌then◌else◌, ◌&&◌, ◌==◌, nat_lt, bit_and, bit_or, bit_xor, int_lt, int_le, int_div, int_rem, Result, Ok, Err}
use Rattle.std.specs.Int.{w64, cast_signed, cast_unsigned, int_shr}
use Rattle.ckpt_base.specs.declared.trap.Trap.{Trap}
use Rattle.ckpt_base.specs.declared.trap.Trap.TheVariants.{DivisionByZero, QuotientOverflow, ShiftCount}

-- the number that a word stands for in two's complement (C99 6.2.6.2)
abbrev pub signed : ℕ → ℤ
signed a = cast_signed w64 a

-- the word that stands for a number in two's complement
abbrev pub word_of : ℤ → ℕ
word_of v = cast_unsigned w64 v

-- ---- sum, difference, product and negation modulo 2^64

abbrev pub word_sum : ℕ → ℕ → ℕ
word_sum a b = (a + b) % 2 ^ 64

abbrev pub word_difference : ℕ → ℕ → ℕ
word_difference a b = (a + (2 ^ 64 - b)) % 2 ^ 64

abbrev pub word_product : ℕ → ℕ → ℕ
word_product a b = (a * b) % 2 ^ 64

abbrev pub word_negation : ℕ → ℕ
word_negation a = (2 ^ 64 - a) % 2 ^ 64

-- ---- quotient and remainder of the signed readings, towards zero (C99 6.5.5)

-- a quotient or a remainder by b, where there is one: b is not 0, and it is not the least number by -1
abbrev pub divided : ℕ → ℕ → ℤ → Result ℕ Trap
divided a b v =
    if b == 0 then Err DivisionByZero
    else (if (a == 2 ^ 63) && (b == 2 ^ 64 - 1) then Err QuotientOverflow else Ok (word_of v))

abbrev pub word_quotient : ℕ → ℕ → Result ℕ Trap
word_quotient a b = divided a b (int_div (signed a) (signed b))

abbrev pub word_remainder : ℕ → ℕ → Result ℕ Trap
word_remainder a b = divided a b (int_rem (signed a) (signed b))

-- ---- shifts by 0 to 63 (C99 6.5.7)

abbrev pub word_left_shift : ℕ → ℕ → Result ℕ Trap
word_left_shift a b = if nat_lt b 64 then Ok ((a * 2 ^ b) % 2 ^ 64) else Err ShiftCount

-- the sign is kept
abbrev pub word_right_shift : ℕ → ℕ → Result ℕ Trap
word_right_shift a b = if nat_lt b 64 then Ok (word_of (int_shr (signed a) b)) else Err ShiftCount

-- ---- bit by bit (C99 6.5.10 to 6.5.12, 6.5.3.3)

abbrev pub word_and : ℕ → ℕ → ℕ
word_and a b = bit_and a b

abbrev pub word_or : ℕ → ℕ → ℕ
word_or a b = bit_or a b

abbrev pub word_xor : ℕ → ℕ → ℕ
word_xor a b = bit_xor a b

abbrev pub word_inverse : ℕ → ℕ
word_inverse a = 2 ^ 64 - 1 - a

-- ---- order of the signed readings, equality and truth (C99 6.5.8, 6.5.9)

abbrev pub word_less : ℕ → ℕ → Bool
word_less a b = int_lt (signed a) (signed b)

abbrev pub word_at_most : ℕ → ℕ → Bool
word_at_most a b = int_le (signed a) (signed b)

abbrev pub word_equal : ℕ → ℕ → Bool
word_equal a b = a == b

-- a condition holds where its value is not 0
abbrev pub word_holds : ℕ → Bool
word_holds a = not (a == 0)

-- the value of a comparison
abbrev pub truth_word : Bool → ℕ
truth_word true = 1
truth_word false = 0

-- the byte that `putchar` writes
abbrev pub word_low_byte : ℕ → ℕ
word_low_byte a = a % 256
