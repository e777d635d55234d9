-- How many bytes the parts have at most.
use Rattle.std.proofs.Common.{◌≡◌, ℕ, ◌+◌, ◌<◌, ◌≤◌, List, ◌++◌, length, codes, arith, subst, sym}
use Rattle.std.specs.Fmt.{decimal}
use Rattle.std.proofs.lemmas.List.{length-append}
use Rattle.std.proofs.lemmas.Fmt.{length-decimal-le}
use Rattle.std.specs.Prelude.{Result, Ok, Err, IfOk}
use Rattle.generated_program.specs.Generated.{kept_line, function_head, function_loop, function_end, call_line}

-- bytes with others behind them
behind : (a b : List ℕ) (m : ℕ) → length b ≤ m → length (a ++ b) ≤ length a + m
behind a b m short = let e : length (a ++ b) ≡ length a + length b = length-append a b in omega arith

-- .. and a number below 1000
number : (k : ℕ) → k < 1000 → (b : List ℕ) (m : ℕ) → length b ≤ m → length (decimal k ++ b) ≤ 3 + m
number k small b m short =
    let e : length (decimal k ++ b) ≡ length (decimal k) + length b = length-append (decimal k) b in
    let f : length (decimal k) ≤ 3 = length-decimal-le 3 k (omega arith) small (omega arith) in omega arith

pub kept_short : (k : ℕ) → k < 1000 → length (kept_line k) ≤ 26
kept_short k s = behind (codes "long g") _ 20 (number k s _ 17 (behind (codes "[64]; long s") _ 5 (number k s (codes ";\n") 2 (omega arith))))

pub call_short : (k : ℕ) → k < 1000 → length (call_line k) ≤ 24
call_short k s = behind (codes "r = f") _ 19 (number k s (codes "(t); w = w + r;\n") 16 (omega arith))

pub head_short : (k : ℕ) → k < 1000 → length (function_head k) ≤ 52
head_short k s = behind (codes "long f") _ 46 (number k s (codes "(long v) { long i; i = 0; while (i < 64) { ") 43 (omega arith))

pub loop_short : (k factor : ℕ) → k < 1000 → factor < 1000 → length (function_loop k factor) ≤ 46
loop_short k m s t = behind (codes "g") _ 45 (number k s _ 42 (behind (codes "[i] = g") _ 35 (number k s _ 32 (behind (codes "[i] + v * ") _ 22 (number m t (codes " + i; i = i + 1; } ") 19 (omega arith))))))

pub end_short : (k : ℕ) → k < 1000 → length (function_end k) ≤ 31
end_short k s = behind (codes "s") _ 30 (number k s _ 27 (behind (codes " = g") _ 23 (number k s _ 20 (behind (codes "[v]; return s") _ 7 (number k s (codes "; }\n") 4 (omega arith))))))

-- a part that was made has as many bytes as what it spells
pub made_short : {S E : Type 0} → (bytes : S → List ℕ) (made : Result S E) (part : List ℕ) (most : ℕ) → IfOk made (λ s. bytes s ≡ part) → length part ≤ most → IfOk made (λ s. length (bytes s) ≤ most)
made_short bytes (Ok s) part most is short = subst (λ (l : List ℕ). length l ≤ most) (sym is) short
made_short bytes (Err e) part most is short = tt
