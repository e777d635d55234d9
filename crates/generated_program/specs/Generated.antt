-- The generated program of n functions: its text, and its figures.
use Rattle.std.specs.Prelude.{ℕ, zero, suc, ◌+◌, ◌*◌, ◌/◌, ◌%◌, List, [], ◌++◌, codes}
use Rattle.std.specs.Fmt.{decimal}

-- ---- the text

-- the factor in function k of n
abbrev pub multiplier : (n k : ℕ) → ℕ
multiplier n k = (37 * n + 101 * k) % 1000

-- the line of what function k keeps: an array and a number
abbrev pub kept_line : (k : ℕ) → List ℕ
kept_line k = codes "long g" ++ (decimal k ++ (codes "[64]; long s" ++ (decimal k ++ codes ";\n")))

-- the line of function k, up to its loop
abbrev pub function_head : (k : ℕ) → List ℕ
function_head k = codes "long f" ++ (decimal k ++ codes "(long v) { long i; i = 0; while (i < 64) { ")

-- .. its loop, which changes each cell of its array
abbrev pub function_loop : (k factor : ℕ) → List ℕ
function_loop k factor = codes "g" ++ (decimal k ++ (codes "[i] = g" ++ (decimal k ++ (codes "[i] + v * " ++ (decimal factor ++ codes " + i; i = i + 1; } ")))))

-- .. and its end, which keeps and answers the cell that it was called with
abbrev pub function_end : (k : ℕ) → List ℕ
function_end k = codes "s" ++ (decimal k ++ (codes " = g" ++ (decimal k ++ (codes "[v]; return s" ++ (decimal k ++ codes "; }\n")))))

-- function k of n, below what it keeps
abbrev pub function_text : (n k : ℕ) → List ℕ
function_text n k = kept_line k ++ (function_head k ++ (function_loop k (multiplier n k) ++ function_end k))

-- the line that calls function k
abbrev pub call_line : (k : ℕ) → List ℕ
call_line k = codes "r = f" ++ (decimal k ++ codes "(t); w = w + r;\n")

-- the texts of the numbers below m, one after the other
abbrev pub each_below : (m : ℕ) → (text : ℕ → List ℕ) → List ℕ
each_below zero text = []
each_below (suc m) text = each_below m text ++ text m

-- how the text begins
abbrev pub turns_line : List ℕ
turns_line = codes "#define TURNS 20\n"

-- how `main` begins
abbrev pub main_line : List ℕ
main_line = codes "int main(void) { long t; long r; long w; w = 0; EXCLUDE_HERE; for (t = 0; t < TURNS; t = t + 1) {\n"

-- how it ends
abbrev pub last_line : List ℕ
last_line = codes "CHECKPOINT_HERE; } printf(\"%ld\\n\", w); return 0; }\n"

-- the generated program of n functions
unfoldable pub generated : (n : ℕ) → List ℕ
generated n = turns_line ++ each_below n (function_text n) ++ main_line ++ each_below n call_line ++ last_line

-- ---- its figures

-- its cells: 65 for each function, and the three locals of `main`
abbrev pub generated_cells : (n : ℕ) → ℕ
generated_cells n = 65 * n + 3

-- the steps that it takes
abbrev pub generated_steps : (n : ℕ) → ℕ
generated_steps n = 3980 * n + 69

-- stop j of its drill, from 1 on: at j fifths of its steps
abbrev pub stop_of : (n j : ℕ) → ℕ
stop_of n j = j * (generated_steps n / 5)

-- the line that tells how many functions and cells it has
abbrev pub generated_line : (n : ℕ) → List ℕ
generated_line n = codes "generated functions " ++ (decimal n ++ (codes " cells " ++ (decimal (generated_cells n) ++ codes "\n")))
