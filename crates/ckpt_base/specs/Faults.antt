-- How often calls on the outside have failed.
use Rattle.std.specs.Prelude.{◌≡◌, ◌≤◌, ◌+◌, ◌-◌, ◌^◌, ◌==◌, ℕ, Bool, List, min, Result, MatchResult}
use Rattle.std.specs.List.{list_any}

-- one more, but for a count that stands at the greatest u64
abbrev pub counted : ℕ → ℕ
counted n = min (n + 1) (2 ^ 64 - 1)

-- The count rose. One that stands at the greatest u64 counts as risen.
abbrev pub Rose : ℕ → ℕ → Type 0
Rose old new = counted old ≤ new

-- A call leaves the count where it answers Ok, and raises it where it fails.
abbrev pub Counts : {T E : Type 0} → Result T E → ℕ → ℕ → Type 0
Counts result old new = MatchResult result (λ _. new ≡ old) (λ _. Rose old new × (old ≤ new))

-- the call of that number is one of those that fail
abbrev pub is_listed : List ℕ → ℕ → Bool
is_listed failing call = list_any (λ n. n == call) failing
