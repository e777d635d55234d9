-- Which states a search has come to.
use Rattle.std.specs.Prelude.{ℕ, ◌+◌, Bool, true, false, cond, List, slice_index_or, sum_by}
use Rattle.exclusion_reason.specs.declared.aim.State.{State}
use Rattle.exclusion_reason.specs.declared.seen.Met.{Met}

-- whether the state of a node with these two answers is among them
abbrev pub holds : Met → Bool → Bool → Bool
holds met false false = met.neither
holds met true false = met.free
holds met false true = met.behind
holds met true true = met.both

-- how many of the four states of a node are not
abbrev pub left : Met → ℕ
left met = cond met.neither 0 1 + cond met.free 0 1 + cond met.behind 0 1 + cond met.both 0 1

abbrev pub no_state : Met
no_state = record { neither = false; free = false; behind = false; both = false }

-- whether the search has come to the state
abbrev pub is_seen : List Met → State → Bool
is_seen seen s = holds (slice_index_or seen s.node no_state) s.free s.behind

-- to how many states it has not
abbrev pub unseen : List Met → ℕ
unseen seen = sum_by left seen
