-- The checkpoints of works are exactly the nodes that are CHECKPOINT_HERE, and they rise.
use Rattle.std.proofs.Common.{◌≡◌, ℕ, zero, suc, ◌+◌, ◌<◌, ◌≤◌, ◌⊎◌, Bool, true, false, List, [], ◌∷◌, length, Some, refl, ap, subst, arith, inl, inr}
use Rattle.std.proofs.lemmas.Bool.{false≢true}
use Rattle.std.proofs.lemmas.Option.{same_Some}
use Rattle.std.specs.Prelude.{if◌then◌else◌, slice_get, Contains, slice_index, slice_index_or, ◌↔◌}
use Rattle.std.specs.List.Sorted.{IsStrictlyIncreasing}
use Rattle.flow_graph.specs.declared.node.NodeWork.{NodeWork}
use Rattle.flow_graph.specs.declared.node.NodeWork.TheVariants as work
use Rattle.flow_graph.specs.Checkpoints.{is_checkpoint, checkpoints_from, checkpoints_of}

-- a number that stands in front where the test holds
here_if : (b : Bool) (n : ℕ) (ms : List ℕ) → b ≡ true → Contains (if b then n ∷ ms else ms) n
here_if true n ms e = (zero, omega arith, refl)
here_if false n ms e = absurd (false≢true e)

behind_if : (b : Bool) (n : ℕ) (ms : List ℕ) (x : ℕ) → Contains ms x → Contains (if b then n ∷ ms else ms) x
behind_if true n ms x h = (suc h.0, omega (arith, h.1), h.2)
behind_if false n ms x h = h

from_if : (b : Bool) (n : ℕ) (ms : List ℕ) (x : ℕ) → Contains (if b then n ∷ ms else ms) x → ((b ≡ true) × (n ≡ x)) ⊎ Contains ms x
from_if true n ms x (zero, lt, e) = inl (refl, e)
from_if true n ms x (suc k, lt, e) = inr (k, omega arith, e)
from_if false n ms x h = inr h

rising_if : (b : Bool) (n : ℕ) (ms : List ℕ) → ((k : ℕ) → k < length ms → n < slice_index ms k) → IsStrictlyIncreasing ms → IsStrictlyIncreasing (if b then n ∷ ms else ms)
rising_if true n ms low h zero lt = low zero (omega arith)
rising_if true n ms low h (suc k) lt = let e : suc (k + 1) ≡ suc k + 1 = omega arith in subst (λ j. slice_index ms k < slice_index (n ∷ ms) j) e (h k (omega arith))
rising_if false n ms low h k lt = h k lt

checkpoint_is : (w : NodeWork) → is_checkpoint w ≡ true → w ≡ work.Checkpoint
checkpoint_is (work.Declare p e) h = absurd (false≢true h)
checkpoint_is (work.Set p e) h = absurd (false≢true h)
checkpoint_is (work.Call p f es) h = absurd (false≢true h)
checkpoint_is (work.Input p) h = absurd (false≢true h)
checkpoint_is (work.Return e) h = absurd (false≢true h)
checkpoint_is (work.ReturnCall f es) h = absurd (false≢true h)
checkpoint_is work.ReturnInput h = absurd (false≢true h)
checkpoint_is (work.Put e) h = absurd (false≢true h)
checkpoint_is (work.Print ps es) h = absurd (false≢true h)
checkpoint_is (work.Test e) h = absurd (false≢true h)
checkpoint_is work.Checkpoint h = refl
checkpoint_is (work.Exclude k) h = absurd (false≢true h)
checkpoint_is work.End h = absurd (false≢true h)

there : (n : ℕ) (ws : List NodeWork) (k : ℕ) → slice_get ws k ≡ Some work.Checkpoint → Contains (checkpoints_from n ws) (n + k)
there n [] k e = absurd cc
there n (w ∷ ws) zero e =
    subst (Contains (checkpoints_from n (w ∷ ws))) (omega arith)
    (here_if (is_checkpoint w) n (checkpoints_from (n + 1) ws) (ap is_checkpoint (same_Some w work.Checkpoint e)))
there n (w ∷ ws) (suc k) e =
    subst (Contains (checkpoints_from n (w ∷ ws))) (omega arith) (behind_if (is_checkpoint w) n (checkpoints_from (n + 1) ws) (n + 1 + k) (there (n + 1) ws k e))

-- where a number of the list comes from
abbrev ComesFrom : ℕ → List NodeWork → ℕ → Type 0
ComesFrom n ws x = (k : ℕ) × (n + k ≡ x) × (slice_get ws k ≡ Some work.Checkpoint)

from_first : (n : ℕ) (w : NodeWork) (ws : List NodeWork) (x : ℕ) → ((is_checkpoint w ≡ true) × (n ≡ x)) ⊎ ComesFrom (n + 1) ws x → ComesFrom n (w ∷ ws) x
from_first n w ws x (inl e) = (zero, omega (arith, e.1), ap (λ (v : NodeWork). Some v) (checkpoint_is w e.0))
from_first n w ws x (inr r) = (suc r.0, omega (arith, r.1), r.2)

back : (n : ℕ) (ws : List NodeWork) (x : ℕ) → Contains (checkpoints_from n ws) x → ComesFrom n ws x
back n [] x h = absurd (omega (arith, h.1))
back n (w ∷ ws) x h = from_first n w ws x (elim (from_if (is_checkpoint w) n (checkpoints_from (n + 1) ws) x h) [
  | inl e ↦ inl e
  | inr g ↦ inr (back (n + 1) ws x g)
])

low : (n : ℕ) (ws : List NodeWork) (k : ℕ) → k < length (checkpoints_from n ws) → n ≤ slice_index (checkpoints_from n ws) k
low n ws k lt = let r = back n ws (slice_index (checkpoints_from n ws) k) (k, lt, at (checkpoints_from n ws) k lt) in omega (arith, r.1)
  where
    at : (ms : List ℕ) (k : ℕ) → k < length ms → slice_index_or ms k (slice_index ms k) ≡ slice_index ms k
    at [] k lt = absurd (omega arith)
    at (m ∷ ms) zero lt = refl
    at (m ∷ ms) (suc k) lt = at ms k (omega arith)

rising : (n : ℕ) (ws : List NodeWork) → IsStrictlyIncreasing (checkpoints_from n ws)
rising n [] k lt = absurd (omega arith)
rising n (w ∷ ws) k lt = rising_if (is_checkpoint w) n (checkpoints_from (n + 1) ws) (λ k lt. let l = low (n + 1) ws k lt in omega (arith, l)) (rising (n + 1) ws) k lt

pub checkpoints_exact : (ws : List NodeWork) (n : ℕ) → Contains (checkpoints_of ws) n ↔ (slice_get ws n ≡ Some work.Checkpoint)
checkpoints_exact ws n = (
  (λ h. let r = back 0 ws n h in subst (λ k. slice_get ws k ≡ Some work.Checkpoint) (omega (arith, r.1)) r.2),
  (λ e. subst (Contains (checkpoints_of ws)) (omega arith) (there 0 ws n e)),
)

pub checkpoints_rise : (ws : List NodeWork) → IsStrictlyIncreasing (checkpoints_of ws)
checkpoints_rise ws = rising 0 ws
