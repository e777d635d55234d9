use Rattle.std.proofs.Common.{ap, List, ℕ, length, take, ◌∷◌, ◌++◌, [], ◌≡◌, ◌≤◌, arith, length-append}
use Rattle.public_calls_store.proofs.output.bytes_behind_the_begun_length_are_written_anew.Goals as goal

-- a file that was begun at a length and got one byte has it
one_more : (n : ℕ) (front seen : List ℕ) (b : ℕ) → seen ≡ take n front ++ b ∷ [] → 1 ≤ length seen
one_more n front seen b is = omega (arith, ap length is, length-append (take n front) (b ∷ []))

pub write_one-requires : goal.write_one-requires
write_one-requires g c = record { within = omega arith }

pub write_one-requires-2 : goal.write_one-requires-2
write_one-requires-2 g c = record { within = one_more 0 [] _ 5 c.in_ok-write_one.ensures.written.reads }

pub write_one-requires-3 : goal.write_one-requires-3
write_one-requires-3 g c = record { within = one_more 1 _ _ 6 c.in_ok-write_one-2.ensures.written.reads }
