use Rattle.std.proofs.Common.{arith, ◌≡◌, ◌∙◌, sym, ℕ, List, ◌==◌, cond}
use Rattle.std.proofs.lemmas.Bool.Decides.{nat_tests}
use Rattle.disk_model.proofs.Outcomes.{spoiled_front}
use Rattle.disk_model.proofs.memory_file.leave.Goals as goal

other_pick : (pick : ℕ) (a b : List ℕ) (x : List ℕ) → (pick ≡ 0 → ⊥) → (pick ≡ 1 → ⊥) → cond (pick == 0) a (cond (pick == 1) b x) ≡ x
other_pick pick a b x zero one = grind (arith, nat_tests)

pub returns-clause-bytes : goal.returns-clause-bytes
returns-clause-bytes c =
    c.spoil.ensures.bytes ∙ spoiled_front c.args.seen.now.items c.args.lasting.now c.args.dirty.now c.args.len c.args.lasting_len c.args.pick c.requires.lens.0 c.requires.lens.1
    ∙ sym (other_pick c.args.pick _ _ _ c.if-pick-eq0.false c.if-pick-eq1.false)
