use Rattle.std.proofs.Common.{subst, arith}
use Rattle.std.specs.Prelude.{replicate}
use Rattle.sha2.specs.Hashers.{Holds256}
use Rattle.parity_store.proofs.EmptyLaws.{more_zeros}
use Rattle.parity_store.proofs.make.zero_digest.Goals as goal

pub loop-done-preserved : goal.loop-done-preserved
loop-done-preserved c =
    let n = c.min-n.ensures in
    let done = c.loop-done.done in
    record {
      within = omega (arith, n);
      holds = subst (Holds256 c.update.new.self) (more_zeros done c.min-n.result 4096 (omega (arith, n))) (c.update.ensures (replicate done 0) c.loop-done.invariant.holds);
    }
