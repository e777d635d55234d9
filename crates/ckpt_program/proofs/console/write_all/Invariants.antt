use Rattle.std.proofs.Common.{◌≡◌, ◌≤◌, ◌-◌, ◌++◌, IsTrue, length, take}
use Rattle.ckpt_program.proofs.console.write_all.Given as goal

abbrev pub invariant-loop-done : goal.invariant-loop-done
invariant-loop-done g l = record {
  tells : (g.K.Sink.view l.sink).tells ≡ (g.K.Sink.view l.fn.sink).tells;
  fits : l.done ≤ length l.bytes;
  written : IsTrue (g.K.Sink.view l.fn.sink).tells → (g.K.Sink.view l.sink).written ≡ (g.K.Sink.view l.fn.sink).written ++ take l.done l.bytes;
  counts : (g.K.Sink.view l.sink).faults ≡ (g.K.Sink.view l.fn.sink).faults;
}

abbrev pub decreases-loop-done : goal.decreases-loop-done
decreases-loop-done g l = length l.bytes - l.done
