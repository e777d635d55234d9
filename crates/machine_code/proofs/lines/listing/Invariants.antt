use Rattle.std.proofs.Common.{◌≡◌, ◌++◌, drop, string_bytes}
use Rattle.machine_code.specs.Listing.{lines_from, listing}
use Rattle.machine_code.proofs.lines.listing.Given as goal

abbrev pub invariant-loop-p : goal.invariant-loop-p
invariant-loop-p l = string_bytes l.text ++ lines_from l.p (drop l.p l.code.instrs) ≡ listing l.code.instrs
