use Rattle.std.proofs.Common.{◌≡◌, map, drop, take}
use Rattle.c_types.specs.Bodies as spec
use Rattle.c_types.specs.BodiesKept.{BodiesKept}
use Rattle.c_types.specs.FileNames as names
use Rattle.c_types.specs.Fitting.{seen}
use Rattle.c_types.proofs.bodies.all_bodies.Given as goal

abbrev pub invariant-loop-i : goal.invariant-loop-i
invariant-loop-i l = record {
  made : spec.items l.file l.done (drop l.i-index l.items) ≡ spec.items l.file spec.no_bodies l.items;
  kept : BodiesKept l.file (map seen (names.signatures_of (take l.i-index l.items))) l.done;
}
