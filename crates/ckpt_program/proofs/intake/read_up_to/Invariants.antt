use Rattle.std.proofs.Common.{◌≡◌, ◌≤◌, ◌+◌, ◌-◌, ◌++◌, length, IsTrue}
use Rattle.ckpt_base.specs.Shelf.{SameShelf}
use Rattle.ckpt_program.proofs.intake.read_up_to.Given as goal

abbrev pub invariant-pieces : goal.invariant-pieces
invariant-pieces g l = record {
  same : SameShelf (g.H.Shelf.view l.fn.shelf) (g.H.Shelf.view l.shelf);
  opened : IsTrue (g.H.Shelf.view l.shelf).is_open;
  counts : (g.H.Shelf.view l.shelf).faults ≡ (g.H.Shelf.view l.fn.shelf).faults;
  room : l.most ≤ length l.bytes.list + l.bytes.spare;
  read : IsTrue (g.H.Shelf.view l.fn.shelf).tells → (g.H.Shelf.view l.fn.shelf).rest ≡ l.bytes.list ++ (g.H.Shelf.view l.shelf).rest;
}

abbrev pub decreases-pieces : goal.decreases-pieces
decreases-pieces g l = l.most - length l.bytes.list
