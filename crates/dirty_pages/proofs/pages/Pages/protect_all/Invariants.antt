use Rattle.std.proofs.Common.{◌≡◌, ◌++◌, drop, replicate, false}
use Rattle.std.specs.Prelude.{map, All}
use Rattle.dirty_pages.specs.Flags.{IsPage, is_dirty, is_marked}
use Rattle.dirty_pages.proofs.pages.Pages.protect_all.Given as goal

abbrev pub invariant-loop-flags : goal.invariant-loop-flags
invariant-loop-flags l = record {
  pages : All IsPage l.flags-items;
  dirty : map is_dirty l.flags-items ≡ replicate l.flags-index false ++ drop l.flags-index (map is_dirty l.initial.flags-items);
  marked : map is_marked l.flags-items ≡ map is_marked l.initial.flags-items;
}
