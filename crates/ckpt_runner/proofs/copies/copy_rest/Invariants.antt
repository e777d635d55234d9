use Rattle.std.proofs.Common.{◌≡◌, ◌<◌, ℕ, Bool, List, length, false}
use Rattle.dirty_pages.specs.Pages.{in_snapshot}
use Rattle.ckpt_runner.specs.Snapshot.{IsSnapped}
use Rattle.ckpt_runner.proofs.copies.copy_rest.Given as goal

abbrev pub invariant-pages : goal.invariant-pages
invariant-pages l = record {
  dirty : l.pages.dirty ≡ l.fn.pages.dirty;
  marks : length l.pages.in_snapshot ≡ length l.fn.pages.in_snapshot;
  size : length l.copies ≡ length l.fn.copies;
  none : (k : ℕ) → k < l.page → in_snapshot l.pages k ≡ false;
  snapped : (takes : ℕ → Bool) (memory : List ℕ) → IsSnapped takes memory l.fn.pages l.frames l.fn.copies → IsSnapped takes memory l.pages l.frames l.copies;
}
