use Rattle.std.proofs.Common.{◌≡◌, ℕ, false, length}
use Rattle.path_laws.specs.Reaching.{AllWide, in_row}
use Rattle.access_summary.proofs.calls.empty_rows.Given as goal

-- the rows so far have no number
abbrev pub invariant-rows : goal.invariant-rows
invariant-rows l = record {
  len : length l.rows.items ≡ l.n;
  wide : AllWide l.width l.rows.items;
  none : (k o : ℕ) → in_row l.rows.items k o ≡ false;
}
