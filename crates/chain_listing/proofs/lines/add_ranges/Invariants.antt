use Rattle.std.proofs.Common.{◌≡◌, ◌++◌, string_bytes}
use Rattle.chain_listing.specs.Lines.{runs_text}
use Rattle.chain_listing.proofs.lines.add_ranges.Given as goal

-- the runs that are left give the rest of the text
abbrev pub invariant-runs : goal.invariant-runs
invariant-runs l = string_bytes l.text ++ runs_text l.run-iterator ≡ string_bytes l.fn.text ++ runs_text l.image.runs
