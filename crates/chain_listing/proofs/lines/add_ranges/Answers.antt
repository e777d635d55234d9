use Rattle.std.proofs.Common.{string_bytes}
use Rattle.chain_listing.proofs.LineLaws.{next_range, all_ranges}
use Rattle.chain_listing.proofs.lines.add_ranges.Goals as goal

pub runs-preserved : goal.runs-preserved
runs-preserved c = next_range _ _ _ _ _ _ _ _ c.in-Some.ensures.steps.run c.in_ok-add_range.ensures.answer c.runs.invariant

pub returns : goal.returns
returns c = record { answer = all_ranges _ _ _ c.in-None.ensures.steps.0 c.runs.invariant }
