use Rattle.std.proofs.Common.{◌≡◌, length}
use Rattle.command_words.specs.Options as spec
use Rattle.command_words.proofs.options.are_options.Given as goal

abbrev pub invariant-options : goal.invariant-options
invariant-options l = spec.are_options l.names l.rest ≡ spec.are_options l.names l.words

abbrev pub decreases-options : goal.decreases-options
decreases-options l = length l.rest
