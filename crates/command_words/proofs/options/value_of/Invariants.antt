use Rattle.std.proofs.Common.{◌≡◌, length}
use Rattle.command_words.specs.Options as spec
use Rattle.command_words.proofs.options.value_of.Given as goal

-- the option is among the words from here on
abbrev pub invariant-options : goal.invariant-options
invariant-options l = spec.value_of l.name l.rest ≡ spec.value_of l.name l.words

abbrev pub decreases-options : goal.decreases-options
decreases-options l = length l.rest
