use Rattle.std.proofs.Common.{◌≡◌, drop}
use Rattle.command_words.specs.Options as spec
use Rattle.command_words.proofs.options.name_in.Given as goal

-- the name is one of those from here on
abbrev pub invariant-names : goal.invariant-names
invariant-names l = spec.name_in (drop l.name-index l.names) l.word ≡ spec.name_in l.names l.word
