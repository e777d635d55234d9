use Rattle.std.proofs.Common.{◌≡◌, drop}
use Rattle.command_words.specs.Numbers.{number_from}
use Rattle.command_words.proofs.numbers.number_of.Given as goal

-- the number is that of the digits from here on, behind those so far
abbrev pub invariant-digits : goal.invariant-digits
invariant-digits l = number_from l.value (drop l.digit-index l.digits) ≡ number_from 0 l.digits
