-- The stops of a drill, as words list them.
use Rattle.std.specs.Prelude.{ℕ, List, [], ◌∷◌, length, Option, Some, None, option_and_then, ◌==◌, nat_le, if◌then◌else◌}
use Rattle.std.specs.Option.{option_map}
use Rattle.command_words.specs.Numbers.{number, within, number_in}
use Rattle.command_words.specs.Options.{Word}
use Rattle.command_words.specs.declared.stops.Stop.{Stop}
use Rattle.command_words.specs.declared.stops.Stop.TheVariants.{AtStep, InCall}

-- ---- marks between the pieces of a word

-- what stands in front of the first such byte
abbrev pub front : (mark : ℕ) → Word → Word
front mark [] = []
front mark (b ∷ bs) = if b == mark then [] else b ∷ front mark bs

-- .. and behind it, where there is one
abbrev pub behind : (mark : ℕ) → Word → Option Word
behind mark [] = None
behind mark (b ∷ bs) = if b == mark then Some bs else behind mark bs

-- the first of some words, with a byte more in front
abbrev pub with_byte : ℕ → List Word → List Word
with_byte b [] = []
with_byte b (word ∷ words) = (b ∷ word) ∷ words

-- the pieces of a word, with such a byte between each two
abbrev pub pieces : (mark : ℕ) → Word → List Word
pieces mark [] = [] ∷ []
pieces mark (b ∷ bs) = if b == mark then [] ∷ pieces mark bs else with_byte b (pieces mark bs)

-- ---- stops

-- `N:P`: a call, and what is made of each byte that was not lasting
abbrev pub call_of : Word → Option Stop
call_of word = option_and_then (λ n. option_map (InCall n) (option_and_then (number_in 0 255) (behind 58 word))) (number_in 1 4294967295 (front 58 word))

-- the stop that a word spells: `sN`, at a step, or `wN:P`, inside a call
abbrev pub stop_of : Word → Option Stop
stop_of [] = None
stop_of (b ∷ bs) = if b == 115 then option_map AtStep (number bs) else if b == 119 then call_of bs else None

-- the stops that words spell, one each
abbrev pub stops_of_each : List Word → Option (List Stop)
stops_of_each [] = Some []
stops_of_each (word ∷ words) = option_and_then (λ stop. option_map (λ stops. stop ∷ stops) (stops_of_each words)) (stop_of word)

-- so many at most
abbrev pub at_most : ℕ → List Stop → Option (List Stop)
at_most n stops = if nat_le (length stops) n then Some stops else None

-- the stops that a word lists with commas between them
abbrev pub stops_in : Word → Option (List Stop)
stops_in word = option_and_then (at_most 1000) (stops_of_each (pieces 44 word))

-- no stop where none is given
abbrev pub stops_or_none : Option Word → Option (List Stop)
stops_or_none None = Some []
stops_or_none (Some word) = stops_in word
