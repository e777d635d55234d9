-- The options of a command: each a name that begins with `--`, and its value.
use Rattle.std.specs.Prelude.{ℕ, List, [], ◌∷◌, Option, Some, None, Bool, true, false, ◌&&◌, ◌==◌, codes, bytes_eq, is_none, if◌then◌else◌}
use Rattle.command_words.specs.Numbers.{number, within}
use Rattle.command_words.specs.declared.options.Name.{Name}
use Rattle.command_words.specs.declared.options.Name.TheVariants.{Until, Every, Max, Pace, Fill, Stops}

abbrev pub Word : Type 0
Word = List ℕ

-- words that begin with `--` are options
abbrev pub is_option : Word → Bool
is_option (a ∷ b ∷ rest) = (a == 45) && (b == 45)
is_option _ = false

-- the word that names an option
abbrev pub word_of : Name → Word
word_of Until = codes "--until"
word_of Every = codes "--every"
word_of Max = codes "--max"
word_of Pace = codes "--pace"
word_of Fill = codes "--fill"
word_of Stops = codes "--stops"

-- which of these names a word is
abbrev pub name_in : List Name → Word → Option Name
name_in [] word = None
name_in (name ∷ names) word = if bytes_eq (word_of name) word then Some name else name_in names word

-- the value of the option of that name, where it is given
abbrev pub value_of : Name → List Word → Option Word
value_of name (given ∷ value ∷ rest) = if bytes_eq given (word_of name) then Some value else value_of name rest
value_of name _ = None

-- an option of that name is one of these, and is not given again
abbrev pub is_new : Option Name → List Word → Bool
is_new None rest = false
is_new (Some name) rest = is_none (value_of name rest)

-- the words are options of these names, each at most once, and each with a value
abbrev pub are_options : List Name → List Word → Bool
are_options names [] = true
are_options names (word ∷ []) = false
are_options names (word ∷ value ∷ rest) = is_new (name_in names word) rest && are_options names rest

abbrev pub number_or_default : ℕ → Option Word → Option ℕ
number_or_default default None = Some default
number_or_default default (Some value) = number value

-- the number that an option gives, or the default where it is not given
abbrev pub number_or : Name → (default : ℕ) → List Word → Option ℕ
number_or name default words = number_or_default default (value_of name words)

-- the same, where it is within the range
abbrev pub number_within : Name → (default least most : ℕ) → List Word → Option ℕ
number_within name default least most words = within least most (number_or name default words)
