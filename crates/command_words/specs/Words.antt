-- Which command the words are. The files of a command, the directory of its store, and the numbers that it is asked for stand behind its name, and its options behind them.
use Rattle.std.specs.Prelude.{ℕ, ◌-◌, ◌^◌, ◌<◌, ◌≤◌, List, [], ◌∷◌, Option, Some, None, option_and_then, ◌||◌, codes, bytes_eq, if◌then◌else◌}
use Rattle.std.specs.Option.{option_map}
use Rattle.command_words.specs.Numbers.{number_in}
use Rattle.command_words.specs.Options.{Word, is_option, are_options, value_of, number_or, number_within}
use Rattle.command_words.specs.Stops.{stops_or_none}
use Rattle.command_words.specs.declared.options.Name.{Name}
use Rattle.command_words.specs.declared.options.Name.TheVariants.{Until, Every, Max, Pace, Fill, Stops}
use Rattle.command_words.specs.declared.command.Settings.{Settings}
use Rattle.command_words.specs.declared.command.Command.{Command}
use Rattle.command_words.specs.declared.command.Command.TheVariants.{Plain, Check, Compile, Report, Run, Restart, Images, Coalesce, Clear, Why, Drill, Generate}

-- the greatest number of steps that can be asked for
abbrev pub most_steps : ℕ
most_steps = 2 ^ 64 - 1

-- `plain SRC INPUT [--until N]`
abbrev pub plain_of : List Word → Option Command
plain_of (source ∷ input ∷ options) =
    if is_option source || is_option input then None
    else if are_options (Until ∷ []) options then option_map (Plain 1 2) (number_or Until most_steps options) else None
plain_of _ = None

-- the most steps that a life may take
abbrev pub steps_of : List Word → Option ℕ
steps_of options = number_or Until most_steps options

-- how a life is run: `--until N`, `--every N`, `--max N` and `--pace 0`, among options of these names
abbrev pub settings_of : List Name → List Word → Option Settings
settings_of names options =
    if are_options names options
    then option_and_then (λ until. option_and_then (λ every. option_and_then (λ max. option_map (λ _. record { until = until; every = every; max = max })
    (number_within Pace 0 0 0 options)) (number_within Max 16 2 64 options)) (number_within Every 1 1 4294967295 options)) (steps_of options)
    else None

-- `run SRC INPUT DIR` and its options
abbrev pub run_of : List Word → Option Command
run_of (source ∷ input ∷ dir ∷ options) = if is_option source || (is_option input || is_option dir) then None else option_map (Run 1 2 3) (settings_of (Until ∷ Every ∷ Max ∷ Pace ∷ []) options)
run_of _ = None

-- `restart SRC INPUT DIR`, the same options, and `--fill N`
abbrev pub restart_of : List Word → Option Command
restart_of (source ∷ input ∷ dir ∷ options) =
    if is_option source || (is_option input || is_option dir) then None
    else option_and_then (λ settings. option_map (Restart 1 2 3 settings) (number_within Fill 0 0 255 options)) (settings_of (Until ∷ Every ∷ Max ∷ Pace ∷ Fill ∷ []) options)
restart_of _ = None

-- `why SRC K CELL`
abbrev pub why_of : List Word → Option Command
why_of (source ∷ exclude ∷ cell ∷ []) = if is_option source then None else option_and_then (λ k. option_map (Why 1 k) (number_in 0 4294967295 cell)) (number_in 1 64 exclude)
why_of _ = None

-- how the lives of a drill are run, and over which fill: the options of `restart`, among which `--stops` may stand
abbrev pub drill_settings : List Word → Option (Settings × ℕ)
drill_settings options =
    option_and_then (λ settings. option_map (λ fill. (settings, fill)) (number_within Fill 0 0 255 options)) (settings_of (Until ∷ Every ∷ Max ∷ Pace ∷ Fill ∷ Stops ∷ []) options)

-- `drill SRC INPUT`, the options of `restart`, and `--stops LIST`
abbrev pub drill_of : List Word → Option Command
drill_of (source ∷ input ∷ options) =
    if is_option source || is_option input then None
    else option_and_then (λ both. option_map (Drill 1 2 both.0 both.1) (stops_or_none (value_of Stops options))) (drill_settings options)
drill_of _ = None

-- `generate N`
abbrev pub generate_of : List Word → Option Command
generate_of (functions ∷ []) = option_map Generate (number_in 1 1000 functions)
generate_of _ = None

-- the command, where the one word behind its name is a file or a directory
abbrev pub of_one : Command → List Word → Option Command
of_one command (source ∷ []) = if is_option source then None else Some command
of_one command _ = None

-- the command of this name, with the words behind it
abbrev pub command_named : Word → List Word → Option Command
command_named name words =
    if bytes_eq name (codes "plain") then plain_of words
    else if bytes_eq name (codes "check") then of_one (Check 1) words
    else if bytes_eq name (codes "compile") then of_one (Compile 1) words
    else if bytes_eq name (codes "report") then of_one (Report 1) words
    else if bytes_eq name (codes "run") then run_of words
    else if bytes_eq name (codes "restart") then restart_of words
    else if bytes_eq name (codes "images") then of_one (Images 1) words
    else if bytes_eq name (codes "coalesce") then of_one (Coalesce 1) words
    else if bytes_eq name (codes "clear") then of_one (Clear 1) words
    else if bytes_eq name (codes "why") then why_of words
    else if bytes_eq name (codes "drill") then drill_of words
    else if bytes_eq name (codes "generate") then generate_of words
    else None

-- the command that the words are
abbrev pub command_of : List Word → Option Command
command_of [] = None
command_of (name ∷ words) = command_named name words

-- each file of the command is one of so many words
abbrev pub HasPlaces : Command → ℕ → Type 0
HasPlaces (Plain source input until) n = (source < n) × (input < n)
HasPlaces (Check source) n = source < n
HasPlaces (Compile source) n = source < n
HasPlaces (Report source) n = source < n
HasPlaces (Run source input dir settings) n = (source < n) × (input < n) × (dir < n)
HasPlaces (Restart source input dir settings fill) n = (source < n) × (input < n) × (dir < n)
HasPlaces (Images dir) n = dir < n
HasPlaces (Coalesce dir) n = dir < n
HasPlaces (Clear dir) n = dir < n
HasPlaces (Why source exclude cell) n = source < n
HasPlaces (Drill source input settings fill stops) n = (source < n) × (input < n)
HasPlaces (Generate functions) n = Unit {0}

-- the numbers of the settings are in range
pub record InRange (s : Settings) : Type 0 where
  pub every : 1 ≤ s.every
  pub max_least : 2 ≤ s.max
  pub max_most : s.max ≤ 64

abbrev pub HasRanges : Command → Type 0
HasRanges (Run source input dir settings) = InRange settings
HasRanges (Restart source input dir settings fill) = InRange settings
HasRanges (Why source exclude cell) = (1 ≤ exclude) × (exclude ≤ 64)
HasRanges (Drill source input settings fill stops) = InRange settings
HasRanges (Generate functions) = (1 ≤ functions) × (functions ≤ 1000)
HasRanges command = Unit {0}
