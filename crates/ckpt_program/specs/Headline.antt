-- The main theorem: on a store that stands for the source of its files, a command that lives ends as the source's run does, and a crash at every moment leaves a store that stands.
use Rattle.std.specs.Prelude.{◌≡◌, ℕ, true, List, ◌++◌, IsTrue, Option, Some, None, Result, Ok}
use Rattle.ckpt_base.specs.Shelf.{file_named}
use Rattle.ckpt_base.specs.Sink.{SinkView}
use Rattle.disk_model.specs.Store.{Store}
use Rattle.disk_model.specs.View.{View}
use Rattle.disk_model.specs.Moments.{LeavesOnly}
use Rattle.image_format.specs.declared.fields.Fields.{Fields}
use Rattle.image_chain.specs.Records.{Found, chain_in}
use Rattle.run_images.specs.Source.{Source as RunSource, IsSource, run_of}
use Rattle.run_images.specs.Stands.{Stands, AllStand}
use Rattle.run_marks.specs.Digests.{digests_of}
use Rattle.command_words.specs.declared.command.Command.{Command}
use Rattle.command_words.specs.declared.command.Command.TheVariants.{Run, Restart, Coalesce, Clear}
use Rattle.ckpt_runner.specs.Opening.{HasChain}
use Rattle.ckpt_runner.specs.Standing.{AllEnd}
use Rattle.ckpt_runner.specs.declared.started.Started.{Started}
use Rattle.ckpt_runner.specs.declared.started.Started.TheVariants.{Begun, Resumed}
use Rattle.life_lines.specs.Lines.{ending_line}
use Rattle.ckpt_program.specs.Accepted.{IsAccepted}
use Rattle.ckpt_program.specs.Carries.{word_at}
use Rattle.ckpt_program.specs.LifeStages.{to_begin, to_go_on, start_line, TellsLife}
use Rattle.ckpt_program.specs.Sight.{Sight}
use Rattle.ckpt_program.specs.Texts.{ending_status}
use Rattle.ckpt_program.specs.Told.{IsEnding}
use Rattle.store_upkeep.specs.Clearing.{IsEmptied}
use Rattle.ckpt_program.specs.Upkeep.{Clears, LeavesJoined, JoinsAsTold, joined_text}
use Rattle.store_upkeep.specs.declared.coalesced.Coalesced.{Coalesced}
use Rattle.ckpt_program.specs.declared.done.Done.{Done}
use Rattle.ckpt_program.specs.declared.life_stages.Asked.{Asked}
use Rattle.ckpt_program.specs.declared.lives.Job.{Job}
use Rattle.ckpt_program.specs.declared.stop.Stop.{Stop}

-- ---- the source

-- the source of two files: the program that the text is accepted as, the input, and the digests of both
pub record IsSourceIn (source input : List ℕ) (shelf : Sight) (s : RunSource) : Type 0 where
  pub tells : IsTrue shelf.tells
  pub text : List ℕ
  pub found : file_named shelf.files source ≡ Some text
  pub accepted : IsAccepted text s.program
  pub given : file_named shelf.files input ≡ Some s.input
  pub marks : s.marks ≡ digests_of text s.input
  -- its images may lie apart as they will
  pub spaced : (every : ℕ) → s.spaced every ≡ true
  pub is : IsSource s

-- the source of a job that was read
pub record IsSourceOf (j : Job) (s : RunSource) : Type 0 where
  pub program : s.program ≡ j.program
  pub input : s.input ≡ j.input.list
  pub marks : s.marks ≡ digests_of j.text.list j.input.list
  pub spaced : (every : ℕ) → s.spaced every ≡ true
  pub is : IsSource s

-- the sources of which every moment is promised: that of the files that a command names, and each one where it names none
abbrev pub SourceOf : (words : List (List ℕ)) → Option Command → Sight → RunSource → Type 0
SourceOf words (Some (Run source input dir settings)) shelf s = IsSourceIn (word_at words source) (word_at words input) shelf s
SourceOf words (Some (Restart source input dir settings fill)) shelf s = IsSourceIn (word_at words source) (word_at words input) shelf s
SourceOf words (Some (Coalesce dir)) shelf s = IsSource s
SourceOf words (Some (Clear dir)) shelf s = IsSource s
SourceOf words command shelf s = ⊥

-- ---- every moment

-- Where the store stands for such a source at entry, a crash at every moment leaves one that stands for it.
abbrev pub StandThroughout : (RunSource → Type 0) → (old new : View) → Type 0
StandThroughout Is old new = IsTrue old.tells → (s : RunSource) → Is s → AllStand s old → LeavesOnly old new (Stands s)

-- ---- the end

-- how a life starts in a store, and how many steps lie between its images at least: those of the call where it begins, those of the chain where it goes on
abbrev pub StartsIn : Asked → Store → Started → (every : ℕ) → Type 0
StartsIn a c Begun every = (chain_in c ≡ Ok None) × (every ≡ a.settings.every)
StartsIn a c (Resumed image step) every =
    (found : Found) × (newest : Fields) × HasChain c found newest × (image ≡ newest.number) × (step ≡ newest.steps) × (every ≡ found.header.every)

-- What was done tells the ending and the steps of the source's run within the bound, behind the line on the start; and for reads and every crash the store has the output and the images of that run.
pub record TellsSource (s : RunSource) (a : Asked) (seen : Store) (d : Done) (new : View) : Type 0 where
  pub started : Started
  pub every : ℕ
  pub starts : StartsIn a seen started every
  pub tells : TellsLife (record { started = started; ending = (run_of s a.settings.until).ending; steps = (run_of s a.settings.until).ticks }) d
  pub store : AllEnd s every a.settings.until new

-- so it is for each such source for which the store stands at entry
abbrev pub ToldAsSource : (RunSource → Type 0) → Asked → (old : View) → Done → (new : View) → Type 0
ToldAsSource Is a old d new = IsTrue old.tells → (s : RunSource) → Is s → AllStand s old → TellsSource s a old.seen d new

-- So it is where a command lived; and where one put a store in order, that is so.
abbrev pub ToldBy : (words : List (List ℕ)) → Option Command → Sight → (old : View) → Result Done Stop → (new : View) → Type 0
ToldBy words (Some (Run source input dir settings)) shelf old (Ok d) new = ToldAsSource (IsSourceIn (word_at words source) (word_at words input) shelf) (to_begin settings) old d new
ToldBy words (Some (Restart source input dir settings fill)) shelf old (Ok d) new =
    ToldAsSource (IsSourceIn (word_at words source) (word_at words input) shelf) (to_go_on settings fill) old d new
ToldBy words (Some (Coalesce dir)) shelf old (Ok d) new = JoinsAsTold old d new
ToldBy words (Some (Clear dir)) shelf old (Ok d) new = Clears old new
ToldBy words command shelf old r new = Unit {0}

-- The status and the text are those of the source's run within the bound, behind the line on the start; and for reads and every crash the store has the output and the images of that run.
pub record HasEnded (s : RunSource) (a : Asked) (seen : Store) (new : View) (console console_new : SinkView) (status : ℕ) : Type 0 where
  pub started : Started
  pub every : ℕ
  pub starts : StartsIn a seen started every
  pub ending : status ≡ ending_status (run_of s a.settings.until).ending
  pub told : IsTrue console.tells → console_new.written ≡ console.written ++ (start_line started ++ ending_line (run_of s a.settings.until).ending (run_of s a.settings.until).ticks)
  pub store : AllEnd s every a.settings.until new

-- Where the store stands for such a source at entry, and the command ends with the status of a run, this is so.
abbrev pub EndsIn : (RunSource → Type 0) → Asked → (old new : View) (console console_new : SinkView) → (status : ℕ) → Type 0
EndsIn Is a old new console console_new status = IsTrue old.tells → (s : RunSource) → Is s → AllStand s old → IsEnding status → HasEnded s a old.seen new console console_new status

-- THE HEADLINE. A command that lives ends as its source does.
abbrev pub EndsAsSource : (words : List (List ℕ)) → Option Command → Sight → (old new : View) (console console_new : SinkView) → (status : ℕ) → Type 0
EndsAsSource words (Some (Run source input dir settings)) shelf old new console console_new status =
    EndsIn (IsSourceIn (word_at words source) (word_at words input) shelf) (to_begin settings) old new console console_new status
EndsAsSource words (Some (Restart source input dir settings fill)) shelf old new console console_new status =
    EndsIn (IsSourceIn (word_at words source) (word_at words input) shelf) (to_go_on settings fill) old new console console_new status
EndsAsSource words command shelf old new console console_new status = Unit {0}

-- Where the disk tells and the command ends with 0: the records of a store are joined as is told, and a store that was cleared has no chain and no output, for reads and every crash.
abbrev pub PutsInOrder : Option Command → (old new : View) (console console_new : SinkView) → (status : ℕ) → Type 0
PutsInOrder (Some (Coalesce dir)) old new console console_new status =
    IsTrue old.tells → status ≡ 0 → (c : Coalesced) × LeavesJoined c old new × (IsTrue console.tells → console_new.written ≡ console.written ++ joined_text c)
PutsInOrder (Some (Clear dir)) old new console console_new status = IsTrue old.tells → status ≡ 0 → IsEmptied new
PutsInOrder command old new console console_new status = Unit {0}
