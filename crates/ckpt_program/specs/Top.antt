-- The clauses of the top call: the one on its outcome, those that name none, and the one on completeness.
use Rattle.std.specs.Prelude.{◌≡◌, ◌<◌, ◌≤◌, ◌-◌, ◌^◌, ◌⊎◌, ◌++◌, ℕ, IsTrue, List, [], length, codes, Option, Some, None, Result, Ok}
use Rattle.ckpt_base.specs.Faults.{Rose}
use Rattle.ckpt_base.specs.Run as run
use Rattle.ckpt_base.specs.Shelf.{ShelfView, file_named}
use Rattle.ckpt_base.specs.Sink.{SinkView}
use Rattle.c_tree.specs.declared.resolved.Resolved.{Resolved}
use Rattle.c_tree.specs.Meaning.{meaning}
use Rattle.command_words.specs.Words.{command_of}
use Rattle.command_words.specs.declared.command.Command.{Command}
use Rattle.command_words.specs.declared.command.Command.TheVariants.{Plain, Check, Compile, Report, Run, Restart, Images, Coalesce, Clear, Why, Drill, Generate}
use Rattle.disk_model.specs.Store.{Store}
use Rattle.disk_model.specs.View.{View}
use Rattle.disk_model.specs.Plate.{plate}
use Rattle.disk_model.specs.Moments.{LeavesOnly}
use Rattle.disk_model.specs.Keeps.{Untouched}
use Rattle.image_chain.specs.Records.{Found, chain_in}
use Rattle.chain_listing.specs.Store.{chain_text}
use Rattle.image_format.specs.declared.fields.Fields.{Fields}
use Rattle.run_images.specs.Source.{Source as RunSource}
use Rattle.run_images.specs.Stands.{AllStand}
use Rattle.ckpt_runner.specs.Opening.{HasChain}
use Rattle.ckpt_program.specs.DiskStages.{OnlyLasting}
use Rattle.ckpt_program.specs.LifeStages.{OutputLasts}
use Rattle.ckpt_program.specs.Headline.{IsSourceIn, SourceOf, StandThroughout}
use Rattle.ckpt_program.specs.Drilled.{SaysDrill}
use Rattle.generated_program.specs.Generated.{generated}
use Rattle.command_words.specs.Words.{most_steps}
use Rattle.ckpt_program.specs.Sight.{Sight, sight}
use Rattle.ckpt_program.specs.Fetched.{limit_of}
use Rattle.ckpt_program.specs.Stage.{Comes}
use Rattle.ckpt_program.specs.Accepted.{IsAccepted}
use Rattle.ckpt_program.specs.Listed.{IsListing}
use Rattle.ckpt_program.specs.Report.{IsReport}
use Rattle.ckpt_program.specs.Rows.{IsCounted}
use Rattle.ckpt_program.specs.Why.{HasBoth, LacksOne, IsReasonText}
use Rattle.ckpt_program.specs.Carries.{word_at, CarriesSome}
use Rattle.ckpt_program.specs.Texts.{counts_line, run_text, ending_status, usage_line, occupied_line, cause_text, cause_status}
use Rattle.ckpt_program.specs.Told.{Tells, IsDone, IsEnding}
use Rattle.ckpt_program.specs.Upkeep.{FindsRecords, joined_text}
use Rattle.store_upkeep.specs.declared.coalesced.Coalesced.{Coalesced}
use Rattle.ckpt_runner.specs.Standing.{KeepsImages}
use Rattle.ckpt_program.specs.declared.done.Counts.{Counts}
use Rattle.ckpt_program.specs.declared.done.Done.{Done}
use Rattle.ckpt_program.specs.declared.stop.Cause.{Cause}
use Rattle.ckpt_program.specs.declared.stop.Stop.{Stop}
use Rattle.ckpt_program.specs.declared.stop.Document.{Document}
use Rattle.ckpt_program.specs.declared.stop.Document.TheVariants as document

-- There is one outcome that comes by the words, the shelf and the disk, and it is told on the console.
abbrev pub Answers : (words : List (List ℕ)) → (shelf shelf_new : ShelfView) (disk disk_new : View) (console console_new : SinkView) → (result : ℕ) → Type 0
Answers words shelf shelf_new disk disk_new console console_new result =
    (o : Result Done Stop) × Comes (CarriesSome words (command_of words) (sight shelf) (sight shelf_new) (plate disk) (plate disk_new)) o × Tells o console console_new result

-- Where the count rose, this is the status. A count that stands at the greatest u64 does not count as risen here.
abbrev pub Blames : (status : ℕ) (old new : ℕ) (result : ℕ) → Type 0
Blames status old new result = Rose old new → old < 2 ^ 64 - 1 → result ≡ status

-- ---- the disk

-- the command does not use the disk
abbrev pub IsQuiet : Option Command → Type 0
IsQuiet (Some (Images dir)) = ⊥
IsQuiet (Some (Run source input dir settings)) = ⊥
IsQuiet (Some (Restart source input dir settings fill)) = ⊥
IsQuiet (Some (Coalesce dir)) = ⊥
IsQuiet (Some (Clear dir)) = ⊥
IsQuiet command = Unit {0}

-- the command changes no contents
abbrev pub KeepsContents : Option Command → Type 0
KeepsContents (Some (Run source input dir settings)) = ⊥
KeepsContents (Some (Restart source input dir settings fill)) = ⊥
KeepsContents (Some (Coalesce dir)) = ⊥
KeepsContents (Some (Clear dir)) = ⊥
KeepsContents command = Unit {0}

-- At every moment of a command that changes no contents a crash leaves what one might have left at entry. At every moment of one that lives, where the store stands for
-- the source of its files at entry, a crash leaves a store that stands for it.
abbrev pub AnyMoment : (words : List (List ℕ)) → Option Command → Sight → (old new : View) → Type 0
AnyMoment words command shelf old new = (KeepsContents command → LeavesOnly old new old.may_leave) × StandThroughout (SourceOf words command shelf) old new

-- A command that does not use the disk leaves all as it was. One that changes nothing, one that is refused, and one that finds no memory, leaves the contents, and of them a crash leaves no less than before.
abbrev pub LeavesContents : Option Command → (result : ℕ) → (old new : View) → Type 0
LeavesContents command result old new = (IsQuiet command → Untouched old new) × (KeepsContents command ⊎ ((IsDone result ⊎ (result ≡ 5)) → ⊥) → OnlyLasting old new)

-- the command lives
abbrev pub IsLife : Option Command → Type 0
IsLife (Some (Run source input dir settings)) = Unit {0}
IsLife (Some (Restart source input dir settings fill)) = Unit {0}
IsLife command = ⊥

-- Of a life that was told, a crash leaves the output as it reads.
abbrev pub LastsOutput : Option Command → (result : ℕ) → View → Type 0
LastsOutput command result new = IsLife command → IsEnding result → OutputLasts new

-- the command leaves no store without its images
abbrev pub SparesImages : Option Command → Type 0
SparesImages (Some (Clear dir)) = ⊥
SparesImages command = Unit {0}

-- No image is lost: where every crash at entry leaves image j or a later one as the newest, so does every crash at every moment.
abbrev pub NoImageLost : Option Command → (old new : View) → Type 0
NoImageLost command old new = SparesImages command → KeepsImages old new

-- ---- completeness

-- no count rose, and all is told
pub record IsFaultless (shelf shelf_new : ShelfView) (console console_new : SinkView) : Type 0 where
  pub shelf_tells : IsTrue shelf.tells
  pub console_tells : IsTrue console.tells
  pub shelf_count : Rose shelf.faults shelf_new.faults → ⊥
  pub console_count : Rose console.faults console_new.faults → ⊥

-- the shelf has such a file, within its limit
pub record HasFile (d : Document) (name : List ℕ) (shelf : ShelfView) (bytes : List ℕ) : Type 0 where
  pub found : file_named shelf.files name ≡ Some bytes
  pub short : length bytes ≤ limit_of d

-- .. one that is accepted, with this tree
abbrev pub HasProgram : (name : List ℕ) → ShelfView → Resolved → Type 0
HasProgram name shelf tree = (text : List ℕ) × HasFile document.Source name shelf text × IsAccepted text tree

-- what a command works on
pub record Job : Type 0 where
  pub tree : Resolved
  pub input : List ℕ
  pub chain : Option Found

-- the store is told, has this chain, and no call on the disk failed
pub record HasChainOf (disk disk_new : View) (chain : Option Found) : Type 0 where
  pub tells : IsTrue disk.tells
  pub found : chain_in disk.seen ≡ Ok chain
  pub count : Rose disk.faults disk_new.faults → ⊥

-- The files have a source, and the text is within its limit. The store stands for that source, and no call on the disk failed.
pub record CanLive (source input : List ℕ) (shelf : ShelfView) (disk disk_new : View) : Type 0 where
  pub of : RunSource
  pub is : IsSourceIn source input (sight shelf) of
  pub short : length is.text ≤ limit_of document.Source
  pub tells : IsTrue disk.tells
  pub stands : AllStand of disk
  pub count : Rose disk.faults disk_new.faults → ⊥

-- the bound is not below the newest image
abbrev pub IsAhead : (until : ℕ) → Store → Type 0
IsAhead until c = (found : Found) (newest : Fields) → HasChain c found newest → newest.steps ≤ until

-- the files of the command are as they should be, and so is its store
abbrev pub IsReady : (words : List (List ℕ)) → Option Command → ShelfView → (disk disk_new : View) → Job → Type 0
IsReady words None shelf disk disk_new job = Unit {0}
IsReady words (Some (Check source)) shelf disk disk_new job = HasProgram (word_at words source) shelf job.tree
IsReady words (Some (Compile source)) shelf disk disk_new job = HasProgram (word_at words source) shelf job.tree
IsReady words (Some (Report source)) shelf disk disk_new job = HasProgram (word_at words source) shelf job.tree
IsReady words (Some (Plain source input until)) shelf disk disk_new job = HasProgram (word_at words source) shelf job.tree × HasFile document.Input (word_at words input) shelf job.input
IsReady words (Some (Run source input dir settings)) shelf disk disk_new job = CanLive (word_at words source) (word_at words input) shelf disk disk_new
IsReady words (Some (Restart source input dir settings fill)) shelf disk disk_new job =
    CanLive (word_at words source) (word_at words input) shelf disk disk_new × IsAhead settings.until disk.seen
IsReady words (Some (Images dir)) shelf disk disk_new job = HasChainOf disk disk_new job.chain
IsReady words (Some (Coalesce dir)) shelf disk disk_new job = HasChainOf disk disk_new job.chain
IsReady words (Some (Clear dir)) shelf disk disk_new job = Rose disk.faults disk_new.faults → ⊥
IsReady words (Some (Why source exclude cell)) shelf disk disk_new job = HasProgram (word_at words source) shelf job.tree
IsReady words (Some (Drill source input settings fill stops)) shelf disk disk_new job = HasProgram (word_at words source) shelf job.tree × HasFile document.Input (word_at words input) shelf job.input
IsReady words (Some (Generate n)) shelf disk disk_new job = IsAccepted (generated n) job.tree

-- the store has a chain, and the line tells its newest image
abbrev pub TellsOccupied : Store → (text : List ℕ) → Type 0
TellsOccupied c text = (found : Found) × (newest : Fields) × HasChain c found newest × (text ≡ occupied_line newest.number newest.steps)

-- why a cell is kept where the program has it and the EXCLUDE_HERE, and else which of them it has not
abbrev pub SaysWhy : Resolved → (k c : ℕ) → (status : ℕ) (text : List ℕ) → Type 0
SaysWhy p k c status text = (HasBoth p k c × (status ≡ 0) × IsReasonText p k c text) ⊎ ((e : Cause) × LacksOne p k c e × (status ≡ cause_status e) × (text ≡ cause_text e))

-- The status and the text that are meant. Those of a life are said by the headline.
abbrev pub Says : Option Command → Job → (disk : View) → (status : ℕ) (text : List ℕ) → Type 0
Says None job disk status text = (status ≡ 1) × (text ≡ usage_line)
Says (Some (Check source)) job disk status text = (status ≡ 0) × (c : Counts) × IsCounted job.tree c × (text ≡ counts_line c)
Says (Some (Compile source)) job disk status text = (status ≡ 0) × IsListing job.tree text
Says (Some (Report source)) job disk status text = (status ≡ 0) × IsReport job.tree text
Says (Some (Plain source input until)) job disk status text =
    let r = meaning job.tree job.input until in
    (status ≡ ending_status r.ending) × (text ≡ run_text (run.output r.events) r.ending r.ticks)
Says (Some (Run source input dir settings)) job disk status text = IsEnding status ⊎ ((status ≡ 10) × TellsOccupied disk.seen text)
Says (Some (Restart source input dir settings fill)) job disk status text = IsEnding status
Says (Some (Images dir)) job disk status text = (status ≡ 0) × (text ≡ chain_text job.chain)
Says (Some (Coalesce dir)) job disk status text = (status ≡ 0) × (c : Coalesced) × FindsRecords c disk.seen × (text ≡ joined_text c)
Says (Some (Clear dir)) job disk status text = (status ≡ 0) × (text ≡ codes "cleared\n")
Says (Some (Why source exclude cell)) job disk status text = SaysWhy job.tree exclude cell status text
Says (Some (Drill source input settings fill stops)) job disk status text = SaysDrill job.tree job.input settings.until status text
Says (Some (Generate n)) job disk status text = SaysDrill job.tree [] most_steps status text

-- Where the files and the store are as they should be and no count rose, exactly what is meant is told, or that there is no memory.
abbrev pub Complete : (words : List (List ℕ)) → Option Command → (shelf shelf_new : ShelfView) (disk disk_new : View) (console console_new : SinkView) → (result : ℕ) → Type 0
Complete words command shelf shelf_new disk disk_new console console_new result =
    (job : Job) → IsReady words command shelf disk disk_new job → IsFaultless shelf shelf_new console console_new
    → (result ≡ 12) ⊎ ((text : List ℕ) × (console_new.written ≡ console.written ++ text) × Says command job disk result text)
