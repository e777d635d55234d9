-- Where a store is as it should be and nothing fails, a command that uses it is carried out.
use Rattle.std.proofs.Common.{◌≡◌, ◌⊎◌, ◌++◌, ◌<◌, ◌∙◌, refl, sym, ap, subst, inl, inr, ⊎_elim, ℕ, List, Bool, true, false, IsTrue, Option, Some, Result, Ok, Err, arith}
use Rattle.std.proofs.lemmas.Bool.{false≢true}
use Rattle.ckpt_base.specs.Faults.{Rose}
use Rattle.ckpt_base.specs.Shelf.{ShelfView}
use Rattle.ckpt_base.specs.Sink.{SinkView}
use Rattle.command_words.specs.declared.command.Settings.{Settings}
use Rattle.disk_model.specs.Store.{Store}
use Rattle.disk_model.specs.View.{View}
use Rattle.disk_model.specs.Plate.{Plate, told, plate}
use Rattle.image_format.specs.declared.fields.Fields.{Fields}
use Rattle.image_chain.specs.Records.{Found}
use Rattle.chain_listing.specs.Store.{Lists, chain_text}
use Rattle.run_images.specs.Source.{Source as RunSource}
use Rattle.run_images.specs.Stands.{Stands}
use Rattle.run_marks.specs.Digests.{digests_of}
use Rattle.ckpt_runner.specs.Opening.{Given, HasChain, Refuses}
use Rattle.ckpt_runner.specs.Standing.{IsGivenSource}
use Rattle.ckpt_runner.specs.declared.how.Mode.TheVariants as mode
use Rattle.ckpt_runner.specs.declared.started.OpenFault.{OpenFault}
use Rattle.ckpt_runner.specs.declared.started.OpenFault.TheVariants as opening
use Rattle.accepted_stores.specs.Accepted.{MayRefuse}
use Rattle.ckpt_program.specs.Accepted.{Accepted}
use Rattle.ckpt_program.specs.DiskStages.{FailsEntry, FailsListing, IsListed}
use Rattle.ckpt_program.specs.Headline.{IsSourceOf}
use Rattle.ckpt_program.specs.LifeRow.{Lives, ReadsJob}
use Rattle.ckpt_program.specs.LifeStages.{FailsLife, given_with, stop_of_opening, TellsLife, to_begin, to_go_on}
use Rattle.ckpt_program.specs.Rows as row
use Rattle.ckpt_program.specs.Sight.{sight}
use Rattle.ckpt_program.specs.Stage.{Comes}
use Rattle.ckpt_program.specs.Texts.{done_status, done_text, text_of, status_of, occupied_line}
use Rattle.ckpt_program.specs.Told.{IsEnding}
use Rattle.ckpt_program.specs.Top.{CanLive, HasChainOf, HasFile, IsAhead, TellsOccupied}
use Rattle.ckpt_program.specs.declared.done.Done.{Done}
use Rattle.ckpt_program.specs.declared.done.Done.TheVariants as done
use Rattle.ckpt_program.specs.declared.life_stages.Asked.{Asked}
use Rattle.ckpt_program.specs.declared.lives.Job.{Job}
use Rattle.ckpt_program.specs.declared.stop.Document.TheVariants as document
use Rattle.ckpt_program.specs.declared.stop.Cause.{Cause}
use Rattle.ckpt_program.specs.declared.stop.Cause.TheVariants as cause
use Rattle.ckpt_program.specs.declared.stop.Stop.{Stop}
use Rattle.ckpt_program.specs.declared.stop.Stop.TheVariants.{NoMemory, Because}
use Rattle.ckpt_program.proofs.Lasting.{ending_is}
use Rattle.ckpt_program.proofs.Running.{source_read, source_given}
use Rattle.ckpt_program.proofs.ShelfReady.{IsCarriedOut, file_found, file_not_failing, not_refused}

pub told_seen : (b : Bool) (s : Store) → IsTrue b → told b s ≡ Some s
told_seen true s tells = refl
told_seen false s tells = absurd (false≢true tells)

-- the disk did not fail
pub entry_not_failing : (disk disk_new : Plate) (c : Cause) → (Rose disk.faults disk_new.faults → ⊥) → FailsEntry disk disk_new c → ⊥
unfolding FailsEntry
entry_not_failing disk disk_new cause.DiskFault count fails = count fails
entry_not_failing disk disk_new cause.Usage count fails = absurd fails
entry_not_failing disk disk_new cause.ShelfFault count fails = absurd fails
entry_not_failing disk disk_new (cause.Refused r) count fails = absurd fails
entry_not_failing disk disk_new (cause.TooLarge d) count fails = absurd fails
entry_not_failing disk disk_new (cause.Damaged file place) count fails = absurd fails
entry_not_failing disk disk_new (cause.Occupied image step) count fails = absurd fails
entry_not_failing disk disk_new (cause.OtherSource kept given) count fails = absurd fails
entry_not_failing disk disk_new (cause.OtherInput kept given) count fails = absurd fails
entry_not_failing disk disk_new (cause.Behind bound step) count fails = absurd fails
entry_not_failing disk disk_new (cause.NotAnExclude n) count fails = absurd fails
entry_not_failing disk disk_new (cause.NotACell n) count fails = absurd fails

-- ---- the records of a store

listing_not_failing : (disk disk_new : View) (chain : Option Found) (c : Cause) → HasChainOf disk disk_new chain → FailsListing (plate disk) (plate disk_new) c → ⊥
unfolding FailsListing
listing_not_failing disk disk_new chain cause.DiskFault has fails = has.count fails
listing_not_failing disk disk_new chain cause.Usage has fails = absurd fails
listing_not_failing disk disk_new chain cause.ShelfFault has fails = absurd fails
listing_not_failing disk disk_new chain (cause.Refused r) has fails = absurd fails
listing_not_failing disk disk_new chain (cause.TooLarge d) has fails = absurd fails
listing_not_failing disk disk_new chain (cause.Damaged file place) has fails = let damaged = fails disk.seen (told_seen disk.tells disk.seen has.tells) in absurd (cc (sym damaged ∙ has.found))
listing_not_failing disk disk_new chain (cause.Occupied image step) has fails = absurd fails
listing_not_failing disk disk_new chain (cause.OtherSource kept given) has fails = absurd fails
listing_not_failing disk disk_new chain (cause.OtherInput kept given) has fails = absurd fails
listing_not_failing disk disk_new chain (cause.Behind bound step) has fails = absurd fails
listing_not_failing disk disk_new chain (cause.NotAnExclude n) has fails = absurd fails
listing_not_failing disk disk_new chain (cause.NotACell n) has fails = absurd fails

-- it tells the records of the chain
abbrev pub TellsChain : Option Found → Done → Type 0
TellsChain chain d = (done_status d ≡ 0) × (done_text d ≡ chain_text chain)

records_said : (disk disk_new : View) (chain : Option Found) (text : List ℕ) → HasChainOf disk disk_new chain → IsListed (plate disk) text → text ≡ chain_text chain
unfolding IsListed
records_said disk disk_new chain text has listed =
    let lists : Lists disk.seen text = listed disk.seen (told_seen disk.tells disk.seen has.tells) in
    let same : lists.0 ≡ chain = cc (sym lists.1 ∙ has.found) in
    lists.2 ∙ ap chain_text same

pub with_store : (disk disk_new : View) (chain : Option Found) (o : Result Done Stop) → HasChainOf disk disk_new chain → Comes (row.Images (plate disk) (plate disk_new)) o → IsCarriedOut (TellsChain chain) o
with_store disk disk_new chain (Ok d) has came =
    let is : d ≡ done.Printed came.2.0 = came.2.2 in
    inr (d, refl, subst (TellsChain chain) (sym is) (refl, records_said disk disk_new chain came.2.0 has came.2.1))
with_store disk disk_new chain (Err NoMemory) has came = inl refl
with_store disk disk_new chain (Err (Because c)) has came =
    ⊎_elim (λ fails. absurd (entry_not_failing (plate disk) (plate disk_new) c has.count fails)) (λ entered.
    ⊎_elim (λ fails. absurd (listing_not_failing disk disk_new chain c has fails)) (λ listed. absurd listed.2) entered.2) came

-- ---- a life

-- a store that stands for a source is accepted with it
abbrev pub Accepts : Type 0
Accepts = (g : Given) (s : RunSource) (c : Store) (f : OpenFault) → IsGivenSource g s → Stands s c → Refuses f g c → MayRefuse f g c

-- for which causes a life may still be stopped
abbrev pub StopsFor : Asked → Store → Cause → Type 0
StopsFor a c (cause.Occupied image step) = (found : Found) × (newest : Fields) × HasChain c found newest × (a.mode ≡ mode.Run) × (image ≡ newest.number) × (step ≡ newest.steps)
StopsFor a c (cause.Behind bound step) = (found : Found) × (newest : Fields) × HasChain c found newest × (a.mode ≡ mode.Restart) × (bound ≡ a.settings.until) × (step ≡ newest.steps) × (bound < step)
StopsFor a c cause = ⊥

module _ (law : Accepts) (s : RunSource) (v w : View) (compiled : _) (marks : _) (bytes : List ℕ) (a : Asked) (told_it : IsTrue v.tells) (count : Rose v.faults w.faults → ⊥)
    (given : IsGivenSource (given_with compiled marks bytes a) s) (stand : Stands s v.seen) where
  stops_for : (f : OpenFault) (c : Cause) → stop_of_opening f ≡ Because c → FailsLife (given_with compiled marks bytes a) (plate v) (plate w) f → StopsFor a v.seen c
  unfolding FailsLife
  stops_for opening.Memory c is fails = absurd (cc is)
  stops_for opening.Failed c is fails = absurd (count fails)
  stops_for (opening.Damaged file place) c is fails = absurd (law (given_with compiled marks bytes a) s v.seen (opening.Damaged file place) given stand (fails v.seen (told_seen v.tells v.seen told_it)))
  stops_for (opening.OtherSource kept of) c is fails = absurd (law (given_with compiled marks bytes a) s v.seen (opening.OtherSource kept of) given stand (fails v.seen (told_seen v.tells v.seen told_it)))
  stops_for (opening.OtherInput kept of) c is fails = absurd (law (given_with compiled marks bytes a) s v.seen (opening.OtherInput kept of) given stand (fails v.seen (told_seen v.tells v.seen told_it)))
  stops_for (opening.Occupied image step) c is fails =
      let why = fails v.seen (told_seen v.tells v.seen told_it) in
      let same : cause.Occupied image step ≡ c = cc is in
      subst (StopsFor a v.seen) same (why.0, why.1, why.2, why.3, why.4, why.5)
  stops_for (opening.Behind bound step) c is fails =
      let why = law (given_with compiled marks bytes a) s v.seen (opening.Behind bound step) given stand (fails v.seen (told_seen v.tells v.seen told_it)) in
      let same : cause.Behind bound step ≡ c = cc is in
      subst (StopsFor a v.seen) same (why.0, why.1, why.2, why.3, why.4, why.5, why.6)

-- the files of the job are there
job_not_failing : (source input : List ℕ) (v w : ShelfView) (disk disk_new : View) (c : Cause) → IsTrue v.tells → (Rose v.faults w.faults → ⊥) → CanLive source input v disk disk_new → ReadsJob source input (sight v) (sight w) (Err c) → ⊥
job_not_failing source input v w disk disk_new c tells calm can came =
    let has : HasFile document.Source source v can.is.text = record { found = can.is.found; short = can.short } in
    let given : HasFile document.Input input v can.of.input = record { found = can.is.given; short = can.is.is.short } in
    ⊎_elim (λ fails. absurd (file_not_failing document.Source source v w c can.is.text tells calm has fails)) (λ read.
    let same = file_found document.Source source v read.0.list can.is.text read.1 tells has in
    ⊎_elim (λ refused. absurd (not_refused can.is.text can.of.program c can.is.accepted (subst (λ (t : List ℕ). Accepted t (Err c)) same refused))) (λ accepted.
    ⊎_elim (λ fails. absurd (file_not_failing document.Input input v w c can.of.input tells calm given fails)) (λ got. absurd got.2) accepted.2) read.2) came

-- the life is told, or there is no memory, or it is stopped for one of those causes
abbrev pub IsLived : Asked → Store → Result Done Stop → Type 0
IsLived a c (Ok d) = IsEnding (done_status d)
IsLived a c (Err NoMemory) = Unit {0}
IsLived a c (Err (Because e)) = StopsFor a c e

lived_status : (l : _) (d : Done) → TellsLife l d → IsEnding (done_status d)
unfolding TellsLife
lived_status l (done.Told t) tells = ending_is t.ending
lived_status l (done.Accepted t) tells = absurd tells
lived_status l (done.Finished t) tells = absurd tells
lived_status l (done.Printed t) tells = absurd tells
lived_status l (done.Noted t) tells = absurd tells

pub with_life : Accepts → (source input : List ℕ) (a : Asked) (v w : ShelfView) (disk disk_new : View) (o : Result Done Stop) → IsTrue v.tells → (Rose v.faults w.faults → ⊥) → (IsTrue disk.tells → disk.may_leave disk.seen)
    → CanLive source input v disk disk_new → Comes (Lives source input a (sight v) (sight w) (plate disk) (plate disk_new)) o → IsLived a disk.seen o
with_life law source input a v w disk disk_new (Ok d) tells calm stays can came = let lived = came.2.2.2 in lived_status lived.0 d lived.2
with_life law source input a v w disk disk_new (Err NoMemory) tells calm stays can came = tt
with_life law source input a v w disk disk_new (Err (Because c)) tells calm stays can came =
    ⊎_elim (λ unread. absurd (job_not_failing source input v w disk disk_new c tells calm can unread)) (λ read.
    ⊎_elim (λ none. absurd none) (λ compiled.
    ⊎_elim (λ fails. absurd (entry_not_failing (plate disk) (plate disk_new) c can.count fails)) (λ entered.
    ⊎_elim (λ fails.
    let job : Job = read.0 in
    let marks = digests_of job.text.list job.input.list in
    let of : IsSourceOf job can.of = source_read source input (sight v) (sight w) job can.of read.1 can.is in
    let given = source_given job a compiled.0 marks job.input.list job.text.list can.of refl refl refl compiled.1 of in
    stops_for law can.of disk disk_new compiled.0 marks job.input.list a can.tells can.count given (can.stands disk.seen (stays can.tells)) fails.0 c fails.1 fails.2) (λ lived. absurd lived.2) entered.2) compiled.2) read.2) came

-- ---- what is told of it

begun_stop : (disk : View) (settings : Settings) (c : Cause) → StopsFor (to_begin settings) disk.seen c → (status_of (Err (Because c)) ≡ 10) × TellsOccupied disk.seen (text_of (Err (Because c)))
begun_stop disk settings (cause.Occupied image step) stops = (refl, (stops.0, stops.1, stops.2, ap (λ (n : ℕ). occupied_line n step) stops.4 ∙ ap (λ (n : ℕ). occupied_line stops.1.number n) stops.5))
begun_stop disk settings (cause.Behind bound step) stops = let both : mode.Run ≡ mode.Restart = stops.3 in absurd (cc both)
begun_stop disk settings cause.Usage stops = absurd stops
begun_stop disk settings (cause.Refused r) stops = absurd stops
begun_stop disk settings cause.DiskFault stops = absurd stops
begun_stop disk settings cause.ShelfFault stops = absurd stops
begun_stop disk settings (cause.TooLarge d) stops = absurd stops
begun_stop disk settings (cause.Damaged file place) stops = absurd stops
begun_stop disk settings (cause.OtherSource kept given) stops = absurd stops
begun_stop disk settings (cause.OtherInput kept given) stops = absurd stops
begun_stop disk settings (cause.NotAnExclude n) stops = absurd stops
begun_stop disk settings (cause.NotACell n) stops = absurd stops

pub begun_said : (disk : View) (settings : Settings) (k l : SinkView) (result : ℕ) (o : Result Done Stop) → (l.written ≡ k.written ++ text_of o) × (result ≡ status_of o) → IsLived (to_begin settings) disk.seen o
    → (result ≡ 12) ⊎ ((text : List ℕ) × (l.written ≡ k.written ++ text) × (IsEnding result ⊎ ((result ≡ 10) × TellsOccupied disk.seen text)))
begun_said disk settings k l result (Ok d) whole lived = inr (text_of (Ok d), whole.0, inl (subst IsEnding (sym whole.1) lived))
begun_said disk settings k l result (Err NoMemory) whole lived = inl whole.1
begun_said disk settings k l result (Err (Because c)) whole lived = let stop = begun_stop disk settings c lived in inr (text_of (Err (Because c)), whole.0, inr (whole.1 ∙ stop.0, stop.1))

gone_on_stop : (disk : View) (settings : Settings) (fill : ℕ) (c : Cause) → IsAhead settings.until disk.seen → StopsFor (to_go_on settings fill) disk.seen c → ⊥
gone_on_stop disk settings fill (cause.Occupied image step) ahead stops = let both : mode.Restart ≡ mode.Run = stops.3 in absurd (cc both)
gone_on_stop disk settings fill (cause.Behind bound step) ahead stops = let low = ahead stops.0 stops.1 stops.2 in let at = stops.4 in let is = stops.5 in let less = stops.6 in absurd (omega (arith, low, at, is, less))
gone_on_stop disk settings fill cause.Usage ahead stops = absurd stops
gone_on_stop disk settings fill (cause.Refused r) ahead stops = absurd stops
gone_on_stop disk settings fill cause.DiskFault ahead stops = absurd stops
gone_on_stop disk settings fill cause.ShelfFault ahead stops = absurd stops
gone_on_stop disk settings fill (cause.TooLarge d) ahead stops = absurd stops
gone_on_stop disk settings fill (cause.Damaged file place) ahead stops = absurd stops
gone_on_stop disk settings fill (cause.OtherSource kept given) ahead stops = absurd stops
gone_on_stop disk settings fill (cause.OtherInput kept given) ahead stops = absurd stops
gone_on_stop disk settings fill (cause.NotAnExclude n) ahead stops = absurd stops
gone_on_stop disk settings fill (cause.NotACell n) ahead stops = absurd stops

pub gone_on_said : (disk : View) (settings : Settings) (fill : ℕ) (k l : SinkView) (result : ℕ) (o : Result Done Stop) → IsAhead settings.until disk.seen → (l.written ≡ k.written ++ text_of o) × (result ≡ status_of o) → IsLived (to_go_on settings fill) disk.seen o
    → (result ≡ 12) ⊎ ((text : List ℕ) × (l.written ≡ k.written ++ text) × IsEnding result)
gone_on_said disk settings fill k l result (Ok d) ahead whole lived = inr (text_of (Ok d), whole.0, subst IsEnding (sym whole.1) lived)
gone_on_said disk settings fill k l result (Err NoMemory) ahead whole lived = inl whole.1
gone_on_said disk settings fill k l result (Err (Because c)) ahead whole lived = absurd (gone_on_stop disk settings fill c ahead lived)
