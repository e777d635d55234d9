-- What `drill` and `generate` come to.
use Rattle.std.proofs.Common.{◌≡◌, ◌≤◌, ◌<◌, ◌⊎◌, ◌++◌, ◌∙◌, refl, sym, ap, subst, inl, inr, ⊎_elim, ℕ, List, [], ◌∷◌, length, get_or, drop, ◌+◌, codes, IsTrue, Option, Some, None, Result, Ok, Err, arith}
use Rattle.std.proofs.lemmas.Bool.Decides.{nat_tests}
use Rattle.std.proofs.lemmas.List.{drop_more}
use Rattle.ckpt_base.specs.Faults.{Rose}
use Rattle.ckpt_base.specs.Run as run
use Rattle.ckpt_base.specs.Shelf.{ShelfView}
use Rattle.ckpt_base.specs.Sink.{SinkView}
use Rattle.ckpt_base.specs.declared.ending.Ending.{Ending}
use Rattle.ckpt_base.specs.declared.ending.Ending.TheVariants.{Going}
use Rattle.c_tree.specs.declared.resolved.Resolved.{Resolved}
use Rattle.c_tree.specs.Meaning.{meaning}
use Rattle.disk_model.specs.Plate.{Plate}
use Rattle.generated_program.specs.Generated.{generated, generated_line}
use Rattle.command_words.specs.declared.command.Command.{Command}
use Rattle.command_words.specs.declared.command.Command.TheVariants as command
use Rattle.command_words.specs.declared.command.Settings.{Settings}
use Rattle.command_words.specs.declared.stops.Stop.{Stop as LifeStop}
use Rattle.command_words.specs.declared.stops.Stop.TheVariants.{AtStep, InCall}
use Rattle.run_images.specs.Source.{Source as RunSource, IsSource, run_of, output_of}
use Rattle.run_marks.specs.Digests.{digests_of}
use Rattle.ckpt_runner.specs.Opening.{Given}
use Rattle.ckpt_runner.specs.Standing.{IsGivenSource}
use Rattle.run_images.specs.Compiled.{CompiledView}
use Rattle.ckpt_runner.specs.declared.started.Started.{Started}
use Rattle.drilled_lives.specs.Between.{IsSpacedBy}
use Rattle.drilled_lives.specs.Courses.{AreCourses, AreDrilled, Known, latest_of, known_of}
use Rattle.drilled_lives.specs.Lines.{courses_lines}
use Rattle.drilled_lives.specs.declared.course.Course.{Course}
use Rattle.drilled_lives.specs.declared.course.Course.TheVariants as course
use Rattle.drilled_lives.specs.declared.course.Drilled.{Drilled}
use Rattle.ckpt_program.specs.Accepted.{Accepted, IsAccepted}
use Rattle.ckpt_program.specs.Drill.{WasDrilled, FailsDrill, TellsDrill, OfProgram, Drill, Generate, default_settings, stops_of, to_drill, last_ending, ending_of, output_part}
use Rattle.ckpt_program.specs.Drilled.{DrillsAsSource, HasDrilled, IsSourceOfText, spaced_by, SaysDrill}
use Rattle.ckpt_program.specs.Carries.{word_at, CarriesSome}
use Rattle.ckpt_program.specs.Headline.{IsSourceIn}
use Rattle.ckpt_program.specs.Fetched.{limit_of}
use Rattle.ckpt_program.specs.LifeRow.{ReadsJob}
use Rattle.ckpt_program.specs.LifeStages.{given_with, IsCodeOf}
use Rattle.ckpt_program.specs.Sight.{Sight, sight}
use Rattle.ckpt_program.specs.Stage.{Comes}
use Rattle.ckpt_program.specs.Texts.{ending_status, done_status, done_text, status_of, text_of}
use Rattle.ckpt_program.specs.Told.{Tells, IsEnding}
use Rattle.ckpt_program.specs.Top.{HasProgram, HasFile}
use Rattle.ckpt_program.specs.declared.done.Done.{Done}
use Rattle.ckpt_program.specs.declared.done.Done.TheVariants as done
use Rattle.ckpt_program.specs.declared.life_stages.Asked.{Asked}
use Rattle.ckpt_program.specs.declared.lives.Job.{Job}
use Rattle.ckpt_program.specs.declared.stop.Cause.{Cause}
use Rattle.ckpt_program.specs.declared.stop.Cause.TheVariants as cause
use Rattle.ckpt_program.specs.declared.stop.Document.TheVariants as document
use Rattle.ckpt_program.specs.declared.stop.Stop.{Stop}
use Rattle.ckpt_program.specs.declared.stop.Stop.TheVariants.{NoMemory, Because}
use Rattle.ckpt_program.proofs.Lasting.{ending_is, not_ending, not_seven, stopped_status}
use Rattle.ckpt_program.proofs.Running.{source_read}
use Rattle.ckpt_program.proofs.ShelfReady.{file_found, file_not_failing, not_refused}
use Rattle.ckpt_program.proofs.SourceRead.{one_tree}

-- ---- the last life

pub ends_last : (s : RunSource) (every until : ℕ) (latest : Started) (known : Known) (stops : List LifeStop) (cs : List Course) (e : Ending) → AreCourses s every until latest known stops cs → last_ending e cs ≡ (run_of s until).ending
ends_last s every until latest known [] [] e are = absurd are
ends_last s every until latest known (stop ∷ stops) [] e are = absurd are
ends_last s every until latest known [] (course.Opening ∷ []) e are = absurd are.stopped
ends_last s every until latest known [] (course.Left started ∷ []) e are = absurd are.stopped
ends_last s every until latest known [] (course.Lived l ∷ []) e are = are.stopped.0
ends_last s every until latest known [] (c ∷ d ∷ cs) e are = absurd are
ends_last s every until latest known (stop ∷ stops) (c ∷ cs) e are = ends_last s every until (latest_of latest c) (known_of until c (Some stop)) stops cs (ending_of c) are.1

-- ---- the source

spaced_source : (every : ℕ) (s : RunSource) → IsSource s → IsSource (spaced_by every s)
spaced_source every s is = record { checked = is.checked; graph = is.graph; sets = is.sets; short = is.short }

is_spaced : (every : ℕ) (s : RunSource) → IsSpacedBy (spaced_by every s) every
is_spaced every s = λ e is. grind (arith, nat_tests)

lives_of : (stops : List LifeStop) (g : Given) (d : Drilled) (s : RunSource) → WasDrilled g stops d → IsGivenSource g s → IsSpacedBy s g.every → (length d.output.items ≤ 16777216) × AreDrilled s g.every g.until stops d.courses.items × (d.output.items ≡ output_of s g.until)
unfolding WasDrilled
lives_of stops g d s was given spaced = let of = was.1 s given spaced in (was.0, of.lives, of.output)

of_code : (tree : Resolved) (c : CompiledView) (s : RunSource) (every : ℕ) (text input : List ℕ) (asked : Asked) → IsCodeOf tree c → s.program ≡ tree → s.input ≡ input → s.marks ≡ digests_of text input → IsSource s
    → IsGivenSource (given_with c (digests_of text input) input asked) (spaced_by asked.settings.every s)
unfolding IsCodeOf
of_code tree c s every text input asked code program given marks is =
    let there = spaced_source asked.settings.every s is in
    record {
      source = there;
      compiled = code (spaced_by asked.settings.every s) there program;
      marks = marks;
      input = given;
      spaced = grind (arith, nat_tests);
    }

-- ---- what is told

drill_told : (heading : List ℕ) (drilled : Drilled) (d : Done) → TellsDrill heading drilled d → (done_status d ≡ ending_status (last_ending Going drilled.courses.items)) × (done_text d ≡ heading ++ (courses_lines drilled.courses.items ++ output_part drilled.output.items))
unfolding TellsDrill
drill_told heading drilled (done.Told t) tells = (ap ending_status tells.0, tells.1)
drill_told heading drilled (done.Accepted t) tells = absurd tells
drill_told heading drilled (done.Finished t) tells = absurd tells
drill_told heading drilled (done.Printed t) tells = absurd tells
drill_told heading drilled (done.Noted t) tells = absurd tells

pub has_drilled : (heading : List ℕ) (asked : Asked) (stops : List LifeStop) (tree : Resolved) (text input : List ℕ) (s : RunSource) (d : Done) (k l : SinkView) (result : ℕ) → s.program ≡ tree → s.input ≡ input → s.marks ≡ digests_of text input → IsSource s
    → OfProgram heading asked stops tree text input (Ok d) → Tells (Ok d) k l result → IsEnding result → HasDrilled s heading asked.settings stops k l result
has_drilled heading asked stops tree text input s d k l result program given marks is came tells ends =
    let every = asked.settings.every in
    let until = asked.settings.until in
    let drilled : Drilled = came.2.0 in
    let g = given_with came.0 (digests_of text input) input asked in
    let lives = lives_of stops g drilled (spaced_by every s) came.2.1 (of_code tree came.0 s every text input asked came.1 program given marks is) (is_spaced every s) in
    let said = drill_told heading drilled d came.2.2 in
    let last = ends_last (spaced_by every s) every until _ _ stops drilled.courses.items Going lives.1 in
    ⊎_elim (λ all. record {
      within = subst (λ (o : List ℕ). length o ≤ 16777216) lives.2 lives.0;
      ending = all.status_is ∙ said.0 ∙ ap ending_status last;
      courses = drilled.courses.items;
      drilled = lives.1;
      told = λ told. all.whole told ∙ ap (λ (t : List ℕ). k.written ++ t) (said.1 ∙ ap (λ (o : List ℕ). heading ++ (courses_lines drilled.courses.items ++ output_part o)) lives.2);
    }) (λ part. absurd (not_seven (subst IsEnding part.status_is ends))) tells

-- ---- for which cause it may stop

drill_cause : (tree : Resolved) (input : List ℕ) (until : ℕ) (c : Cause) → FailsDrill tree input until c
    → (status_of (Err (Because c)) ≡ 11) × (text_of (Err (Because c)) ≡ codes "too large: output\n") × (16777216 < length (run.output (meaning tree input until).events))
unfolding FailsDrill
drill_cause tree input until (cause.TooLarge document.Output) fails = (refl, refl, fails)
drill_cause tree input until (cause.TooLarge document.Source) fails = absurd fails
drill_cause tree input until (cause.TooLarge document.Input) fails = absurd fails
drill_cause tree input until cause.Usage fails = absurd fails
drill_cause tree input until (cause.Refused r) fails = absurd fails
drill_cause tree input until cause.DiskFault fails = absurd fails
drill_cause tree input until cause.ShelfFault fails = absurd fails
drill_cause tree input until (cause.Damaged file place) fails = absurd fails
drill_cause tree input until (cause.Occupied image step) fails = absurd fails
drill_cause tree input until (cause.OtherSource kept of) fails = absurd fails
drill_cause tree input until (cause.OtherInput kept of) fails = absurd fails
drill_cause tree input until (cause.Behind bound step) fails = absurd fails
drill_cause tree input until (cause.NotAnExclude n) fails = absurd fails
drill_cause tree input until (cause.NotACell n) fails = absurd fails

pub drill_said : (heading : List ℕ) (asked : Asked) (stops : List LifeStop) (tree : Resolved) (text input : List ℕ) (o : Result Done Stop) (k l : SinkView) (result : ℕ) → Comes (OfProgram heading asked stops tree text input) o
    → (l.written ≡ k.written ++ text_of o) × (result ≡ status_of o) → (result ≡ 12) ⊎ ((t : List ℕ) × (l.written ≡ k.written ++ t) × SaysDrill tree input asked.settings.until result t)
drill_said heading asked stops tree text input (Ok d) k l result came whole =
    let said = drill_told heading came.2.0 d came.2.2 in
    inr (done_text d, whole.0, inl (subst IsEnding (sym (whole.1 ∙ said.0)) (ending_is (last_ending Going came.2.0.courses.items))))
drill_said heading asked stops tree text input (Err NoMemory) k l result came whole = inl whole.1
drill_said heading asked stops tree text input (Err (Because c)) k l result came whole =
    ⊎_elim (λ none. absurd none) (λ compiled. ⊎_elim (λ fails.
    let why = drill_cause tree input asked.settings.until c fails in
    inr (text_of (Err (Because c)), whole.0, inr (whole.1 ∙ why.0, why.1, why.2))) (λ told. absurd told.2) compiled.2) came

-- what the program writes within a bound that is no later is more than there is room for
pub writes_too_much : (tree : Resolved) (input : List ℕ) (early until : ℕ) (output : List ℕ) → output ≡ run.output (meaning tree input early).events
    → length (run.output (meaning tree input early).events) ≤ length (run.output (meaning tree input until).events) → 16777216 < length output → FailsDrill tree input until (cause.TooLarge document.Output)
unfolding FailsDrill
writes_too_much tree input early until output is stays more = omega (arith, ap length is, stays, more)

-- the lives that are left, behind the one at hand
pub one_life_more : (courses : List Course) (i : ℕ) (d : Course) (now then : Ending) → i < length courses → then ≡ ending_of (get_or courses i d) → last_ending now (drop i courses) ≡ last_ending Going courses
    → last_ending then (drop (i + 1) courses) ≡ last_ending Going courses
one_life_more courses i d now then lt is so_far =
    ap (λ (e : Ending). last_ending e (drop (i + 1) courses)) is ∙ sym (ap (last_ending now) (drop_more courses i d lt)) ∙ so_far

-- ---- what is read

-- where the files are as they should be, the job is that of its program and its input
read_whole : (source input : List ℕ) (v w : ShelfView) (tree : Resolved) (bytes : List ℕ) (j : Job) → IsTrue v.tells → HasProgram source v tree → HasFile document.Input input v bytes → ReadsJob source input (sight v) (sight w) (Ok j) → (j.program ≡ tree) × (j.input.list ≡ bytes)
read_whole source input v w tree bytes j tells has given reads =
    let text = file_found document.Source source v reads.0.list has.0 reads.1 tells has.1 in
    let same = one_tree has.0 reads.2.0 tree (subst (λ (t : List ℕ). IsAccepted t reads.2.0) text reads.2.1) has.2 in
    let found = file_found document.Input input v reads.2.2.0.list bytes reads.2.2.1 tells given in
    (ap (λ (x : Job). x.program) reads.2.2.2 ∙ same, ap (λ (x : Job). x.input.list) reads.2.2.2 ∙ found)

-- .. and it is read
read_not_failing : (source input : List ℕ) (v w : ShelfView) (tree : Resolved) (bytes : List ℕ) (c : Cause) → IsTrue v.tells → (Rose v.faults w.faults → ⊥) → HasProgram source v tree → HasFile document.Input input v bytes → ReadsJob source input (sight v) (sight w) (Err c) → ⊥
read_not_failing source input v w tree bytes c tells calm has given fails =
    ⊎_elim (λ file. file_not_failing document.Source source v w c has.0 tells calm has.1 file) (λ read.
    let text = file_found document.Source source v read.0.list has.0 read.1 tells has.1 in
    ⊎_elim (λ refused. not_refused has.0 tree c has.2 (subst (λ (t : List ℕ). Accepted t (Err c)) text refused)) (λ accepted.
    ⊎_elim (λ file. file_not_failing document.Input input v w c bytes tells calm given file) (λ found. absurd found.2) accepted.2) read.2) fails

pub drill_ready : (source input : List ℕ) (asked : Asked) (stops : List LifeStop) (v w : ShelfView) (tree : Resolved) (bytes : List ℕ) (o : Result Done Stop) → IsTrue v.tells → (Rose v.faults w.faults → ⊥) → HasProgram source v tree → HasFile document.Input input v bytes
    → Comes (Drill source input asked stops (sight v) (sight w)) o → (text : List ℕ) × Comes (OfProgram [] asked stops tree text bytes) o
drill_ready source input asked stops v w tree bytes (Ok d) tells calm has given came =
    let same = read_whole source input v w tree bytes came.0 tells has given came.1 in
    let text = came.0.text.list in
    (text, subst (λ (t : Resolved). OfProgram [] asked stops t text bytes (Ok d)) same.0 (subst (λ (i : List ℕ). OfProgram [] asked stops came.0.program text i (Ok d)) same.1 came.2))
drill_ready source input asked stops v w tree bytes (Err NoMemory) tells calm has given came = ([], tt)
drill_ready source input asked stops v w tree bytes (Err (Because c)) tells calm has given came =
    ⊎_elim (λ fails. absurd (read_not_failing source input v w tree bytes c tells calm has given fails)) (λ read.
    let same = read_whole source input v w tree bytes read.0 tells has given read.1 in
    let text = read.0.text.list in
    (text, subst (λ (t : Resolved). OfProgram [] asked stops t text bytes (Err c)) same.0 (subst (λ (i : List ℕ). OfProgram [] asked stops read.0.program text i (Err c)) same.1 read.2))) came

pub generate_ready : (n : ℕ) (tree : Resolved) (o : Result Done Stop) → IsAccepted (generated n) tree → Comes (Generate n) o → Comes (OfProgram (generated_line n) (to_drill default_settings 0) (stops_of n) tree (generated n) []) o
generate_ready n tree (Ok d) accepted came = subst (λ (t : Resolved). OfProgram (generated_line n) (to_drill default_settings 0) (stops_of n) t (generated n) [] (Ok d)) (one_tree (generated n) came.0 tree came.1 accepted) came.2
generate_ready n tree (Err NoMemory) accepted came = tt
generate_ready n tree (Err (Because c)) accepted came =
    ⊎_elim (λ refused. absurd (not_refused (generated n) tree c accepted refused)) (λ read.
    subst (λ (t : Resolved). OfProgram (generated_line n) (to_drill default_settings 0) (stops_of n) t (generated n) [] (Err c)) (one_tree (generated n) read.0 tree read.1 accepted) read.2) came

-- ---- the clause

-- one that was stopped ends with no status of a run
stopped_drill : (P : Type 0) (e : Stop) (k l : SinkView) (result : ℕ) → Tells (Err e) k l result → IsEnding result → P
stopped_drill P e k l result tells ends = absurd (not_ending e (subst IsEnding (stopped_status e k l result tells) ends))

drill_as_source : (source input : List ℕ) (settings : Settings) (fill : ℕ) (stops : List LifeStop) (old new : Sight) (o : Result Done Stop) (k l : SinkView) (result : ℕ) (s : RunSource) → Comes (Drill source input (to_drill settings fill) stops old new) o → Tells o k l result
    → IsSourceIn source input old s → IsEnding result → HasDrilled s [] settings stops k l result
drill_as_source source input settings fill stops old new (Ok d) k l result s came tells is ends =
    let of = source_read source input old new came.0 s came.1 is in
    has_drilled [] (to_drill settings fill) stops came.0.program came.0.text.list came.0.input.list s d k l result of.program of.input of.marks of.is came.2 tells ends
drill_as_source source input settings fill stops old new (Err e) k l result s came tells is ends = stopped_drill (HasDrilled s [] settings stops k l result) e k l result tells ends

generate_as_source : (n : ℕ) (o : Result Done Stop) (k l : SinkView) (result : ℕ) (s : RunSource) → Comes (Generate n) o → Tells o k l result → IsSourceOfText (generated n) [] s → IsEnding result → HasDrilled s (generated_line n) default_settings (stops_of n) k l result
generate_as_source n (Ok d) k l result s came tells is ends =
    has_drilled (generated_line n) (to_drill default_settings 0) (stops_of n) came.0 (generated n) [] s d k l result (sym (one_tree (generated n) came.0 s.program came.1 is.accepted)) is.given is.marks is.is came.2 tells ends
generate_as_source n (Err e) k l result s came tells is ends = stopped_drill (HasDrilled s (generated_line n) default_settings (stops_of n) k l result) e k l result tells ends

pub drills_as_source : (words : List (List ℕ)) (command : Option Command) (old new : Sight) (disk disk_new : Plate) (o : Result Done Stop) (k l : SinkView) (result : ℕ) → Comes (CarriesSome words command old new disk disk_new) o → Tells o k l result → DrillsAsSource words command old k l result
drills_as_source words None old new disk disk_new o k l result came tells = tt
drills_as_source words (Some (command.Check source)) old new disk disk_new o k l result came tells = tt
drills_as_source words (Some (command.Compile source)) old new disk disk_new o k l result came tells = tt
drills_as_source words (Some (command.Report source)) old new disk disk_new o k l result came tells = tt
drills_as_source words (Some (command.Plain source input until)) old new disk disk_new o k l result came tells = tt
drills_as_source words (Some (command.Run source input dir settings)) old new disk disk_new o k l result came tells = tt
drills_as_source words (Some (command.Restart source input dir settings fill)) old new disk disk_new o k l result came tells = tt
drills_as_source words (Some (command.Images dir)) old new disk disk_new o k l result came tells = tt
drills_as_source words (Some (command.Coalesce dir)) old new disk disk_new o k l result came tells = tt
drills_as_source words (Some (command.Clear dir)) old new disk disk_new o k l result came tells = tt
drills_as_source words (Some (command.Why source exclude cell)) old new disk disk_new o k l result came tells = tt
drills_as_source words (Some (command.Drill source input settings fill stops)) old new disk disk_new o k l result came tells = λ s is ends.
    drill_as_source (word_at words source) (word_at words input) settings fill stops old new o k l result s came tells is ends
drills_as_source words (Some (command.Generate n)) old new disk disk_new o k l result came tells = λ s is ends. generate_as_source n o k l result s came tells is ends
