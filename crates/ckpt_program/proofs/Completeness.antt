-- Where the files are as they should be and nothing fails, a command tells what is meant.
use Rattle.std.proofs.Common.{◌≡◌, ◌⊎◌, ◌++◌, ◌∙◌, refl, sym, ap, subst, inl, inr, ⊎_elim, ℕ, List, [], IsTrue, Option, Some, None, Result, Ok, Err}
use Rattle.ckpt_base.specs.Faults.{Rose}
use Rattle.ckpt_base.specs.Run as run
use Rattle.ckpt_base.specs.Shelf.{ShelfView}
use Rattle.ckpt_base.specs.Sink.{SinkView}
use Rattle.ckpt_base.specs.declared.ending.Ending.{Ending}
use Rattle.c_tree.specs.declared.resolved.Resolved.{Resolved}
use Rattle.c_tree.specs.Meaning.{meaning}
use Rattle.command_words.specs.declared.command.Command.{Command}
use Rattle.command_words.specs.declared.command.Command.TheVariants.{Plain, Check, Compile, Report, Run, Restart, Images, Coalesce, Clear, Why, Drill, Generate}
use Rattle.ckpt_program.specs.declared.done.Counts.{Counts}
use Rattle.ckpt_program.specs.declared.done.Done.{Done}
use Rattle.ckpt_program.specs.declared.done.Done.TheVariants as done
use Rattle.ckpt_program.specs.declared.stop.Cause.{Cause}
use Rattle.ckpt_program.specs.declared.stop.Stop.{Stop}
use Rattle.ckpt_program.specs.declared.stop.Stop.TheVariants.{NoMemory, Because}
use Rattle.disk_model.specs.Plate.{plate}
use Rattle.disk_model.specs.View.{View}
use Rattle.ckpt_program.specs.Sight.{sight}
use Rattle.ckpt_program.specs.Stage.{Comes}
use Rattle.ckpt_program.specs.Listed.{IsListing}
use Rattle.ckpt_program.specs.Report.{IsReport}
use Rattle.ckpt_program.specs.Why.{IsReasonText}
use Rattle.ckpt_program.specs.Rows.{IsCounted, Counted, Evaluated, Printed, Explained}
use Rattle.ckpt_program.specs.Rows as row
use Rattle.ckpt_program.specs.Carries.{word_at, NoCommand, CarriesSome}
use Rattle.ckpt_program.specs.Texts.{usage_line, counts_line, run_text, ending_status, done_text, done_status, text_of, status_of}
use Rattle.ckpt_program.specs.Told.{Tells}
use Rattle.ckpt_program.specs.LifeStages.{to_begin, to_go_on}
use Rattle.ckpt_program.specs.Top.{HasProgram, Says, SaysWhy, Complete}
use Rattle.ckpt_program.proofs.ShelfReady.{IsCarriedOut, with_source, with_both, source_found, source_not_failing}
use Rattle.generated_program.specs.Generated.{generated, generated_line}
use Rattle.ckpt_program.specs.Drill.{default_settings, stops_of, to_drill}
use Rattle.ckpt_program.proofs.Drilling.{drill_ready, drill_said, generate_ready}
use Rattle.ckpt_program.specs.Upkeep.{TellsCleared}
use Rattle.ckpt_program.proofs.Ordering.{TellsOf, with_joining, joining_said, with_clearing, clearing_said}
use Rattle.ckpt_program.proofs.StoreReady.{Accepts, TellsChain, with_store, with_life, begun_said, gone_on_said}

-- ---- what is told

pub whole_text : (o : Result Done Stop) (k l : SinkView) (result : ℕ) → Tells o k l result → IsTrue k.tells → (Rose k.faults l.faults → ⊥) → (l.written ≡ k.written ++ text_of o) × (result ≡ status_of o)
whole_text o k l result told tells calm = ⊎_elim (λ all. (all.whole tells, all.status_is)) (λ part. absurd (calm part.rose.0)) told

pub told_well : (S : ℕ → List ℕ → Type 0) (Q : Done → Type 0) (o : Result Done Stop) (k l : SinkView) (result : ℕ) → (l.written ≡ k.written ++ text_of o) × (result ≡ status_of o) → ((d : Done) → Q d → S (done_status d) (done_text d)) → IsCarriedOut Q o
    → (result ≡ 12) ⊎ ((text : List ℕ) × (l.written ≡ k.written ++ text) × S result text)
told_well S Q (Ok d) k l result whole says carried = inr (done_text d, whole.0, subst (λ (n : ℕ). S n (done_text d)) (sym whole.1) (says d (of_done carried)))
  where
    of_done : IsCarriedOut Q (Ok d) → Q d
    of_done came = ⊎_elim (λ none. absurd (cc none)) (λ out. let same : out.0 ≡ d = cc out.1 in subst Q same out.2) came
told_well S Q (Err NoMemory) k l result whole says carried = inl whole.1
told_well S Q (Err (Because c)) k l result whole says carried = ⊎_elim (λ none. absurd (cc none)) (λ out. absurd (cc out.1)) carried

pub counts_said : (tree : Resolved) (d : Done) → Counted tree d → (done_status d ≡ 0) × (c : Counts) × IsCounted tree c × (done_text d ≡ counts_line c)
unfolding Counted
counts_said tree (done.Accepted c) is = (refl, c, is, refl)
counts_said tree (done.Finished r) is = absurd is
counts_said tree (done.Printed t) is = absurd is
counts_said tree (done.Told t) is = absurd is
counts_said tree (done.Noted t) is = absurd is

pub text_said : (IsText : List ℕ → Type 0) (d : Done) → Printed IsText d → (done_status d ≡ 0) × IsText (done_text d)
unfolding Printed
text_said IsText (done.Printed t) is = (refl, is)
text_said IsText (done.Accepted c) is = absurd is
text_said IsText (done.Finished r) is = absurd is
text_said IsText (done.Told t) is = absurd is
text_said IsText (done.Noted t) is = absurd is

pub run_said : (tree : Resolved) (input : List ℕ) (until : ℕ) (d : Done) → Evaluated tree input until d → let m = meaning tree input until in (done_status d ≡ ending_status m.ending) × (done_text d ≡ run_text (run.output m.events) m.ending m.ticks)
unfolding Evaluated
run_said tree input until (done.Finished r) is =
    let m = meaning tree input until in
    (ap ending_status is.same_ending, ap (λ (out : List ℕ). run_text out r.ending r.ticks) is.same_output ∙ ap (λ (e : Ending). run_text (run.output m.events) e r.ticks) is.same_ending ∙ ap (λ (n : ℕ). run_text (run.output m.events) m.ending n) is.same_ticks)
run_said tree input until (done.Accepted c) is = absurd is
run_said tree input until (done.Printed t) is = absurd is
run_said tree input until (done.Told t) is = absurd is
run_said tree input until (done.Noted t) is = absurd is

explained_said : (p : Resolved) (n c : ℕ) (k l : SinkView) (result : ℕ) (o : Result Done Stop) → (l.written ≡ k.written ++ text_of o) × (result ≡ status_of o) → Comes (Explained p n c) o → (result ≡ 12) ⊎ ((text : List ℕ) × (l.written ≡ k.written ++ text) × SaysWhy p n c result text)
explained_said p n c k l result (Ok d) whole came =
    let said = text_said (IsReasonText p n c) d came.2 in
    inr (done_text d, whole.0, inl (came.1, whole.1 ∙ said.0, said.1))
explained_said p n c k l result (Err NoMemory) whole came = inl whole.1
explained_said p n c k l result (Err (Because e)) whole came = ⊎_elim (λ lacks. inr (text_of (Err (Because e)), whole.0, inr (e, lacks, whole.1, refl))) (λ both. absurd both.2) came

-- a source was read
explained_source : (source : List ℕ) (n c : ℕ) (v w : ShelfView) (tree : Resolved) (o : Result Done Stop) → IsTrue v.tells → (Rose v.faults w.faults → ⊥) → HasProgram source v tree → Comes (row.Why source n c (sight v) (sight w)) o → Comes (Explained tree n c) o
explained_source source n c v w tree (Ok d) tells calm has came = subst (λ t. Explained t n c (Ok d)) (source_found source v came.0 tree tells has came.1) came.2
explained_source source n c v w tree (Err NoMemory) tells calm has came = tt
explained_source source n c v w tree (Err (Because e)) tells calm has came =
    ⊎_elim (λ fails. absurd (source_not_failing source v w e tree tells calm has fails)) (λ found. subst (λ t. Explained t n c (Err e)) (source_found source v found.0 tree tells has found.1) found.2) came

-- ---- the clause

no_command : (k l : SinkView) (result : ℕ) (o : Result Done Stop) → Comes NoCommand o → (l.written ≡ k.written ++ text_of o) × (result ≡ status_of o) → (result ≡ 12) ⊎ ((text : List ℕ) × (l.written ≡ k.written ++ text) × ((result ≡ 1) × (text ≡ usage_line)))
no_command k l result (Ok d) came whole = absurd came
no_command k l result (Err NoMemory) came whole = inl whole.1
no_command k l result (Err (Because c)) came whole = inr (text_of (Err (Because c)), whole.0, (subst (λ (x : Cause). (result ≡ status_of (Err (Because x)))) came whole.1, ap (λ (x : Cause). text_of (Err (Because x))) came))

pub complete : Accepts → (words : List (List ℕ)) (command : Option Command) (v w : ShelfView) (disk disk_new : View) (k l : SinkView) (result : ℕ) (o : Result Done Stop) → (IsTrue disk.tells → disk.may_leave disk.seen) → Comes (CarriesSome words command (sight v) (sight w) (plate disk) (plate disk_new)) o → Tells o k l result
    → Complete words command v w disk disk_new k l result
complete law words None v w disk disk_new k l result o stays came told = λ job ready well. no_command k l result o came (whole_text o k l result told well.console_tells well.console_count)
complete law words (Some (Check source)) v w disk disk_new k l result o stays came told = λ job ready well.
    told_well (Says (Some (Check source)) job disk) (Counted job.tree) o k l result (whole_text o k l result told well.console_tells well.console_count) (counts_said job.tree)
    (with_source Counted (word_at words source) v w job.tree o well.shelf_tells well.shelf_count ready came)
complete law words (Some (Compile source)) v w disk disk_new k l result o stays came told = λ job ready well.
    told_well (Says (Some (Compile source)) job disk) (Printed (IsListing job.tree)) o k l result (whole_text o k l result told well.console_tells well.console_count) (text_said (IsListing job.tree))
    (with_source (λ t. Printed (IsListing t)) (word_at words source) v w job.tree o well.shelf_tells well.shelf_count ready came)
complete law words (Some (Report source)) v w disk disk_new k l result o stays came told = λ job ready well.
    told_well (Says (Some (Report source)) job disk) (Printed (IsReport job.tree)) o k l result (whole_text o k l result told well.console_tells well.console_count) (text_said (IsReport job.tree))
    (with_source (λ t. Printed (IsReport t)) (word_at words source) v w job.tree o well.shelf_tells well.shelf_count ready came)
complete law words (Some (Plain source input until)) v w disk disk_new k l result o stays came told = λ job ready well.
    told_well (Says (Some (Plain source input until)) job disk) (Evaluated job.tree job.input until) o k l result (whole_text o k l result told well.console_tells well.console_count) (run_said job.tree job.input until)
    (with_both (λ t b. Evaluated t b until) (word_at words source) (word_at words input) v w job o well.shelf_tells well.shelf_count ready.0 ready.1 came)
complete law words (Some (Run source input dir settings)) v w disk disk_new k l result o stays came told = λ job ready well.
    begun_said disk settings k l result o (whole_text o k l result told well.console_tells well.console_count)
    (with_life law (word_at words source) (word_at words input) (to_begin settings) v w disk disk_new o well.shelf_tells well.shelf_count stays ready came)
complete law words (Some (Restart source input dir settings fill)) v w disk disk_new k l result o stays came told = λ job ready well.
    gone_on_said disk settings fill k l result o ready.1 (whole_text o k l result told well.console_tells well.console_count)
    (with_life law (word_at words source) (word_at words input) (to_go_on settings fill) v w disk disk_new o well.shelf_tells well.shelf_count stays ready.0 came)
complete law words (Some (Images dir)) v w disk disk_new k l result o stays came told = λ job ready well.
    told_well (Says (Some (Images dir)) job disk) (TellsChain job.chain) o k l result (whole_text o k l result told well.console_tells well.console_count) (λ d is. is)
    (with_store disk disk_new job.chain o ready came)
complete law words (Some (Coalesce dir)) v w disk disk_new k l result o stays came told = λ job ready well.
    told_well (Says (Some (Coalesce dir)) job disk) (TellsOf disk.seen) o k l result (whole_text o k l result told well.console_tells well.console_count) (joining_said disk.seen)
    (with_joining disk disk_new job.chain o ready came)
complete law words (Some (Clear dir)) v w disk disk_new k l result o stays came told = λ job ready well.
    told_well (Says (Some (Clear dir)) job disk) TellsCleared o k l result (whole_text o k l result told well.console_tells well.console_count) clearing_said
    (with_clearing (plate disk) (plate disk_new) o ready came)
complete law words (Some (Why source exclude cell)) v w disk disk_new k l result o stays came told = λ job ready well.
    explained_said job.tree exclude cell k l result o (whole_text o k l result told well.console_tells well.console_count)
    (explained_source (word_at words source) exclude cell v w job.tree o well.shelf_tells well.shelf_count ready came)
complete law words (Some (Drill source input settings fill stops)) v w disk disk_new k l result o stays came told = λ job ready well.
    let of = drill_ready (word_at words source) (word_at words input) (to_drill settings fill) stops v w job.tree job.input o well.shelf_tells well.shelf_count ready.0 ready.1 came in
    drill_said [] (to_drill settings fill) stops job.tree of.0 job.input o k l result of.1 (whole_text o k l result told well.console_tells well.console_count)
complete law words (Some (Generate n)) v w disk disk_new k l result o stays came told = λ job ready well.
    drill_said (generated_line n) (to_drill default_settings 0) (stops_of n) job.tree (generated n) [] o k l result (generate_ready n job.tree o ready came) (whole_text o k l result told well.console_tells well.console_count)
