-- The status and the text of what a command has come to.
use Rattle.std.specs.Prelude.{ℕ, List, [], ◌++◌, Option, Some, None, unwrap_or, Result, Ok, Err, codes}
use Rattle.std.specs.Fmt.{decimal}
use Rattle.disk_model.specs.declared.disk_file.DiskFile.{DiskFile}
use Rattle.disk_model.specs.Store.{number_of}
use Rattle.hex.specs.Hex.{encode_lower}
use Rattle.life_lines.specs.Lines.{ending_line}
use Rattle.ckpt_base.specs.declared.ending.Ending.{Ending}
use Rattle.ckpt_base.specs.declared.ending.Ending.TheVariants.{Ended, Trapped, Going}
use Rattle.ckpt_program.specs.declared.refusal.Refusal.{Refusal}
use Rattle.ckpt_program.specs.declared.refusal.Refusal.TheVariants as refusal
use Rattle.ckpt_program.specs.declared.done.Counts.{Counts}
use Rattle.ckpt_program.specs.declared.done.Done.{Done}
use Rattle.ckpt_program.specs.declared.done.Done.TheVariants as done
use Rattle.ckpt_program.specs.declared.stop.Document.TheVariants as document
use Rattle.ckpt_program.specs.declared.stop.Cause.{Cause}
use Rattle.ckpt_program.specs.declared.stop.Cause.TheVariants as cause
use Rattle.ckpt_program.specs.declared.stop.Stop.{Stop}
use Rattle.ckpt_program.specs.declared.stop.Stop.TheVariants as stop

-- ---- what a command has done

-- the output of a run, a newline, and its ending
abbrev pub run_text : (output : List ℕ) → Ending → ℕ → List ℕ
run_text output ending n = output ++ codes "\n" ++ ending_line ending n

-- how much an accepted program has
abbrev pub counts_line : Counts → List ℕ
counts_line c = codes "accepted cells " ++ (decimal c.cells ++ (codes " nodes " ++ (decimal c.nodes ++ (codes " excludes " ++ (decimal c.excludes ++ codes "\n")))))

abbrev pub done_text : Done → List ℕ
done_text (done.Accepted c) = counts_line c
done_text (done.Finished r) = run_text r.output.list r.ending r.ticks
done_text (done.Printed t) = t
done_text (done.Told t) = t.text.list
done_text (done.Noted t) = t.list

-- 0 where a run ended, 3 where it trapped, 4 where it stopped at its bound
abbrev pub ending_status : Ending → ℕ
ending_status (Ended v) = 0
ending_status (Trapped t) = 3
ending_status Going = 4

abbrev pub done_status : Done → ℕ
done_status (done.Accepted c) = 0
done_status (done.Finished r) = ending_status r.ending
done_status (done.Printed t) = 0
done_status (done.Told t) = ending_status t.ending
done_status (done.Noted t) = 0

-- ---- why it stopped

abbrev pub refusal_text : Refusal → List ℕ
refusal_text (refusal.BadByte place) = codes "bad byte at " ++ decimal place
refusal_text (refusal.BadNumber place) = codes "bad number at " ++ decimal place
refusal_text refusal.UnendedComment = codes "unended comment"
refusal_text (refusal.Syntax line) = codes "syntax in line " ++ decimal line
refusal_text (refusal.Unknown name) = codes "unknown name " ++ name
refusal_text (refusal.Twice name) = codes "name " ++ (name ++ codes " twice")
refusal_text refusal.NoMain = codes "no main"
refusal_text (refusal.WrongType line) = codes "wrong type in line " ++ decimal line
refusal_text (refusal.WrongCount line) = codes "wrong count in line " ++ decimal line
refusal_text (refusal.DirectiveOutsideMain line) = codes "directive outside main in line " ++ decimal line
refusal_text (refusal.CallsMain line) = codes "call of main in line " ++ decimal line
refusal_text (refusal.TooManyCells n) = decimal n ++ codes " cells"
refusal_text (refusal.TooManyLocals name) = codes "too many locals in " ++ name
refusal_text (refusal.TooManyNodes n) = decimal n ++ codes " nodes"
refusal_text (refusal.TooManyDirectives n) = decimal n ++ codes " excludes"

abbrev pub refused_line : Refusal → List ℕ
refused_line r = codes "refused: " ++ refusal_text r ++ codes "\n"

abbrev pub damaged_line : DiskFile → ℕ → List ℕ
damaged_line file place = codes "damaged file " ++ (decimal (number_of file) ++ (codes " at " ++ (decimal place ++ codes "\n")))

abbrev pub occupied_line : (image step : ℕ) → List ℕ
occupied_line image step = codes "occupied: image " ++ (decimal image ++ (codes " step " ++ (decimal step ++ codes "\n")))

abbrev pub usage_line : List ℕ
usage_line = codes "usage: ckpt plain|check|compile|report|run|restart|images|coalesce|clear|drill|generate|why\n"

-- digests that differ: the one that the newest image has, and the one that was given
abbrev pub other_line : (what : List ℕ) (kept given : List ℕ) → List ℕ
other_line what kept given = codes "other " ++ (what ++ (codes " kept " ++ (encode_lower kept ++ (codes " given " ++ (encode_lower given ++ codes "\n")))))

abbrev pub behind_line : (bound step : ℕ) → List ℕ
behind_line bound step = codes "bound " ++ (decimal bound ++ (codes " below step " ++ (decimal step ++ codes "\n")))

abbrev pub no_exclude_line : ℕ → List ℕ
no_exclude_line k = codes "no exclude " ++ (decimal k ++ codes "\n")

abbrev pub no_cell_line : ℕ → List ℕ
no_cell_line c = codes "no cell " ++ (decimal c ++ codes "\n")

-- the line of a cause that is always the same
abbrev pub fixed_line : Cause → Option (List ℕ)
fixed_line cause.Usage = Some usage_line
fixed_line cause.DiskFault = Some (codes "disk fault\n")
fixed_line cause.ShelfFault = Some (codes "shelf fault\n")
fixed_line (cause.TooLarge document.Source) = Some (codes "too large: source\n")
fixed_line (cause.TooLarge document.Input) = Some (codes "too large: input\n")
fixed_line (cause.TooLarge document.Output) = Some (codes "too large: output\n")
fixed_line c = None

-- the line of one that says more
abbrev pub made_line : Cause → List ℕ
made_line (cause.Refused r) = refused_line r
made_line (cause.Damaged file place) = damaged_line file place
made_line (cause.Occupied image step) = occupied_line image step
made_line (cause.OtherSource kept given) = other_line (codes "source") kept given
made_line (cause.OtherInput kept given) = other_line (codes "input") kept given
made_line (cause.Behind bound step) = behind_line bound step
made_line (cause.NotAnExclude k) = no_exclude_line k
made_line (cause.NotACell c) = no_cell_line c
made_line c = []

abbrev pub cause_text : Cause → List ℕ
cause_text c = unwrap_or (fixed_line c) (made_line c)

abbrev pub cause_status : Cause → ℕ
cause_status cause.Usage = 1
cause_status (cause.Refused r) = 2
cause_status cause.DiskFault = 5
cause_status cause.ShelfFault = 6
cause_status (cause.Damaged file place) = 8
cause_status (cause.OtherSource kept given) = 9
cause_status (cause.OtherInput kept given) = 9
cause_status (cause.Occupied image step) = 10
cause_status (cause.TooLarge d) = 11
cause_status (cause.Behind bound step) = 13
cause_status (cause.NotAnExclude k) = 14
cause_status (cause.NotACell c) = 14

-- ---- what a command has come to

abbrev pub text_of : Result Done Stop → List ℕ
text_of (Ok d) = done_text d
text_of (Err stop.NoMemory) = codes "no memory\n"
text_of (Err (stop.Because c)) = cause_text c

abbrev pub status_of : Result Done Stop → ℕ
status_of (Ok d) = done_status d
status_of (Err stop.NoMemory) = 12
status_of (Err (stop.Because c)) = cause_status c

-- the status where the console did not take the whole text: 7 where the command was carried out, and else as it is
abbrev pub broken_status : Result Done Stop → ℕ
broken_status (Ok d) = 7
broken_status (Err e) = status_of (Err e)
