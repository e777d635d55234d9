-- A record that is written one disk call at a time.
use Rattle.std.proofs.Common.{◌≡◌, ◌≢◌, ◌<◌, ◌≤◌, ◌+◌, ◌-◌, ◌*◌, nat_lt, true, false, refl, sym, ◌∙◌, ap, subst, inl, inr, Bool, cond, ℕ, List, length, IsTrue, Option, Result, Ok, arith}
use Rattle.std.proofs.lemmas.Bool.{cases_lt}
use Rattle.std.proofs.lemmas.Grind.{div_ceil_times}
use Rattle.std.specs.Option.{option_or}
use Rattle.ckpt_base.specs.declared.errors.Failed.{Failed}
use Rattle.disk_model.specs.declared.disk_file.DiskFile.TheVariants.{Output, One, Two}
use Rattle.disk_model.specs.Store.{Store}
use Rattle.disk_model.specs.View.{View, IsDisk, SameFile}
use Rattle.disk_model.specs.Moments.{Among, LeavesOnly}
use Rattle.disk_model.proofs.Calls.{still, joined}
use Rattle.image_format.specs.Image.{Image, word_in_runs}
use Rattle.image_chain.specs.declared.chain.Current.{Current}
use Rattle.image_chain.specs.declared.chain.Step.{Step}
use Rattle.image_chain.specs.declared.chain.Step.TheVariants.{Piece, SyncRecord, OpenGate, SyncGate, Done}
use Rattle.image_chain.specs.ChainView.{ChainView}
use Rattle.image_chain.specs.Records.{broken_field}
use Rattle.image_chain.specs.Append.{IsDue, IsInside, SameCurrent, Spells, TakesOver, IfLast, next_of, due_after, writer_calls}
use Rattle.image_chain.specs.Lists.{IsAppended, IsLeftIn, Makes, Promise, ReadsAfter}
use Rattle.image_chain.specs.Memory.{Joined, kept_word}
use Rattle.image_chain.proofs.BesideLaws.{due_beside}
use Rattle.image_chain.proofs.KeptLaws.{memory_push}
use Rattle.image_chain.proofs.LoopWords.{IsInsideOrDone}
use Rattle.image_chain.proofs.LoopLaws.{rest_due, lt-yes, lt-no, inside_next, inside_due, same_next, due_is, due_leaves, piece_no_gate}
use Rattle.image_chain.proofs.StepLaws.{current_twice}
use Rattle.coalesce.specs.Join.{IsContent}
use Rattle.output_file.specs.Pushed.{Pushed}
use Rattle.output_file.specs.OnDisk.{IsOutputOn}
use Rattle.life_journal.specs.declared.journal.JournalState.TheVariants.{Appending}
use Rattle.life_journal.specs.JournalView.{JournalView}
use Rattle.life_journal.specs.Holding.{HoldsJournal}
use Rattle.life_journal.specs.Recorded.{HasOneMore, TakesRecord}
use Rattle.life_journal.specs.Writing.{IsUnderWay, KeepsJournal, GoesOn, calls_before, state_at}
use Rattle.life_journal.proofs.BesideLaws.{output_beside}

-- ---- beside calls on the output

pub keeps_beside : (j k : JournalView) (u v : View) (rs : List Image) (r : Image) (w more : List ℕ) → k.chain ≡ j.chain → k.kept ≡ j.kept → k.prepared ≡ j.prepared → SameFile One u v × SameFile Two u v → IsOutputOn k.output v more
    → KeepsJournal j u rs r w → KeepsJournal k v rs r more
keeps_beside j k u v rs r w more chain kept prepared same on h = record {
  spells = subst (Spells r) (sym prepared) h.spells;
  due = subst (λ (x : ChainView). IsDue x.current v rs k.prepared x.due) (sym chain) (subst (λ (b : List ℕ). IsDue j.chain.current v rs b j.chain.due) (sym prepared) (due_beside j.chain.current u v rs j.prepared j.chain.due same h.due));
  content = subst (λ (x : Joined). IsContent x rs) (sym kept) h.content;
  output = on;
}

-- ---- preparing

pub prepared_keeps : (j k : JournalView) (v : View) (rs : List Image) (r : Image) (w : List ℕ) → k.chain ≡ j.chain → k.kept ≡ j.kept → k.output ≡ j.output → Spells r k.prepared → HoldsJournal j v rs w → KeepsJournal k v rs r w
prepared_keeps j k v rs r w chain kept output spells h = record {
  spells = spells;
  due = subst (λ (x : ChainView). IsDue x.current v rs k.prepared x.due) (sym chain) (subst (λ (s : Step). IsDue j.chain.current v rs k.prepared s) (sym h.rests.0) (rest_due j.chain.current v rs k.prepared h.rests.1.0 h.rests.1.1));
  content = subst (λ (x : Joined). IsContent x rs) (sym kept) h.content;
  output = subst (λ (o : Pushed). IsOutputOn o v w) (sym output) h.output;
}

-- ---- one call

promised : (j : JournalView) (after : Current) (u v : View) (at : Step) (bytes : List ℕ) (result : Result Step Failed) → at ≡ j.chain.due → bytes ≡ j.prepared → Makes j.chain.current after bytes at result u v
    → IsTrue u.tells → (rs : List Image) (r : Image) (w : List ℕ) → KeepsJournal j u rs r w → Promise j.chain.current after r j.prepared j.chain.due result u v rs
promised j after u v at bytes result due is makes tells rs r w h =
    subst (λ (s : Step). Makes j.chain.current after j.prepared s result u v) due (subst (λ (b : List ℕ). Makes j.chain.current after b at result u v) is makes) tells rs r h.spells h.due

pub call_moments : (j : JournalView) (after : Current) (u v : View) (at : Step) (bytes : List ℕ) (result : Result Step Failed) → at ≡ j.chain.due → bytes ≡ j.prepared → Makes j.chain.current after bytes at result u v
    → IsTrue u.tells → (rs : List Image) (r : Image) (w : List ℕ) → KeepsJournal j u rs r w → LeavesOnly u v (Among u.may_leave (IsLeftIn j.chain.due j.chain.current rs r))
call_moments j after u v at bytes result due is makes tells rs r w h = (promised j after u v at bytes result due is makes tells rs r w h).moments

pub call_reads : (j : JournalView) (after : Current) (u v : View) (at next : Step) (bytes : List ℕ) → at ≡ j.chain.due → bytes ≡ j.prepared → Makes j.chain.current after bytes at (Ok next) u v
    → IsTrue u.tells → (rs : List Image) (r : Image) (w : List ℕ) → KeepsJournal j u rs r w → ReadsAfter j.chain.due j.chain.current rs r v.seen
call_reads j after u v at next bytes due is makes tells rs r w h = (promised j after u v at bytes (Ok next) due is makes tells rs r w h).reads

pub call_ends : (j k : JournalView) (u v : View) (at next : Step) (bytes : List ℕ) → next ≡ Done → at ≡ j.chain.due → bytes ≡ j.prepared → Makes j.chain.current k.chain.current bytes at (Ok next) u v → k.chain.due ≡ due_after next → k.output ≡ j.output
    → ((r : Image) → Spells r j.prepared → (c : ℕ) → kept_word k.kept c ≡ option_or (word_in_runs r.runs c) (kept_word j.kept c))
    → IsTrue u.tells → (rs : List Image) (r : Image) (w : List ℕ) → KeepsJournal j u rs r w → GoesOn next k v rs r w
call_ends j k u v at next bytes last due is makes rest output words tells rs r w h =
    let ended = subst (λ (s : Step). Makes j.chain.current k.chain.current bytes at (Ok s) u v) last makes in
    let p = promised j k.chain.current u v at bytes (Ok Done) due is ended tells rs r w h in
    subst (λ (s : Step). GoesOn s k v rs r w) (sym last)
    (record {
      rests = (rest ∙ ap due_after last, p.due);
      content = λ c. words r h.spells c ∙ ap (λ (o : Option ℕ). option_or (word_in_runs r.runs c) o) (h.content c) ∙ sym (memory_push rs r c);
      output = subst (λ (o : Pushed). IsOutputOn o v w) (sym output) (output_beside j.output u v w p.output h.output);
    })

keeps_at : (j k : JournalView) (u v : View) (next : Step) (rs : List Image) (r : Image) (w : List ℕ) → k.chain.due ≡ next → k.kept ≡ j.kept → k.output ≡ j.output → k.prepared ≡ j.prepared → SameFile Output u v → IsDue k.chain.current v rs j.prepared next
    → KeepsJournal j u rs r w → KeepsJournal k v rs r w
keeps_at j k u v next rs r w due kept output prepared same is h = record {
  spells = subst (Spells r) (sym prepared) h.spells;
  due = subst (λ (s : Step). IsDue k.chain.current v rs k.prepared s) (sym due) (subst (λ (b : List ℕ). IsDue k.chain.current v rs b next) (sym prepared) is);
  content = subst (λ (x : Joined). IsContent x rs) (sym kept) h.content;
  output = subst (λ (o : Pushed). IsOutputOn o v w) (sym output) (output_beside j.output u v w same h.output);
}

pub call_goes_on : (next : Step) (j k : JournalView) (u v : View) (at : Step) (bytes : List ℕ) → next ≢ Done → at ≡ j.chain.due → bytes ≡ j.prepared → Makes j.chain.current k.chain.current bytes at (Ok next) u v → k.chain.due ≡ due_after next
    → k.output ≡ j.output → k.prepared ≡ j.prepared → k.kept ≡ j.kept → IsTrue u.tells → (rs : List Image) (r : Image) (w : List ℕ) → KeepsJournal j u rs r w → GoesOn next k v rs r w
call_goes_on (Piece i) j k u v at bytes more due is makes then output prepared kept tells rs r w h =
    let p = promised j k.chain.current u v at bytes (Ok (Piece i)) due is makes tells rs r w h in keeps_at j k u v (Piece i) rs r w then kept output prepared p.output p.due h
call_goes_on SyncRecord j k u v at bytes more due is makes then output prepared kept tells rs r w h =
    let p = promised j k.chain.current u v at bytes (Ok SyncRecord) due is makes tells rs r w h in keeps_at j k u v SyncRecord rs r w then kept output prepared p.output p.due h
call_goes_on OpenGate j k u v at bytes more due is makes then output prepared kept tells rs r w h =
    let p = promised j k.chain.current u v at bytes (Ok OpenGate) due is makes tells rs r w h in keeps_at j k u v OpenGate rs r w then kept output prepared p.output p.due h
call_goes_on SyncGate j k u v at bytes more due is makes then output prepared kept tells rs r w h =
    let p = promised j k.chain.current u v at bytes (Ok SyncGate) due is makes tells rs r w h in keeps_at j k u v SyncGate rs r w then kept output prepared p.output p.due h
call_goes_on Done j k u v at bytes more due is makes then output prepared kept tells rs r w h = absurd (more refl)

-- ---- the steps, and the record behind the last one

pub state_more : (next : Step) → next ≢ Done → Appending ≡ state_at next
state_more (Piece i) more = refl
state_more SyncRecord more = refl
state_more OpenGate more = refl
state_more SyncGate more = refl
state_more Done more = absurd (more refl)

pub counted_next : (at : Step) (n : ℕ) → IsInside at n → calls_before (next_of at n) n ≡ calls_before at n + 1
counted_next (Piece i) n inside = elim (cases_lt (4096 * (i + 1)) n) [
  | inl more ↦ subst (λ (b : Bool). calls_before (cond b (Piece (i + 1)) SyncRecord) n ≡ i + 1) (sym (lt-yes (4096 * (i + 1)) n more)) refl
  | inr last ↦ let all = div_ceil_times n 4096 (omega arith) in subst (λ (b : Bool). calls_before (cond b (Piece (i + 1)) SyncRecord) n ≡ i + 1) (sym (lt-no (4096 * (i + 1)) n last)) (omega (arith, all.0, all.1, last, inside))
]
counted_next SyncRecord n inside = refl
counted_next OpenGate n inside = omega arith
counted_next SyncGate n inside = omega arith
counted_next Done n inside = absurd inside

pub not_taken : (at : Step) (n : ℕ) (P : Type 0) → IsInside at n → next_of at n ≢ Done → IfLast at P
not_taken (Piece i) n P inside more = tt
not_taken SyncRecord n P inside more = tt
not_taken OpenGate n P inside more = tt
not_taken SyncGate n P inside more = absurd (more refl)
not_taken Done n P inside more = tt

pub record_taken : (at : Step) (old new : JournalView) (image : List ℕ) → image ≡ old.prepared → IfLast at (TakesOver old.chain.current new.chain.current image) → IfLast at (TakesRecord old new)
record_taken (Piece i) old new image is took = tt
record_taken SyncRecord old new image is took = tt
record_taken OpenGate old new image is took = tt
record_taken SyncGate old new image is took = λ r spells. record { file = took.file; header = took.header; count = took.count; newest_is = took.newest r (subst (Spells r) (sym is) spells) }
record_taken Done old new image is took = tt

-- a record that is under way is so after a call that was not the last
pub under_way_next : (chain after : ChainView) (bytes : List ℕ) (next : Step) → next ≢ Done → next ≡ next_of chain.due (length bytes) → after.due ≡ due_after next → SameCurrent chain.due chain.current after.current → IsUnderWay chain bytes → IsUnderWay after bytes
under_way_next chain after bytes next more is due same h =
    let n = length bytes in
    let stays = same_next chain.due n chain.current chain.current after.current h.inside refl same (λ e. more (is ∙ e)) in
    let at : after.due ≡ next = due ∙ due_is next more in
    record {
      image = h.image;
      spells = h.spells;
      room = subst (λ (x : Current). x.count < x.max) (sym stays) h.room;
      follows = ap (λ (x : Current). broken_field x.newest h.image.fields) stays ∙ h.follows;
      inside = subst (λ (s : Step). IsInside s n) (sym at) (inside_due next n more (subst (λ (s : Step). IsInsideOrDone s n) (sym is) (inside_next chain.due n h.inside)));
    }

-- ---- all calls of a record, one after another

pub within_next : (at : Step) (n : ℕ) → IsInside at n → calls_before (next_of at n) n ≤ writer_calls n
within_next (Piece i) n inside = elim (cases_lt (4096 * (i + 1)) n) [
  | inl more ↦ let all = div_ceil_times n 4096 (omega arith) in subst (λ (b : Bool). calls_before (cond b (Piece (i + 1)) SyncRecord) n ≤ writer_calls n) (sym (lt-yes (4096 * (i + 1)) n more)) (omega (arith, all.0, all.1, more, inside))
  | inr last ↦ subst (λ (b : Bool). calls_before (cond b (Piece (i + 1)) SyncRecord) n ≤ writer_calls n) (sym (lt-no (4096 * (i + 1)) n last)) (omega arith)
]
within_next SyncRecord n inside = omega arith
within_next OpenGate n inside = omega arith
within_next SyncGate n inside = omega arith
within_next Done n inside = absurd inside

-- the calls that are left, as a number that falls
abbrev pub calls_left : JournalView → ℕ
calls_left j = writer_calls (length j.prepared) - calls_before j.chain.due (length j.prepared)

pub fewer_left : (j k : JournalView) (next : Step) → next ≢ Done → k.prepared ≡ j.prepared → k.chain.due ≡ due_after next
    → calls_before next (length j.prepared) ≡ calls_before j.chain.due (length j.prepared) + 1 → calls_before next (length j.prepared) ≤ writer_calls (length j.prepared) → calls_left k < calls_left j
fewer_left j k next more prepared due counted within =
    subst (λ (b : List ℕ). writer_calls (length b) - calls_before k.chain.due (length b) < calls_left j) (sym prepared)
    (subst (λ (s : Step). writer_calls (length j.prepared) - calls_before s (length j.prepared) < calls_left j) (sym (due ∙ due_is next more)) (omega (arith, counted, within)))

pub goes_on_keeps : (next : Step) (j : JournalView) (v : View) (rs : List Image) (r : Image) (w : List ℕ) → next ≢ Done → GoesOn next j v rs r w → KeepsJournal j v rs r w
goes_on_keeps (Piece i) j v rs r w more h = h
goes_on_keeps SyncRecord j v rs r w more h = h
goes_on_keeps OpenGate j v rs r w more h = h
goes_on_keeps SyncGate j v rs r w more h = h
goes_on_keeps Done j v rs r w more h = absurd (more refl)

pub due_not_done : (next : Step) → due_after next ≢ Done
due_not_done (Piece i) e = cc
due_not_done SyncRecord e = cc
due_not_done OpenGate e = cc
due_not_done SyncGate e = cc
due_not_done Done e = cc

chosen_not : (b : Bool) (i : ℕ) → cond b (Piece i) SyncRecord ≢ Done
chosen_not true i e = cc
chosen_not false i e = cc

pub more_same : (at : Step) (n : ℕ) (start chain after : Current) → chain ≡ start → SameCurrent at chain after → next_of at n ≢ Done → after ≡ start
more_same (Piece i) n start chain after was is more = is ∙ was
more_same SyncRecord n start chain after was is more = is ∙ was
more_same OpenGate n start chain after was is more = is ∙ was
more_same SyncGate n start chain after was is more = absurd (more refl)
more_same Done n start chain after was is more = is ∙ was

pub last_taken : (at : Step) (n : ℕ) (P : Type 0) → at ≢ Done → next_of at n ≡ Done → IfLast at P → P
last_taken (Piece i) n P due last took = absurd (chosen_not (nat_lt (4096 * (i + 1)) n) (i + 1) last)
last_taken SyncRecord n P due last took = absurd (due_not_done OpenGate last)
last_taken OpenGate n P due last took = absurd (due_not_done SyncGate last)
last_taken SyncGate n P due last took = took
last_taken Done n P due last took = absurd (due refl)

-- each outcome of one call, after what the calls before left
appended_then : (at : Step) (chain : Current) (rs : List Image) (r : Image) (first d s : Store) → IsAppended chain rs r first d → IsLeftIn at chain rs r d s → IsAppended chain rs r first s
appended_then (Piece i) chain rs r first d s was is = (inl is.0, current_twice chain first d s was.1 is.1)
appended_then SyncRecord chain rs r first d s was is = (inl is.0, current_twice chain first d s was.1 is.1)
appended_then OpenGate chain rs r first d s was is = (is.0, current_twice chain first d s was.1 is.1)
appended_then SyncGate chain rs r first d s was is = (is.0, current_twice chain first d s was.1 is.1)
appended_then Done chain rs r first d s was is = (inl is.0, current_twice chain first d s was.1 is.1)

-- so many calls of a record are made, none of which was the last
pub record WrittenSoFar (j k : JournalView) (u v : View) (rs : List Image) (r : Image) (w : List ℕ) : Type 0 where
  pub keeps : KeepsJournal k v rs r w
  pub moments : LeavesOnly u v (Among u.may_leave (IsAppended j.chain.current rs r))

pub written_first : (j : JournalView) (u : View) (rs : List Image) (r : Image) (w : List ℕ) → IsTrue u.tells → IsDisk u → j.chain.due ≡ Piece 0 → KeepsJournal j u rs r w → WrittenSoFar j j u u rs r w
written_first j u rs r w tells disk begun h = record {
  keeps = h;
  moments = still u (Among u.may_leave (IsAppended j.chain.current rs r)) (λ _. disk) (λ _. tells)
      (λ _ c left. (c, left, (inl (due_leaves j.chain.current u rs j.prepared j.chain.due (λ e. piece_no_gate 0 (sym begun ∙ e)) h.due c left), record { output = refl; aside = refl })));
}

pub written_moments : (j k : JournalView) (u v x : View) (rs : List Image) (r : Image) (w : List ℕ) → IsTrue u.tells → k.chain.current ≡ j.chain.current → WrittenSoFar j k u v rs r w
    → (KeepsJournal k v rs r w → LeavesOnly v x (Among v.may_leave (IsLeftIn k.chain.due k.chain.current rs r))) → LeavesOnly u x (Among u.may_leave (IsAppended j.chain.current rs r))
written_moments j k u v x rs r w tells current so_far run =
    let more : LeavesOnly v x (Among v.may_leave (IsLeftIn k.chain.due j.chain.current rs r)) = subst (λ (y : Current). LeavesOnly v x (Among v.may_leave (IsLeftIn k.chain.due y rs r))) current (run so_far.keeps) in
    joined u v x (Among u.may_leave (IsAppended j.chain.current rs r)) (Among v.may_leave (IsLeftIn k.chain.due j.chain.current rs r)) (λ _. tells) so_far.moments more
    (λ t s from. let was = so_far.moments.now t from.0 from.1 in (was.0, was.1, appended_then k.chain.due j.chain.current rs r was.0 from.0 s was.2 from.2))

-- the record is taken over from the room in which it was prepared
pub taken_since : (j k l : JournalView) → k.chain.current ≡ j.chain.current → k.prepared ≡ j.prepared → TakesRecord k l → TakesRecord j l
taken_since j k l current prepared took = λ r spells. subst (λ (x : Current). HasOneMore x l.chain.current r.fields) current (took r (subst (Spells r) (sym prepared) spells))
