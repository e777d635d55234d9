-- An append goes on from step to step.
use Rattle.std.proofs.Common.{◌≡◌, ◌≢◌, Bool, true, false, cond, nat_lt, inl, inr, ◌⊎◌, ⊎_elim, refl, sym, ◌∙◌, ap, subst, ℕ, ◌+◌, ◌-◌, ◌*◌, ◌<◌, ◌≤◌, IsTrue, List, [], ◌∷◌, ◌++◌, length, take, Result, Ok, arith}
use Rattle.std.proofs.lemmas.Bool.{cases_lt}
use Rattle.std.proofs.lemmas.List.{length_push}
use Rattle.std.proofs.lemmas.Bool.Decides.{nat_tests}
use Rattle.ckpt_base.specs.declared.errors.Failed.{Failed}
use Rattle.disk_model.specs.Store.{Store, file_of}
use Rattle.disk_model.specs.declared.disk_file.DiskFile.TheVariants.{Output}
use Rattle.disk_model.specs.View.{View, IsDisk, OnlySyncs, SameFile}
use Rattle.disk_model.specs.Moments.{Among, LeavesOnly}
use Rattle.disk_model.proofs.Calls.{still, joined, stays_twice}
use Rattle.image_format.specs.Image.{Image}
use Rattle.image_chain.specs.declared.chain.Current.{Current}
use Rattle.image_chain.specs.declared.chain.Step.{Step}
use Rattle.image_chain.specs.declared.chain.Step.TheVariants.{Piece, SyncRecord, OpenGate, SyncGate, Done}
use Rattle.image_chain.specs.Append.{header_of, front, other, Keeps, Alone, IsAtRest, IsDue, IsDueNext, Spells, IsInside, SameCurrent, TakesOver, IfLast, next_of, due_after}
use Rattle.image_chain.specs.Lists.{Lists, IsAppended, IsLeftIn, Makes}
use Rattle.image_chain.proofs.LoopWords.{IsInsideOrDone, left_to_do, SoFar}
use Rattle.image_chain.proofs.ListLaws.{Holds, holds_of, lists_of}
use Rattle.image_chain.proofs.OutputLaws.{same_output}
use Rattle.image_chain.proofs.StepLaws.{IsBefore, front_and_gate, current_twice, kept_gate, torn_list, aside_more, reads_list, reads_more}

pub lt-yes : (a b : ℕ) → a < b → nat_lt a b ≡ true
lt-yes a b less = grind (arith, nat_tests)

pub lt-no : (a b : ℕ) → b ≤ a → nat_lt a b ≡ false
lt-no a b less = grind (arith, nat_tests)

pub stands_due : (chain : Current) (v : View) (rs : List Image) (r : Image) (image : List ℕ) (at : Step) (n : ℕ) → IsInside at n → IsDueNext chain v rs r image at → IsDue chain v rs image at
stands_due chain v rs r image (Piece i) n inside due = due
stands_due chain v rs r image SyncRecord n inside due = due
stands_due chain v rs r image OpenGate n inside due = due
stands_due chain v rs r image SyncGate n inside due = due
stands_due chain v rs r image Done n inside due = absurd inside

-- each outcome of one step, after what the steps before left
after_appended : (at : Step) (chain : Current) (rs : List Image) (r : Image) (first d s : Store) → IsAppended chain rs r first d → IsLeftIn at chain rs r d s → IsAppended chain rs r first s
after_appended (Piece i) chain rs r first d s was is = (inl is.0, current_twice chain first d s was.1 is.1)
after_appended SyncRecord chain rs r first d s was is = (inl is.0, current_twice chain first d s was.1 is.1)
after_appended OpenGate chain rs r first d s was is = (is.0, current_twice chain first d s was.1 is.1)
after_appended SyncGate chain rs r first d s was is = (is.0, current_twice chain first d s was.1 is.1)
after_appended Done chain rs r first d s was is = (inl is.0, current_twice chain first d s was.1 is.1)

pub rest_lists : (chain : Current) (v : View) (rs : List Image) (behind : List ℕ) → IsAtRest chain v rs behind → (c : Store) → v.may_leave c → Lists chain rs c
rest_lists chain v rs behind rest c left = lists_of chain rs rest.gate behind c (holds_of chain rs rest.keeps) rest.alone.image_file rest.closed (rest.left c left) (rest.alone.aside c left)

-- at rest the first piece is due
pub rest_due : (chain : Current) (v : View) (rs : List Image) (image behind : List ℕ) → IsAtRest chain v rs behind → IsDue chain v rs image (Piece 0)
rest_due chain v rs image behind rest = record {
  keeps = rest.keeps;
  alone = rest.alone;
  gate = rest.gate;
  closed = rest.closed;
  behind = behind;
  reads = rest.reads;
  left = λ c left. ap (λ (l : List ℕ). take (length (front chain rs) + 1) l) (rest.left c left) ∙ front_and_gate (front chain rs) behind rest.gate;
}

pub begun : (chain : Current) (v : View) (rs : List Image) (r : Image) (image behind : List ℕ) → IsTrue v.tells → IsDisk v → IsAtRest chain v rs behind → SoFar chain chain r image (Piece 0) v v rs
begun chain v rs r image behind tells disk rest = record {
  due = rest_due chain v rs image behind rest;
  moments = still v (Among v.may_leave (IsAppended chain rs r)) (λ _. disk) (λ _. tells) (λ _ c left. (c, left, (inl (rest_lists chain v rs behind rest c left), record { output = refl; aside = refl })));
  output = same_output v;
}

pub goes_on : (start chain after : Current) (old mid new : View) (rs : List Image) (r : Image) (image : List ℕ) (at : Step) (result : Result Step Failed) → chain ≡ start → IsTrue old.tells → Spells r image → IsInside at (length image)
    → SoFar start chain r image at old mid rs → Makes chain after image at result mid new → LeavesOnly old new (Among old.may_leave (IsAppended start rs r))
goes_on start chain after old mid new rs r image at result same tells spells inside so_far makes =
    let mid_tells = subst IsTrue (sym so_far.moments.tells) tells in
    let promise = makes mid_tells rs r spells (stands_due chain mid rs r image at (length image) inside so_far.due) in
    let moments : LeavesOnly mid new (Among mid.may_leave (IsLeftIn at start rs r)) = subst (λ (c : Current). LeavesOnly mid new (Among mid.may_leave (IsLeftIn at c rs r))) same promise.moments in
    joined old mid new (Among old.may_leave (IsAppended start rs r)) (Among mid.may_leave (IsLeftIn at start rs r)) (λ _. tells) so_far.moments moments
    (λ t s from. let was = so_far.moments.now t from.0 from.1 in (was.0, was.1, after_appended at start rs r was.0 from.0 s was.2 from.2))

pub output_goes_on : (start chain after : Current) (old mid new : View) (rs : List Image) (r : Image) (image : List ℕ) (at : Step) (result : Result Step Failed) → IsTrue old.tells → Spells r image → IsInside at (length image)
    → SoFar start chain r image at old mid rs → Makes chain after image at result mid new → SameFile Output old new
output_goes_on start chain after old mid new rs r image at result tells spells inside so_far makes =
    let mid_tells = subst IsTrue (sym so_far.moments.tells) tells in
    stays_twice Output old mid new so_far.output (makes mid_tells rs r spells (stands_due chain mid rs r image at (length image) inside so_far.due)).output

pub due_next : (chain after : Current) (mid new : View) (rs : List Image) (r : Image) (image : List ℕ) (at next : Step) → IsTrue mid.tells → Spells r image → IsInside at (length image) → IsDueNext chain mid rs r image at → Makes chain after image at (Ok next) mid new → IsDueNext after new rs r image next
due_next chain after mid new rs r image at next tells spells inside due makes = (makes tells rs r spells (stands_due chain mid rs r image at (length image) inside due)).due

pub inside_next : (at : Step) (n : ℕ) → IsInside at n → IsInsideOrDone (next_of at n) n
inside_next (Piece i) n inside = elim (cases_lt (4096 * (i + 1)) n) [
  | inl more ↦ subst (λ (b : Bool). IsInsideOrDone (cond b (Piece (i + 1)) SyncRecord) n) (sym (lt-yes (4096 * (i + 1)) n more)) more
  | inr last ↦ subst (λ (b : Bool). IsInsideOrDone (cond b (Piece (i + 1)) SyncRecord) n) (sym (lt-no (4096 * (i + 1)) n last)) tt
]
inside_next SyncRecord n inside = tt
inside_next OpenGate n inside = tt
inside_next SyncGate n inside = tt
inside_next Done n inside = tt

pub smaller : (at : Step) (n : ℕ) → IsInside at n → left_to_do (next_of at n) n < left_to_do at n
smaller (Piece i) n inside = elim (cases_lt (4096 * (i + 1)) n) [
  | inl more ↦ subst (λ (b : Bool). left_to_do (cond b (Piece (i + 1)) SyncRecord) n < 4 + (n - 4096 * i)) (sym (lt-yes (4096 * (i + 1)) n more)) (omega arith)
  | inr last ↦ subst (λ (b : Bool). left_to_do (cond b (Piece (i + 1)) SyncRecord) n < 4 + (n - 4096 * i)) (sym (lt-no (4096 * (i + 1)) n last)) (omega arith)
]
smaller SyncRecord n inside = omega arith
smaller OpenGate n inside = omega arith
smaller SyncGate n inside = omega arith
smaller Done n inside = absurd inside

-- a step that is due and is not the last
pub inside_due : (at : Step) (n : ℕ) → at ≢ Done → IsInsideOrDone at n → IsInside at n
inside_due (Piece i) n not_done inside = inside
inside_due SyncRecord n not_done inside = tt
inside_due OpenGate n not_done inside = tt
inside_due SyncGate n not_done inside = tt
inside_due Done n not_done inside = not_done refl

pub due_is : (at : Step) → at ≢ Done → due_after at ≡ at
due_is (Piece i) not_done = refl
due_is SyncRecord not_done = refl
due_is OpenGate not_done = refl
due_is SyncGate not_done = refl
due_is Done not_done = absurd (not_done refl)

-- the current file stays the same up to the last step
pub same_next : (at : Step) (n : ℕ) (start chain after : Current) → IsInside at n → chain ≡ start → SameCurrent at chain after → next_of at n ≢ Done → after ≡ start
same_next (Piece i) n start chain after inside was is more = is ∙ was
same_next SyncRecord n start chain after inside was is more = is ∙ was
same_next OpenGate n start chain after inside was is more = is ∙ was
same_next SyncGate n start chain after inside was is more = absurd (more refl)
same_next Done n start chain after inside was is more = is ∙ was

pub took_next : (at : Step) (n : ℕ) (start chain after : Current) (image : List ℕ) → IsInside at n → chain ≡ start → IfLast at (TakesOver chain after image) → next_of at n ≡ Done → TakesOver start after image
took_next (Piece i) n start chain after image inside was took last = absurd (elim (cases_lt (4096 * (i + 1)) n) [
  | inl more ↦ piece_not_done (i + 1) (sym (ap (λ (b : Bool). cond b (Piece (i + 1)) SyncRecord) (lt-yes (4096 * (i + 1)) n more)) ∙ last)
  | inr end ↦ sync_not_done (sym (ap (λ (b : Bool). cond b (Piece (i + 1)) SyncRecord) (lt-no (4096 * (i + 1)) n end)) ∙ last)
])
  where
    piece_not_done : (j : ℕ) → Piece j ≡ Done → ⊥
    piece_not_done j e = cc

    sync_not_done : SyncRecord ≡ Done → ⊥
    sync_not_done e = cc
took_next SyncRecord n start chain after image inside was took last = absurd (wrong last)
  where
    wrong : OpenGate ≡ Done → ⊥
    wrong e = cc
took_next OpenGate n start chain after image inside was took last = absurd (wrong last)
  where
    wrong : SyncGate ≡ Done → ⊥
    wrong e = cc
took_next SyncGate n start chain after image inside was took last = subst (λ (c : Current). TakesOver c after image) was took
took_next Done n start chain after image inside was took last = absurd inside

pub not_last : Piece 0 ≡ Done → ⊥
not_last e = cc

-- ---- what reads give and a crash leaves while a step is due

lists_before : (chain : Current) (v : View) (rs : List Image) (c : Store) → Keeps chain rs → Alone chain v rs → v.may_leave c → IsBefore (front chain rs) (file_of chain.file c) → Lists chain rs c
lists_before chain v rs c keeps alone left b = lists_of chain rs b.gate b.behind c (holds_of chain rs keeps) alone.image_file b.closed b.bytes_are (alone.aside c left)

lists_after : (chain : Current) (v : View) (rs : List Image) (r : Image) (c : Store) → Holds (header_of chain) (rs ++ r ∷ []) → Alone chain v rs → v.may_leave c → IsBefore (front chain (rs ++ r ∷ [])) (file_of chain.file c) → Lists chain (rs ++ r ∷ []) c
lists_after chain v rs r c holds alone left b =
    lists_of chain (rs ++ r ∷ []) b.gate b.behind c holds alone.image_file b.closed b.bytes_are
    (aside_more (other chain.file) chain.generation (length rs) (length (rs ++ r ∷ [])) (file_of (other chain.file) c) (omega (arith, length_push rs r)) (alone.aside c left))

pub due_reads : (chain : Current) (v : View) (rs : List Image) (image : List ℕ) (at : Step) → IsDisk v → (at ≡ SyncGate → ⊥) → IsDue chain v rs image at → Lists chain rs v.seen
due_reads chain v rs image (Piece i) disk not due = reads_list chain v rs due.gate (take (4096 * i) image ++ due.behind) due.keeps due.alone disk due.closed due.reads
due_reads chain v rs image SyncRecord disk not due = reads_list chain v rs due.gate (image ++ due.behind) due.keeps due.alone disk due.closed due.reads
due_reads chain v rs image OpenGate disk not due = reads_list chain v rs due.gate (image ++ due.behind) due.keeps due.alone disk due.closed due.reads
due_reads chain v rs image SyncGate disk not due = absurd (not refl)
due_reads chain v rs image Done disk not due = absurd due.reads

pub due_leaves : (chain : Current) (v : View) (rs : List Image) (image : List ℕ) (at : Step) → (at ≡ SyncGate → ⊥) → IsDue chain v rs image at → (c : Store) → v.may_leave c → Lists chain rs c
due_leaves chain v rs image (Piece i) not due c left = lists_before chain v rs c due.keeps due.alone left (kept_gate (front chain rs) (file_of chain.file c) due.gate due.closed (due.left c left))
due_leaves chain v rs image SyncRecord not due c left = lists_before chain v rs c due.keeps due.alone left (kept_gate (front chain rs) (file_of chain.file c) due.gate due.closed (due.left c left))
due_leaves chain v rs image OpenGate not due c left = lists_before chain v rs c due.keeps due.alone left (record { gate = due.gate; behind = image ++ due.behind; closed = due.closed; bytes_are = due.left c left })
due_leaves chain v rs image SyncGate not due c left = absurd (not refl)
due_leaves chain v rs image Done not due c left = absurd due.reads

pub open_reads : (chain : Current) (v : View) (rs : List Image) (r : Image) (image : List ℕ) → IsDisk v → Spells r image → Holds (header_of chain) (rs ++ r ∷ []) → IsDue chain v rs image SyncGate → Lists chain (rs ++ r ∷ []) v.seen
open_reads chain v rs r image disk spells holds due = reads_more chain v rs r image due.behind holds due.alone disk spells due.reads

pub open_leaves : (chain : Current) (v : View) (rs : List Image) (r : Image) (image : List ℕ) → Spells r image → Holds (header_of chain) (rs ++ r ∷ []) → IsDue chain v rs image SyncGate → (c : Store) → v.may_leave c → Lists chain rs c ⊎ Lists chain (rs ++ r ∷ []) c
open_leaves chain v rs r image spells holds due c left =
    let torn = due.left c left in
    ⊎_elim (λ b. inl (lists_before chain v rs c due.keeps due.alone left b)) (λ b. inr (lists_after chain v rs r c holds due.alone left b)) (torn_list chain rs r image due.behind torn.0 (file_of chain.file c) spells torn.1)

-- a sync gives what it gave before, also where it fails
pub synced_reads : (chain : Current) (old new : View) (rs : List Image) (r : Image) (image : List ℕ) → IsDisk old → OnlySyncs old new → Spells r image → Holds (header_of chain) (rs ++ r ∷ []) → IsDue chain old rs image SyncGate → Lists chain (rs ++ r ∷ []) new.seen
synced_reads chain old new rs r image disk only spells holds due = subst (λ (s : Store). Lists chain (rs ++ r ∷ []) s) (sym only.seen) (open_reads chain old rs r image disk spells holds due)

pub piece_no_gate : (i : ℕ) → Piece i ≡ SyncGate → ⊥
piece_no_gate i e = cc

pub record_no_gate : SyncRecord ≡ SyncGate → ⊥
record_no_gate e = cc

pub open_no_gate : OpenGate ≡ SyncGate → ⊥
open_no_gate e = cc

pub done_no_gate : Done ≡ SyncGate → ⊥
done_no_gate e = cc
