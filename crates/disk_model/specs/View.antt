-- What is told of a disk, and what its calls do to that.
use Rattle.std.specs.Prelude.{◌≡◌, ◌⊎◌, ◌↔◌, ℕ, ◌-◌, ◌≤◌, min, Bool, IsTrue, List, length, take, drop, Result, MatchResult, OnOk}
use Rattle.ckpt_base.specs.Faults.{Counts}
use Rattle.disk_model.specs.declared.disk_file.DiskFile.{DiskFile}
use Rattle.disk_model.specs.Store.{Store, file_of, with_file}
use Rattle.disk_model.specs.Change.{Change, whole, Crashed, IsNoSync}

-- whether the contents are told, and whether the past is; the files as reads give them; what a crash now may leave; the time, and what a crash at some moment since a time may have left; how often the disk has failed
pub record View : Type 1 where
  pub tells : Bool
  pub tells_past : Bool
  pub seen : Store
  pub may_leave : Store → Type 0
  pub moment : ℕ
  pub left_since : ℕ → Store → Type 0
  pub faults : ℕ

-- What holds of each disk that tells: what reads give is one of the things that a crash may leave, what it leaves of one file has nothing to do with what it leaves of the others, and the past ends with now.
pub record IsDisk (v : View) : Type 0 where
  pub seen_stays : v.may_leave v.seen
  pub apart : (f : DiskFile) (c d : Store) → v.may_leave c → v.may_leave d → v.may_leave (with_file f (file_of f c) d)
  pub now : IsTrue v.tells_past → (t : ℕ) (c : Store) → t ≤ v.moment → v.may_leave c → v.left_since t c
  pub only_now : IsTrue v.tells_past → (c : Store) → v.left_since v.moment c → v.may_leave c
  pub earlier : IsTrue v.tells_past → (s t : ℕ) (c : Store) → s ≤ t → v.left_since t c → v.left_since s c

-- A call that leaves all that is told.
pub record Looks {T E : Type 0} (result : Result T E) (old new : View) : Type 0 where
  pub tells : new.tells ≡ old.tells
  pub tells_past : new.tells_past ≡ old.tells_past
  pub counts : Counts result old.faults new.faults
  pub seen : IsTrue old.tells → new.seen ≡ old.seen
  pub crash : IsTrue old.tells → (c : Store) → new.may_leave c ↔ old.may_leave c
  pub later : IsTrue old.tells_past → old.moment ≤ new.moment
  pub past : IsTrue old.tells_past → (t : ℕ) (c : Store) → t ≤ old.moment → new.left_since t c ↔ old.left_since t c

-- Each outcome of a crash is an old one after this step, and each such is one.
abbrev pub Becomes : (Store → Store → Type 0) → (Store → Type 0) → (Store → Type 0) → Type 0
Becomes step old new = (c : Store) → new c ↔ ((d : Store) × old d × step d c)

-- a step of one file alone
abbrev pub On : DiskFile → (List ℕ → List ℕ → Type 0) → Store → Store → Type 0
On file step old new = (bytes : List ℕ) × step (file_of file old) bytes × (new ≡ with_file file bytes old)

-- The call answered Ok: the change is made.
pub record IsMade (file : DiskFile) (change : Change) (old new : View) : Type 0 where
  pub seen : new.seen ≡ with_file file (whole change (file_of file old.seen)) old.seen
  pub crash : Becomes (On file (Crashed change (file_of file old.seen))) old.may_leave new.may_leave

-- It failed: the change is pending in part, or not at all. What a crash might have left stays possible; where the file was being synced, what it might have left of the other two.
pub record IsPartlyMade (file : DiskFile) (change : Change) (old new : View) : Type 0 where
  pub seen : (new.seen ≡ old.seen) ⊎ On file (Crashed change (file_of file old.seen)) old.seen new.seen
  pub crash : (c : Store) → new.may_leave c → old.may_leave c ⊎ ((d : Store) × old.may_leave d × On file (Crashed change (file_of file old.seen)) d c)
  pub kept : IsNoSync change → (c : Store) → old.may_leave c → new.may_leave c
  pub others : (c : Store) → old.may_leave c → (bytes : List ℕ) × new.may_leave (with_file file bytes c)

-- A call that changes one file. The past is what it was, and what a crash may leave now.
pub record Changes {T E : Type 0} (file : DiskFile) (change : Change) (result : Result T E) (old new : View) : Type 0 where
  pub tells : new.tells ≡ old.tells
  pub tells_past : new.tells_past ≡ old.tells_past
  pub counts : Counts result old.faults new.faults
  pub does : IsTrue old.tells → MatchResult result (λ _. IsMade file change old new) (λ _. IsPartlyMade file change old new)
  pub later : IsTrue old.tells_past → old.moment ≤ new.moment
  pub past : IsTrue old.tells_past → (t : ℕ) (c : Store) → t ≤ old.moment → new.left_since t c ↔ (old.left_since t c ⊎ new.may_leave c)

-- A sync leaves each file as it reads, and a crash no more than before, whatever it answers.
pub record OnlySyncs (old new : View) : Type 0 where
  pub seen : new.seen ≡ old.seen
  pub crash : (c : Store) → new.may_leave c → old.may_leave c

-- A file is as it was: as reads give it, and as a crash may leave it.
pub record SameFile (file : DiskFile) (old new : View) : Type 0 where
  pub seen : file_of file new.seen ≡ file_of file old.seen
  pub only : (c : Store) → new.may_leave c → (d : Store) × old.may_leave d × (file_of file c ≡ file_of file d)
  pub still : (c : Store) → old.may_leave c → (d : Store) × new.may_leave d × (file_of file d ≡ file_of file c)

-- n bytes of the file from a place on were put to the front of the buffer: as many as it holds, or as are left
pub record Takes (at : ℕ) (file old : List ℕ) (n : ℕ) (new : List ℕ) : Type 0 where
  pub count : n ≡ min (length old) (length file - at)
  pub bytes : take n new ≡ take n (drop at file)

-- A call that fails and changes nothing that is told.
pub record IsRefused {T E : Type 0} (result : Result T E) (old new : View) : Type 0 where
  pub failed : OnOk result ⊥
  pub same : Looks result old new

-- what each call keeps, whatever it answers
pub record Steady (old new : View) : Type 0 where
  pub tells : new.tells ≡ old.tells
  pub tells_past : new.tells_past ≡ old.tells_past
  pub faults : old.faults ≤ new.faults
