-- What a crash leaves of a disk in memory: one store, and it might have been left.
use Rattle.std.proofs.Common.{◌≡◌, ◌⊎◌, inl, inr, ⊎_elim, refl, sym, ◌∙◌, ap, ℕ, ◌<◌, ◌≤◌, nat_lt, Bool, true, false, List, [], length, replicate, get_or, arith}
use Rattle.std.proofs.lemmas.List.{same_lists, get_or-replicate, length-replicate, get_or_default, get_or_past}
use Rattle.std.proofs.lemmas.Bool.Decides.{nat_tests}
use Rattle.disk_model.specs.declared.disk_file.DiskFile.{DiskFile}
use Rattle.disk_model.specs.declared.disk_file.DiskFile.TheVariants.{Output, One, Two}
use Rattle.disk_model.specs.Store.{Store, file_of}
use Rattle.disk_model.specs.View.{View}
use Rattle.disk_model.specs.MemoryFile.{MayLeave, settled, crashed}
use Rattle.disk_model.specs.MemoryDisk.{MemoryDisk, Files, view_of, after_crash, empty_disk, started}

cases_lt : (a b : ℕ) → (a < b) ⊎ (b ≤ a)
cases_lt a b = elim (nat_lt a b) as (λ t. nat_lt a b ≡ t → (a < b) ⊎ (b ≤ a)) [ true ↦ λ is. inl (grind (arith, nat_tests)) | false ↦ λ is. inr (grind (arith, nat_tests)) ] refl

none_written : (room i : ℕ) → get_or (replicate room false) i false ≡ false
none_written room i = elim (cases_lt i room) [
  | inl less ↦ get_or-replicate room i false false less
  | inr past ↦ get_or_past (replicate room false) i false (omega (arith, length-replicate room false, past))
]

-- a file that is lasting stays as it is
settled_stays : (room : ℕ) (bytes c : List ℕ) → MayLeave (settled room bytes) c → c ≡ bytes
settled_stays room bytes c left =
    same_lists c bytes (omega (arith, left.no_shorter, left.no_longer))
    (λ i d less. get_or_default c i d 0 less ∙ left.kept i (omega (arith, less, left.no_longer)) less (none_written room i) ∙ sym (get_or_default bytes i d 0 (omega (arith, less, left.no_longer))))

same_stores : (c d : Store) → c.output ≡ d.output → c.one ≡ d.one → c.two ≡ d.two → c ≡ d
same_stores c d a b e = ap (λ (l : List ℕ). record { output = l; one = c.one; two = c.two }) a ∙ ap (λ (l : List ℕ). record { output = d.output; one = l; two = c.two }) b ∙ ap (λ (l : List ℕ). record { output = d.output; one = d.one; two = l }) e

-- after a crash another one leaves what reads give
pub crash_is_lasting : (pick : ℕ) (m : MemoryDisk) (c : Store) → (view_of (after_crash pick m)).may_leave c → c ≡ (view_of (after_crash pick m)).seen
crash_is_lasting pick m c left =
    let files : Files = started pick m.pending m.files in
    same_stores c (view_of (after_crash pick m)).seen
    (⊎_elim (λ same. same) (settled_stays (length files.output.dirty) (crashed pick files.output) c.output) (left Output))
    (⊎_elim (λ same. same) (settled_stays (length files.one.dirty) (crashed pick files.one) c.one) (left One))
    (⊎_elim (λ same. same) (settled_stays (length files.two.dirty) (crashed pick files.two) c.two) (left Two))

-- an empty disk that is new is lasting
pub empty_is_lasting : (output_room image_room log_room : ℕ) (failing : List ℕ) (c : Store) → (view_of (empty_disk output_room image_room log_room failing)).may_leave c → c ≡ (view_of (empty_disk output_room image_room log_room failing)).seen
empty_is_lasting output_room image_room log_room failing c left =
    same_stores c (record { output = []; one = []; two = [] })
    (⊎_elim (λ same. same) (settled_stays output_room [] c.output) (left Output))
    (⊎_elim (λ same. same) (settled_stays image_room [] c.one) (left One))
    (⊎_elim (λ same. same) (settled_stays image_room [] c.two) (left Two))
