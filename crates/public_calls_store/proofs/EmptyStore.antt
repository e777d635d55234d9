-- A disk in memory that is empty has no chain.
use Rattle.std.proofs.Common.{◌≡◌, ◌⊎◌, inl, inr, refl, ap, subst, ℕ, List, [], ◌∷◌, None, Result, Ok, Err, IfOk, arith}
use Rattle.disk_model.specs.declared.disk_file.DiskFile.{DiskFile}
use Rattle.disk_model.specs.declared.disk_file.DiskFile.TheVariants.{One, Two}
use Rattle.disk_model.specs.Store.{Store}
use Rattle.disk_model.specs.MemoryFile.{MayLeave, settled}
use Rattle.disk_model.specs.MemoryDisk.{MemoryDisk, empty_disk, view_of}
use Rattle.image_chain.specs.Records.{header_in, chain_in}
use Rattle.image_chain.proofs.ListLaws.{current_is}

empty_file : (room : ℕ) (c : List ℕ) → (c ≡ []) ⊎ MayLeave (settled room []) c → c ≡ []
empty_file room c (inl is) = is
empty_file room [] (inr left) = refl
empty_file room (b ∷ c) (inr left) = (let a = left.no_longer in absurd (omega (arith, a)))

no_header : (f : DiskFile) (c : List ℕ) → c ≡ [] → header_in f c ≡ Ok None
unfolding header_in
no_header f c is = ap (header_in f) is

pub none_left : (output_room image_room log_room : ℕ) (failing : List ℕ) (m : MemoryDisk) → m ≡ empty_disk output_room image_room log_room failing → (c : Store) → (view_of m).may_leave c → chain_in c ≡ Ok None
none_left output_room image_room log_room failing m is c left =
    let here = subst (λ (m : MemoryDisk). (view_of m).may_leave c) is left in
    current_is c None None None (no_header One c.one (empty_file image_room c.one (here One))) (no_header Two c.two (empty_file image_room c.two (here Two))) refl

pub if_ok : {T E : Type 0} {P Q : T → Type 0} (r : Result T E) → IfOk r P → ((x : T) → P x → Q x) → IfOk r Q
if_ok (Ok x) is next = next x is
if_ok (Err e) is next = tt
