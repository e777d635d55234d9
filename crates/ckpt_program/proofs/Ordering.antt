-- What the commands come to that keep a store in order, and what they keep of the disk.
use Rattle.std.proofs.Common.{◌≡◌, ◌≤◌, refl, sym, ◌∙◌, ap, subst, inl, inr, ⊎_elim, ℕ, List, IsTrue, Option, Some, Result, Ok, Err, IfOk, OnOk, codes}
use Rattle.ckpt_base.specs.Faults.{Rose}
use Rattle.command_words.specs.declared.command.Command.TheVariants.{Coalesce, Clear}
use Rattle.disk_model.specs.Store.{Store}
use Rattle.disk_model.specs.declared.disk_file.DiskFile.TheVariants.{Output}
use Rattle.disk_model.specs.View.{View, Steady, SameFile}
use Rattle.disk_model.specs.Plate.{Plate, plate}
use Rattle.image_chain.specs.Records.{Found}
use Rattle.store_upkeep.specs.Coalescing.{AllCoalesced, IsCoalesced}
use Rattle.store_upkeep.specs.Refused.{IsUnjoined, LeavesUnjoined}
use Rattle.store_upkeep.specs.declared.coalesced.Coalesced.{Coalesced}
use Rattle.store_upkeep.specs.declared.coalesced.Coalesced.TheVariants.{NoChain, OneRecord, Joined}
use Rattle.store_upkeep.specs.declared.fault.JoinFault.{JoinFault}
use Rattle.store_upkeep.specs.declared.fault.JoinFault.TheVariants as joining
use Rattle.ckpt_program.specs.DiskStages.{CalmDisk, Stays}
use Rattle.ckpt_program.specs.Headline.{ToldBy}
use Rattle.ckpt_program.specs.LifeStages.{ChangesIfLived, KeepsRefused}
use Rattle.ckpt_program.specs.Rows as row
use Rattle.ckpt_program.specs.Sight.{Sight}
use Rattle.ckpt_program.specs.Stage.{Comes}
use Rattle.ckpt_program.specs.Texts.{done_status, done_text}
use Rattle.ckpt_program.specs.Top.{HasChainOf}
use Rattle.ckpt_program.specs.Upkeep.{Clears, FailsJoining, LeavesJoined, FindsRecords, FindsWhereTold, JoinedIn, JoinsAsTold, TellsCleared, TellsJoined, joined_text, stop_of_joining}
use Rattle.ckpt_program.specs.declared.done.Done.{Done}
use Rattle.ckpt_program.specs.declared.done.Done.TheVariants as done
use Rattle.ckpt_program.specs.declared.stop.Cause.{Cause}
use Rattle.ckpt_program.specs.declared.stop.Cause.TheVariants as cause
use Rattle.ckpt_program.specs.declared.stop.Stop.{Stop}
use Rattle.ckpt_program.specs.declared.stop.Stop.TheVariants.{NoMemory, Because}
use Rattle.ckpt_program.proofs.Joining.{faulted}
use Rattle.ckpt_program.proofs.Looking.{seen_told}
use Rattle.ckpt_program.proofs.ShelfReady.{IsCarriedOut}
use Rattle.ckpt_program.proofs.StoreReady.{entry_not_failing, told_seen}

-- ---- a joining that is refused

fails_joining : (v w : View) (f : JoinFault) → LeavesUnjoined f v w → (IsTrue v.tells → IsUnjoined f v.seen) → FailsJoining (plate v) (plate w) f
unfolding FailsJoining
fails_joining v w joining.Memory leaves why = λ s told. tt
fails_joining v w joining.Failed leaves why = leaves
fails_joining v w (joining.Damaged file place) leaves why = λ s told. let x = seen_told v.tells v.seen s told in subst (IsUnjoined (joining.Damaged file place)) x.1 (why x.0)

pub unjoined : (v w : View) (e : Stop) (f : JoinFault) → e ≡ stop_of_joining f → LeavesUnjoined f v w → (IsTrue v.tells → IsUnjoined f v.seen) → Comes (JoinedIn (plate v) (plate w)) (Err e)
unjoined v w e f is leaves why = faulted {A = Coalesced} stop_of_joining (FindsWhereTold (plate v)) (FailsJoining (plate v) (plate w)) e f is (λ other. fails_joining v w f leaves why)

calm_at : (v w : View) (f : JoinFault) → LeavesUnjoined f v w → v.faults ≤ w.faults → CalmDisk {A = Coalesced} (Err (stop_of_joining f)) v.faults w.faults
calm_at v w joining.Memory leaves later = leaves.faults
calm_at v w joining.Failed leaves later = later
calm_at v w (joining.Damaged file place) leaves later = leaves.faults

pub calm_unjoined : (v w : View) (e : Stop) (f : JoinFault) → e ≡ stop_of_joining f → LeavesUnjoined f v w → v.faults ≤ w.faults → CalmDisk {A = Coalesced} (Err e) v.faults w.faults
calm_unjoined v w e f is leaves later = subst (λ (x : Stop). CalmDisk {A = Coalesced} (Err x) v.faults w.faults) (sym is) (calm_at v w f leaves later)

changes_at : (v w : View) (f : JoinFault) → LeavesUnjoined f v w → Steady v w → ChangesIfLived {A = Coalesced} (Err (stop_of_joining f)) v w
changes_at v w joining.Memory leaves steady = record { tells = steady.tells; seen = leaves.seen; crash = leaves.crash }
changes_at v w joining.Failed leaves steady = tt
changes_at v w (joining.Damaged file place) leaves steady = record { tells = steady.tells; seen = leaves.seen; crash = leaves.crash }

pub keeps_unjoined : (v w : View) (e : Stop) (f : JoinFault) → e ≡ stop_of_joining f → LeavesUnjoined f v w → Steady v w → KeepsRefused {A = Coalesced} (Err e) v w
keeps_unjoined v w e f is leaves steady = record { steady = steady; changes = subst (λ (x : Stop). ChangesIfLived {A = Coalesced} (Err x) v w) (sym is) (changes_at v w f leaves steady) }

-- a call on the disk failed
pub keeps_failed : {A : Type 0} (v w : View) (e : Stop) → e ≡ Because cause.DiskFault → Steady v w → KeepsRefused {A = A} (Err e) v w
keeps_failed {A} v w e is steady = record { steady = steady; changes = subst (λ (x : Stop). ChangesIfLived {A = A} (Err x) v w) (sym is) tt }

-- ---- one that is done

is_of : (c : Coalesced) (s t : Store) → IsCoalesced c s t → FindsRecords c s
is_of NoChain s t h = h.0
is_of OneRecord s t h = (h.0, h.1)
is_of (Joined n) s t h = (h.2, (h.0, h.1))

pub of_store : (v w : View) (c : Coalesced) → (IsTrue v.tells → AllCoalesced c v w) → FindsWhereTold (plate v) c
unfolding FindsWhereTold
of_store v w c all = λ s told. let x = seen_told v.tells v.seen s told in subst (FindsRecords c) x.1 (is_of c v.seen w.seen (all x.0).reads)

pub joins_as_told : (u v w : View) (c : Coalesced) (d : Done) → Stays u v → (IsTrue v.tells → AllCoalesced c v w) → (IsTrue v.tells → SameFile Output v w) → TellsJoined c d → JoinsAsTold u d w
joins_as_told u v w c d stays all output tells = λ told.
    let there = subst IsTrue (sym stays.steady.tells) told in
    let done_there = all there in
    let same_output = output there in
    let same = stays.same told in
    let has : LeavesJoined c u w = record {
      reads = subst (λ (s : Store). IsCoalesced c s w.seen) same done_there.reads;
      left = λ t left. subst (λ (s : Store). IsCoalesced c s t) same (done_there.left t left);
      output = same_output.seen ∙ ap (λ (s : Store). s.output) same;
      output_left = λ t left. let one = same_output.only t left in (one.0, (stays.any_moment told).now told one.0 one.1, one.2);
    } in
    (c, tells, has)

pub told_joined : (words : List (List ℕ)) (shelf : Sight) (v w : View) (r : Result Done Stop) (dir : ℕ) → IfOk r (λ d. JoinsAsTold v d w) → ToldBy words (Some (Coalesce dir)) shelf v r w
told_joined words shelf v w (Ok d) dir joins = joins
told_joined words shelf v w (Err e) dir joins = tt

pub clears_stays : (u v w : View) → Stays u v → Clears v w → Clears u w
clears_stays u v w stays clears = λ told. clears (subst IsTrue (sym stays.steady.tells) told)

pub told_cleared : (words : List (List ℕ)) (shelf : Sight) (v w : View) (r : Result Done Stop) (dir : ℕ) → OnOk r (Clears v w) → ToldBy words (Some (Clear dir)) shelf v r w
told_cleared words shelf v w (Ok d) dir clears = clears
told_cleared words shelf v w (Err e) dir clears = tt

-- ---- where the store is as it should be and nothing fails

-- it tells what was joined, of the store as it was
abbrev pub TellsOf : Store → Done → Type 0
TellsOf s d = (c : Coalesced) × FindsRecords c s × TellsJoined c d

joining_not_failing : (disk disk_new : View) (chain : Option Found) (c : Cause) (f : JoinFault) → HasChainOf disk disk_new chain → stop_of_joining f ≡ Because c → FailsJoining (plate disk) (plate disk_new) f → ⊥
unfolding FailsJoining
joining_not_failing disk disk_new chain c joining.Memory has is fails = absurd (cc is)
joining_not_failing disk disk_new chain c joining.Failed has is fails = has.count fails
joining_not_failing disk disk_new chain c (joining.Damaged file place) has is fails = let damaged = fails disk.seen (told_seen disk.tells disk.seen has.tells) in absurd (cc (sym damaged ∙ has.found))

of_told : (disk : View) (c : Coalesced) → IsTrue disk.tells → FindsWhereTold (plate disk) c → FindsRecords c disk.seen
unfolding FindsWhereTold
of_told disk c tells of = of disk.seen (told_seen disk.tells disk.seen tells)

pub with_joining : (disk disk_new : View) (chain : Option Found) (o : Result Done Stop) → HasChainOf disk disk_new chain → Comes (row.Coalesce (plate disk) (plate disk_new)) o → IsCarriedOut (TellsOf disk.seen) o
with_joining disk disk_new chain (Ok d) has came = inr (d, refl, (came.2.0, of_told disk came.2.0 has.tells came.2.1, came.2.2))
with_joining disk disk_new chain (Err NoMemory) has came = inl refl
with_joining disk disk_new chain (Err (Because c)) has came =
    ⊎_elim (λ fails. absurd (entry_not_failing (plate disk) (plate disk_new) c has.count fails)) (λ entered.
    ⊎_elim (λ fails. absurd (joining_not_failing disk disk_new chain c fails.0 has fails.1 fails.2)) (λ joined. absurd joined.2) entered.2) came

pub joining_said : (s : Store) (d : Done) → TellsOf s d → (done_status d ≡ 0) × (c : Coalesced) × FindsRecords c s × (done_text d ≡ joined_text c)
unfolding TellsJoined
joining_said s (done.Noted t) tells = (refl, tells.0, tells.1, tells.2)
joining_said s (done.Accepted t) tells = absurd tells.2
joining_said s (done.Finished t) tells = absurd tells.2
joining_said s (done.Printed t) tells = absurd tells.2
joining_said s (done.Told t) tells = absurd tells.2

pub with_clearing : (disk disk_new : Plate) (o : Result Done Stop) → (Rose disk.faults disk_new.faults → ⊥) → Comes (row.Clear disk disk_new) o → IsCarriedOut TellsCleared o
with_clearing disk disk_new (Ok d) count came = inr (d, refl, came.2.2)
with_clearing disk disk_new (Err NoMemory) count came = inl refl
with_clearing disk disk_new (Err (Because c)) count came =
    ⊎_elim (λ fails. absurd (entry_not_failing disk disk_new c count fails)) (λ entered.
    ⊎_elim (λ fails. absurd (entry_not_failing disk disk_new c count fails)) (λ cleared. absurd cleared.2) entered.2) came

pub clearing_said : (d : Done) → TellsCleared d → (done_status d ≡ 0) × (done_text d ≡ codes "cleared\n")
unfolding TellsCleared
clearing_said (done.Noted t) tells = (refl, tells)
clearing_said (done.Accepted t) tells = absurd tells
clearing_said (done.Finished t) tells = absurd tells
clearing_said (done.Printed t) tells = absurd tells
clearing_said (done.Told t) tells = absurd tells
