-- What is told of a disk that is only looked at, and why the records of its store are not listed.
use Rattle.std.proofs.Common.{◌≡◌, ◌≤◌, refl, sym, ◌∙◌, ap, subst, ℕ, Bool, true, false, IsTrue, List, Option, Some, Result, Err}
use Rattle.disk_model.specs.Store.{Store}
use Rattle.disk_model.specs.View.{View, IsDisk, Looks}
use Rattle.disk_model.specs.Plate.{Plate, told, plate}
use Rattle.disk_model.proofs.Calls.{still, joined, after_look, looks_steady, steady_twice}
use Rattle.image_chain.specs.Records.{chain_in}
use Rattle.chain_listing.specs.Store.{Lists, IsUnlisted, CountsFault}
use Rattle.chain_listing.specs.declared.fault.ListFault.{ListFault}
use Rattle.chain_listing.specs.declared.fault.ListFault.TheVariants.{Memory, Failed, Damaged}
use Rattle.ckpt_program.specs.DiskStages.{CalmDisk, FailsListing, IsListed, Listed, Stays}
use Rattle.ckpt_program.specs.Reasons.{stop_of_listing}
use Rattle.ckpt_program.specs.Stage.{Comes}
use Rattle.ckpt_program.specs.declared.stop.Stop.{Stop}

told_same : (b c : Bool) (s t : Store) → c ≡ b → (IsTrue b → t ≡ s) → told c t ≡ told b s
told_same true true s t is same = ap Some (same refl)
told_same false false s t is same = refl
told_same true false s t is same = absurd (cc is)
told_same false true s t is same = absurd (cc is)

pub seen_told : (b : Bool) (s t : Store) → told b s ≡ Some t → IsTrue b × (s ≡ t)
seen_told true s t is = (refl, cc is)
seen_told false s t is = absurd (cc is)

abbrev plate_of : Option Store → ℕ → Plate
plate_of o n = record { seen = o; faults = n }

-- a look leaves what is told of a disk now
pub same_plate : (u v : View) → v.tells ≡ u.tells → (IsTrue u.tells → v.seen ≡ u.seen) → v.faults ≡ u.faults → plate v ≡ plate u
same_plate u v tells seen faults = ap (λ o. plate_of o v.faults) (told_same u.tells v.tells u.seen v.seen tells seen) ∙ ap (λ n. plate_of (told u.tells u.seen) n) faults

pub looked_stays : {T E : Type 0} (r : Result T E) (a b : View) → (IsTrue a.tells → IsDisk a) → Looks r a b → Stays a b
looked_stays r a b lawful look = record {
  steady = looks_steady r a b look;
  same = look.seen;
  any_moment = λ t. after_look r a a b a.may_leave (still a a.may_leave lawful (λ _. t) (λ _ c left. left)) look;
}

-- calls that leave the contents, one after another
pub stays_twice : (a b c : View) → Stays a b → Stays b c → Stays a c
stays_twice a b c first second = record {
  steady = steady_twice a b c first.steady second.steady;
  same = λ t. second.same (subst IsTrue (sym first.steady.tells) t) ∙ first.same t;
  any_moment = λ t. joined a b c a.may_leave b.may_leave (λ _. t) (first.any_moment t) (second.any_moment (subst IsTrue (sym first.steady.tells) t)) (λ _ s left. (first.any_moment t).now t s left);
}

-- ---- the list of records

pub told_listed : (v : View) (text : List ℕ) → (IsTrue v.tells → Lists v.seen text) → IsListed (plate v) text
unfolding IsListed
told_listed v text lists = λ s is. let x = seen_told v.tells v.seen s is in subst (λ t. Lists t text) x.1 (lists x.0)

pub unlisted : (v w : View) (e : Stop) (f : ListFault) → e ≡ stop_of_listing f → CountsFault f v.faults w.faults → (IsTrue v.tells → IsUnlisted f v.seen) → Comes (Listed (plate v) (plate w)) (Err e)
unfolding FailsListing
unlisted v w e Memory is counts why = subst (λ (x : Stop). Comes (Listed (plate v) (plate w)) (Err x)) (sym is) tt
unlisted v w e Failed is counts why = subst (λ (x : Stop). Comes (Listed (plate v) (plate w)) (Err x)) (sym is) counts
unlisted v w e (Damaged file place) is counts why = subst (λ (x : Stop). Comes (Listed (plate v) (plate w)) (Err x)) (sym is) (λ s told. let x = seen_told v.tells v.seen s told in subst (λ t. chain_in t ≡ Err (record { file = file; place = place })) x.1 (why x.0))

pub calm_unlisted : (old new : ℕ) (e : Stop) (f : ListFault) → e ≡ stop_of_listing f → CountsFault f old new → old ≤ new → CalmDisk {A = List ℕ} (Err e) old new
calm_unlisted old new e Memory is counts later = subst (λ (x : Stop). CalmDisk {A = List ℕ} (Err x) old new) (sym is) counts
calm_unlisted old new e Failed is counts later = subst (λ (x : Stop). CalmDisk {A = List ℕ} (Err x) old new) (sym is) later
calm_unlisted old new e (Damaged file place) is counts later = subst (λ (x : Stop). CalmDisk {A = List ℕ} (Err x) old new) (sym is) counts
