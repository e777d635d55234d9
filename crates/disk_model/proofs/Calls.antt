-- How what a crash may leave goes on from call to call.
use Rattle.std.proofs.Common.{◌≡◌, ◌≢◌, ◌⊎◌, inl, inr, ⊎_elim, refl, sym, ◌∙◌, ap, subst, ℕ, IsTrue, List, length, Result, Ok, Err, arith}
use Rattle.std.proofs.lemmas.List.{take_all}
use Rattle.disk_model.specs.declared.disk_file.DiskFile.{DiskFile}
use Rattle.disk_model.specs.declared.disk_file.DiskFile.TheVariants.{Output, One, Two}
use Rattle.disk_model.specs.Store.{Store, file_of, with_file}
use Rattle.disk_model.specs.Change.{Change, Write, Cut, Sync, Start, whole, Crashed}
use Rattle.disk_model.specs.View.{View, IsDisk, On, IsMade, Changes, Looks, SameFile, Steady}
use Rattle.disk_model.specs.Moments.{Among, LeavesOnly}

pub file_of-with_file : (f : DiskFile) (bytes : List ℕ) (s : Store) → file_of f (with_file f bytes s) ≡ bytes
file_of-with_file Output bytes s = refl
file_of-with_file One bytes s = refl
file_of-with_file Two bytes s = refl

pub with_file-same : (f : DiskFile) (s : Store) → with_file f (file_of f s) s ≡ s
with_file-same Output s = refl
with_file-same One s = refl
with_file-same Two s = refl

pub with_file-twice : (f : DiskFile) (a b : List ℕ) (s : Store) → with_file f b (with_file f a s) ≡ with_file f b s
with_file-twice Output a b s = refl
with_file-twice One a b s = refl
with_file-twice Two a b s = refl

-- A change leaves, whatever it answers, an old outcome or one after its step.
pub changed : {T E : Type 0} (f : DiskFile) (change : Change) (result : Result T E) (old new : View) → Changes f change result old new → IsTrue old.tells
    → (c : Store) → new.may_leave c → old.may_leave c ⊎ Among old.may_leave (On f (Crashed change (file_of f old.seen))) c
changed f change (Ok x) old new changes tells c left = inr (((changes.does tells).crash c).0 left)
changed f change (Err e) old new changes tells c left = (changes.does tells).crash c left

-- no time has passed
pub still : (v : View) (P : Store → Type 0) → (IsTrue v.tells → IsDisk v) → (IsTrue v.tells_past → IsTrue v.tells) → (IsTrue v.tells → (c : Store) → v.may_leave c → P c) → LeavesOnly v v P
still v P lawful both here = record {
  tells = refl;
  tells_past = refl;
  now = here;
  later = λ p. omega arith;
  each = λ p c left. here (both p) c ((lawful (both p)).only_now p c left);
  before = λ p t c le left. inl left;
}

-- one change more, after which a crash leaves what has P
pub after_change : {T E : Type 0} (f : DiskFile) (change : Change) (result : Result T E) (old mid new : View) (P : Store → Type 0) → (IsTrue old.tells_past → IsTrue old.tells) → LeavesOnly old mid P → Changes f change result mid new
    → (IsTrue mid.tells → (c : Store) → new.may_leave c → P c) → LeavesOnly old new P
after_change f change result old mid new P both so_far call here = record {
  tells = call.tells ∙ so_far.tells;
  tells_past = call.tells_past ∙ so_far.tells_past;
  now = λ t. here (subst IsTrue (sym so_far.tells) t);
  later = λ p. let a = so_far.later p in let b = call.later (q p) in omega (arith, a, b);
  each = λ p c left. ⊎_elim (so_far.each p c) (here (subst IsTrue (sym so_far.tells) (both p)) c) ((call.past (q p) old.moment c (so_far.later p)).0 left);
  before = λ p t c le left.
      let a = so_far.later p in
      ⊎_elim (so_far.before p t c le) (λ now. inr (here (subst IsTrue (sym so_far.tells) (both p)) c now)) ((call.past (q p) t c (omega (arith, le, a))).0 left);
}
  where
    q : IsTrue old.tells_past → IsTrue mid.tells_past
    q p = subst IsTrue (sym so_far.tells_past) p

-- one run after another
pub joined : (a b c : View) (P R : Store → Type 0) → (IsTrue a.tells_past → IsTrue a.tells) → LeavesOnly a b P → LeavesOnly b c R → (IsTrue a.tells → (s : Store) → R s → P s) → LeavesOnly a c P
joined a b c P R both first second weaker = record {
  tells = second.tells ∙ first.tells;
  tells_past = second.tells_past ∙ first.tells_past;
  now = λ t s left. weaker t s (second.now (subst IsTrue (sym first.tells) t) s left);
  later = λ p. let x = first.later p in let y = second.later (q p) in omega (arith, x, y);
  each = λ p s left. ⊎_elim (first.each p s) (weaker (both p) s) (second.before (q p) a.moment s (first.later p) left);
  before = λ p t s le left.
      let x = first.later p in
      ⊎_elim (first.before p t s le) (λ r. inr (weaker (both p) s r)) (second.before (q p) t s (omega (arith, le, x)) left);
}
  where
    q : IsTrue a.tells_past → IsTrue b.tells_past
    q p = subst IsTrue (sym first.tells_past) p

pub weaken : (a b : View) (P R : Store → Type 0) → LeavesOnly a b R → ((s : Store) → R s → P s) → LeavesOnly a b P
weaken a b P R run weaker = record {
  tells = run.tells;
  tells_past = run.tells_past;
  now = λ t s left. weaker s (run.now t s left);
  later = run.later;
  each = λ p s left. weaker s (run.each p s left);
  before = λ p t s le left. ⊎_elim (λ was. inl was) (λ r. inr (weaker s r)) (run.before p t s le left);
}

-- two steps of one file are one
pub among_twice : (f : DiskFile) (outcomes : Store → Type 0) (P R Q : List ℕ → Type 0) → ((x : List ℕ) → R x → Q x) → (s : Store)
    → Among (Among outcomes (On f (λ _ x. P x))) (On f (λ _ x. R x)) s → Among outcomes (On f (λ _ x. Q x)) s
among_twice f outcomes P R Q weaker s from =
    let mid = from.1 in
    (mid.0, mid.1, (from.2.0, weaker from.2.0 from.2.1, from.2.2 ∙ ap (with_file f from.2.0) mid.2.2 ∙ with_file-twice f mid.2.0 from.2.0 mid.0))

pub among_weaker : (outcomes other : Store → Type 0) (step : Store → Store → Type 0) → ((s : Store) → outcomes s → other s) → (s : Store) → Among outcomes step s → Among other step s
among_weaker outcomes other step weaker s from = (from.0, weaker from.0 from.1, from.2)

pub changes_steady : {T E : Type 0} (f : DiskFile) (change : Change) (result : Result T E) (old new : View) → Changes f change result old new → Steady old new
changes_steady f change (Ok x) old new call = record { tells = call.tells; tells_past = call.tells_past; faults = omega (arith, call.counts) }
changes_steady f change (Err e) old new call = record { tells = call.tells; tells_past = call.tells_past; faults = call.counts.1 }

pub steady_twice : (a b c : View) → Steady a b → Steady b c → Steady a c
steady_twice a b c first second = record { tells = second.tells ∙ first.tells; tells_past = second.tells_past ∙ first.tells_past; faults = omega arith }

-- one run after another, on one file
pub then_on : (f : DiskFile) (a b c : View) (P R : List ℕ → Type 0) → IsTrue a.tells → LeavesOnly a b (Among a.may_leave (On f (λ _ x. P x))) → LeavesOnly b c (Among b.may_leave (On f (λ _ x. R x))) → ((x : List ℕ) → R x → P x)
    → LeavesOnly a c (Among a.may_leave (On f (λ _ x. P x)))
then_on f a b c P R tells first second weaker =
    joined a b c (Among a.may_leave (On f (λ _ x. P x))) (Among b.may_leave (On f (λ _ x. R x))) (λ _. tells) first second
    (λ t s from. among_twice f a.may_leave P R P weaker s (among_weaker b.may_leave (Among a.may_leave (On f (λ _ x. P x))) (On f (λ _ x. R x)) (first.now t) s from))

pub weaken_on : (f : DiskFile) (a b : View) (P R : List ℕ → Type 0) → LeavesOnly a b (Among a.may_leave (On f (λ _ x. R x))) → ((x : List ℕ) → R x → P x) → LeavesOnly a b (Among a.may_leave (On f (λ _ x. P x)))
weaken_on f a b P R run weaker = weaken a b (Among a.may_leave (On f (λ _ x. P x))) (Among a.may_leave (On f (λ _ x. R x))) run (λ s from. (from.0, from.1, (from.2.0, weaker from.2.0 from.2.1, from.2.2)))

-- One change of a file that has Q in each outcome: a crash at each moment of it leaves an earlier outcome, but for this file, where it has P.
pub one_change : {T E : Type 0} (f : DiskFile) (change : Change) (result : Result T E) (old new : View) (Q P : List ℕ → Type 0) → Changes f change result old new → IsTrue old.tells → IsDisk old
    → ((c : Store) → old.may_leave c → Q (file_of f c))
    → ((x y : List ℕ) → Q x → Crashed change (file_of f old.seen) x y → P y)
    → ((x : List ℕ) → Q x → P x)
    → LeavesOnly old new (Among old.may_leave (On f (λ _ bytes. P bytes)))
one_change f change result old new Q P changes tells disk was step stays =
    after_change f change result old old new R (λ _. tells) (still old R (λ _. disk) (λ _. tells) (λ _. here)) changes (λ _ c left. ⊎_elim (here c) (λ from. (from.0, from.1, (from.2.0, step (file_of f from.0) from.2.0 (was from.0 from.1) from.2.1, from.2.2))) (changed f change result old new changes tells c left))
  where
    R : Store → Type 0
    R = Among old.may_leave (On f (λ _ bytes. P bytes))

    here : (c : Store) → old.may_leave c → R c
    here c now = (c, now, (file_of f c, stays (file_of f c) (was c now), sym (with_file-same f c)))

-- what a read gives of the file after a change
pub made_seen : (f : DiskFile) (change : Change) (old new : View) → IsMade f change old new → file_of f new.seen ≡ whole change (file_of f old.seen)
made_seen f change old new made = ap (file_of f) made.seen ∙ file_of-with_file f (whole change (file_of f old.seen)) old.seen

-- what a crash leaves of the file after a change
pub made_leaves : (f : DiskFile) (change : Change) (old new : View) (Q P : List ℕ → Type 0) → IsMade f change old new
    → ((c : Store) → old.may_leave c → Q (file_of f c))
    → ((x y : List ℕ) → Q x → Crashed change (file_of f old.seen) x y → P y)
    → (c : Store) → new.may_leave c → P (file_of f c)
made_leaves f change old new Q P made was step c left =
    let from = (made.crash c).0 left in
    subst P (sym (ap (file_of f) from.2.2 ∙ file_of-with_file f from.2.0 from.0)) (step (file_of f from.0) from.2.0 (was from.0 from.1) from.2.1)

-- the other files, as reads give them
pub other_file : (f g : DiskFile) (bytes : List ℕ) (s : Store) → f ≢ g → file_of g (with_file f bytes s) ≡ file_of g s
other_file Output Output bytes s apart = absurd (apart refl)
other_file Output One bytes s apart = refl
other_file Output Two bytes s apart = refl
other_file One Output bytes s apart = refl
other_file One One bytes s apart = absurd (apart refl)
other_file One Two bytes s apart = refl
other_file Two Output bytes s apart = refl
other_file Two One bytes s apart = refl
other_file Two Two bytes s apart = absurd (apart refl)

-- One look more.
pub after_look : {T E : Type 0} (result : Result T E) (old mid new : View) (P : Store → Type 0) → LeavesOnly old mid P → Looks result mid new → LeavesOnly old new P
after_look result old mid new P so_far call = record {
  tells = call.tells ∙ so_far.tells;
  tells_past = call.tells_past ∙ so_far.tells_past;
  now = λ t c left. so_far.now t c ((call.crash (subst IsTrue (sym so_far.tells) t) c).0 left);
  later = λ p. let a = so_far.later p in let b = call.later (q p) in omega (arith, a, b);
  each = λ p c left. so_far.each p c ((call.past (q p) old.moment c (so_far.later p)).0 left);
  before = λ p t c le left. let a = so_far.later p in so_far.before p t c le ((call.past (q p) t c (omega (arith, le, a))).0 left);
}
  where
    q : IsTrue old.tells_past → IsTrue mid.tells_past
    q p = subst IsTrue (sym so_far.tells_past) p

-- a look keeps what each call keeps
pub looks_steady : {T E : Type 0} (result : Result T E) (old new : View) → Looks result old new → Steady old new
looks_steady (Ok x) old new call = record { tells = call.tells; tells_past = call.tells_past; faults = omega (arith, call.counts) }
looks_steady (Err e) old new call = record { tells = call.tells; tells_past = call.tells_past; faults = call.counts.1 }

-- Where each crash leaves the file as it reads, it is on the disk for good.
pub synced_leaves : (f : DiskFile) (old new : View) → IsMade f Sync old new → (c : Store) → new.may_leave c → file_of f c ≡ file_of f old.seen
synced_leaves f old new made c left =
    let from = (made.crash c).0 left in
    ap (file_of f) from.2.2 ∙ file_of-with_file f from.2.0 from.0 ∙ from.2.1

-- a crash may make something of each file after a change
some_outcome : (change : Change) (seen old : List ℕ) → (new : List ℕ) × Crashed change seen old new
some_outcome (Write at bytes) seen old = (old, record { before = refl; after = refl; no_shorter = omega arith; no_longer = omega arith })
some_outcome (Cut n) seen old = (old, record { no_shorter = omega arith; front = take_all (length old) old (omega arith) })
some_outcome Sync seen old = (seen, refl)
some_outcome (Start header) seen old = (header, refl)

-- A change of one file leaves each other one as it was, whatever it answers.
pub others_stay : {T E : Type 0} (f g : DiskFile) (change : Change) (result : Result T E) (old new : View) → f ≢ g → IsTrue old.tells → Changes f change result old new → SameFile g old new
others_stay f g change (Ok x) old new apart tells call =
    let made = call.does tells in
    record {
      seen = ap (file_of g) made.seen ∙ other_file f g (whole change (file_of f old.seen)) old.seen apart;
      only = λ c left. let from = (made.crash c).0 left in (from.0, from.1, ap (file_of g) from.2.2 ∙ other_file f g from.2.0 from.0 apart);
      still = λ c left.
          let out = some_outcome change (file_of f old.seen) (file_of f c) in
          (with_file f out.0 c, (made.crash (with_file f out.0 c)).1 (c, left, (out.0, out.1, refl)), other_file f g out.0 c apart);
    }
others_stay f g change (Err e) old new apart tells call =
    let part = call.does tells in
    record {
      seen = ⊎_elim (λ same. ap (file_of g) same) (λ on. ap (file_of g) on.2 ∙ other_file f g on.0 old.seen apart) part.seen;
      only = λ c left. ⊎_elim (λ was. (c, was, refl)) (λ from. (from.0, from.1, ap (file_of g) from.2.2 ∙ other_file f g from.2.0 from.0 apart)) (part.crash c left);
      still = λ c left. let kept = part.others c left in (with_file f kept.0 c, kept.1, other_file f g kept.0 c apart);
    }

-- a look leaves each file as it was
pub look_stays : {T E : Type 0} (g : DiskFile) (result : Result T E) (old new : View) → IsTrue old.tells → Looks result old new → SameFile g old new
look_stays g result old new tells call = record { seen = ap (file_of g) (call.seen tells); only = λ c left. (c, (call.crash tells c).0 left, refl); still = λ c left. (c, (call.crash tells c).1 left, refl) }

pub stays_twice : (g : DiskFile) (a b c : View) → SameFile g a b → SameFile g b c → SameFile g a c
stays_twice g a b c first second = record {
  seen = second.seen ∙ first.seen;
  only = λ s left. let x = second.only s left in let y = first.only x.0 x.1 in (y.0, y.1, x.2 ∙ y.2);
  still = λ s left. let x = first.still s left in let y = second.still x.0 x.1 in (y.0, y.1, y.2 ∙ x.2);
}
