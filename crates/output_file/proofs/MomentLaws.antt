-- What a crash leaves at each moment of a call.
use Rattle.std.proofs.Common.{◌≡◌, inl, inr, ⊎_elim, refl, sym, ◌∙◌, ap, ℕ, ◌≤◌, IsTrue, List, length, take, Result, arith}
use Rattle.std.proofs.lemmas.Bool.{cases_lt}
use Rattle.std.proofs.lemmas.List.{take-take, take_all}
use Rattle.disk_model.specs.declared.disk_file.DiskFile.TheVariants.{Output}
use Rattle.disk_model.specs.Store.{Store}
use Rattle.disk_model.specs.Change.{Change, Write, Cut, Sync, Crashed, Torn, Shortened}
use Rattle.disk_model.specs.View.{View, IsDisk, On, Changes, OnlySyncs}
use Rattle.disk_model.specs.Moments.{Among, LeavesOnly}
use Rattle.disk_model.proofs.Calls.{changed, still, after_change, joined}
use Rattle.output_file.specs.OnDisk.{IsBehind}

-- one change of the output that leaves what stands before a place
change_behind : {T E : Type 0} (change : Change) (result : Result T E) (old new : View) (place : ℕ) → Changes Output change result old new → IsTrue old.tells → IsDisk old
    → ((x y : List ℕ) → Crashed change old.seen.output x y → take place y ≡ take place x)
    → LeavesOnly old new (Among old.may_leave (IsBehind place))
change_behind change result old new place changes tells disk step =
    after_change Output change result old old new Left (λ _. tells) (still old Left (λ _. disk) (λ _. tells) (λ _. here)) changes
    (λ _ c left. ⊎_elim (here c) (there c) (changed Output change result old new changes tells c left))
  where
    Left : Store → Type 0
    Left = Among old.may_leave (IsBehind place)

    here : (c : Store) → old.may_leave c → Left c
    here c now = (c, now, record { output = refl; one = refl; two = refl })

    there : (c : Store) → Among old.may_leave (On Output (Crashed change old.seen.output)) c → Left c
    there c from = (
      from.0,
      from.1,
      record {
        output = ap (λ (s : Store). take place s.output) from.2.2 ∙ step from.0.output from.2.0 from.2.1;
        one = ap (λ (s : Store). s.one) from.2.2;
        two = ap (λ (s : Store). s.two) from.2.2;
      },
    )

-- a torn write leaves what stands before its place
torn_front : (place at n : ℕ) (x y : List ℕ) → place ≤ at → Torn at n x y → take place y ≡ take place x
torn_front place at n x y le torn = sym (take-take place at y le) ∙ ap (take place) torn.before ∙ take-take place at x le

-- and so does a cut in part
cut_front : (n : ℕ) (x y : List ℕ) → Shortened n x y → take n y ≡ take n x
cut_front n x y short = elim (cases_lt (length y) n) [
  | inl less ↦ (let same : x ≡ y = sym (take_all (length y) x (let a = short.no_shorter in omega (arith, a, less))) ∙ short.front in ap (take n) (sym same))
  | inr reaches ↦ ap (take n) (sym short.front) ∙ take-take n (length y) x reaches
]

pub write_behind : {T E : Type 0} (at place : ℕ) (bytes : List ℕ) (result : Result T E) (old new : View) → Changes Output (Write at bytes) result old new → IsTrue old.tells → IsDisk old → place ≤ at
    → LeavesOnly old new (Among old.may_leave (IsBehind place))
write_behind at place bytes result old new changes tells disk le = change_behind (Write at bytes) result old new place changes tells disk (λ x y torn. torn_front place at (length bytes) x y le torn)

pub cut_behind : {T E : Type 0} (n : ℕ) (result : Result T E) (old new : View) → Changes Output (Cut n) result old new → IsTrue old.tells → IsDisk old → LeavesOnly old new (Among old.may_leave (IsBehind n))
cut_behind n result old new changes tells disk = change_behind (Cut n) result old new n changes tells disk (cut_front n)

-- a sync after a run of calls
pub sync_behind : {T E : Type 0} (result : Result T E) (old mid new : View) (Left : Store → Type 0) → IsTrue old.tells → LeavesOnly old mid Left → Changes Output Sync result mid new → (IsTrue mid.tells → OnlySyncs mid new) → LeavesOnly old new Left
sync_behind result old mid new Left tells so_far changes only =
    after_change Output Sync result old mid new Left (λ _. tells) so_far changes (λ mid_tells c left. so_far.now tells c ((only mid_tells).crash c left))

-- a sync by itself
pub sync_leaves : {T E : Type 0} (result : Result T E) (old new : View) → IsDisk old → IsTrue old.tells → Changes Output Sync result old new → (IsTrue old.tells → OnlySyncs old new) → LeavesOnly old new old.may_leave
sync_leaves result old new disk tells changes only = sync_behind result old old new old.may_leave tells (still old old.may_leave (λ _. disk) (λ _. tells) (λ _ c left. left)) changes only

-- one run after another
pub behind_twice : (a b c : View) (place : ℕ) → IsTrue a.tells → LeavesOnly a b (Among a.may_leave (IsBehind place)) → LeavesOnly b c (Among b.may_leave (IsBehind place)) → LeavesOnly a c (Among a.may_leave (IsBehind place))
behind_twice a b c place tells first second =
    joined a b c (Among a.may_leave (IsBehind place)) (Among b.may_leave (IsBehind place)) (λ _. tells) first second
    (λ _ s from. let was = first.now tells from.0 from.1 in (was.0, was.1, record { output = from.2.output ∙ was.2.output; one = from.2.one ∙ was.2.one; two = from.2.two ∙ was.2.two }))

-- a run that leaves no more than before, after another
pub then_leaves : (a b c : View) (Left : Store → Type 0) → IsTrue a.tells → LeavesOnly a b Left → LeavesOnly b c b.may_leave → LeavesOnly a c Left
then_leaves a b c Left tells first second = joined a b c Left b.may_leave (λ _. tells) first second (λ _ s left. first.now tells s left)
