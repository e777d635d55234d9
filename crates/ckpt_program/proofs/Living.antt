-- What a life came to that was lived in a store, and what is kept of the disk where it was refused.
use Rattle.std.proofs.Common.{◌≡◌, ◌≤◌, refl, sym, ◌∙◌, ap, subst, ℕ, IsTrue, Some, Result, Ok, Err, arith}
use Rattle.ckpt_base.specs.declared.ending.Ending.{Ending}
use Rattle.disk_model.specs.Store.{Store}
use Rattle.disk_model.specs.View.{View, Steady}
use Rattle.disk_model.specs.Plate.{plate}
use Rattle.disk_model.proofs.Calls.{steady_twice, joined}
use Rattle.run_images.specs.Later.{IsLater}
use Rattle.run_images.specs.Origin.{Origin}
use Rattle.run_images.specs.Source.{Source as RunSource, run_of}
use Rattle.run_images.specs.Stands.{Stands, AllStand}
use Rattle.ckpt_runner.specs.Opening.{Given, Opens, Refuses, Leaves}
use Rattle.ckpt_runner.specs.Standing.{IsGivenSource, KeepsImages}
use Rattle.ckpt_runner.specs.declared.started.OpenFault.{OpenFault}
use Rattle.ckpt_runner.specs.declared.started.OpenFault.TheVariants as opening
use Rattle.ckpt_runner.specs.declared.started.Started.{Started}
use Rattle.ckpt_runner.specs.declared.started.Started.TheVariants.{Begun, Resumed}
use Rattle.one_life.specs.declared.living.Lived.{Lived}
use Rattle.one_life.specs.AsSource.{LivesAsSource, LivesStanding}
use Rattle.one_life.specs.Ends.{Ran, RanOn}
use Rattle.ckpt_program.specs.DiskStages.{CalmDisk, OnlyLasting, Stays}
use Rattle.ckpt_program.specs.Headline.{StandThroughout, StartsIn, ToldAsSource}
use Rattle.ckpt_program.specs.LifeStages.{FailsLife, IsLifeIn, LivedIn, WasLived, ChangesIfLived, KeepsAt, KeepsRefused, OutputLasts, TellsLife, given_with, stop_of_opening}
use Rattle.ckpt_program.specs.Stage.{Comes}
use Rattle.ckpt_program.specs.declared.done.Done.{Done}
use Rattle.ckpt_program.specs.declared.life_stages.Asked.{Asked}
use Rattle.ckpt_program.specs.declared.stop.Cause.TheVariants as cause
use Rattle.ckpt_program.specs.declared.stop.Stop.{Stop}
use Rattle.ckpt_program.specs.declared.stop.Stop.TheVariants.{NoMemory, Because}
use Rattle.ckpt_program.proofs.Disks.{stays_moments}
use Rattle.ckpt_program.proofs.Joining.{faulted}
use Rattle.ckpt_program.proofs.Looking.{seen_told}

-- ---- a refusal

refused_there : (g : Given) (v w : View) (f : OpenFault) → (IsTrue v.tells → Refuses f g v.seen) → (s : Store) → (plate v).seen ≡ Some s → Refuses f g s
refused_there g v w f why s told = let x = seen_told v.tells v.seen s told in subst (Refuses f g) x.1 (why x.0)

fails_life : (g : Given) (v w : View) (f : OpenFault) → Leaves f v w → (IsTrue v.tells → Refuses f g v.seen) → FailsLife g (plate v) (plate w) f
unfolding FailsLife
fails_life g v w opening.Memory leaves why = refused_there g v w opening.Memory why
fails_life g v w opening.Failed leaves why = leaves
fails_life g v w (opening.Damaged file place) leaves why = refused_there g v w (opening.Damaged file place) why
fails_life g v w (opening.Occupied image step) leaves why = refused_there g v w (opening.Occupied image step) why
fails_life g v w (opening.OtherSource kept given) leaves why = refused_there g v w (opening.OtherSource kept given) why
fails_life g v w (opening.OtherInput kept given) leaves why = refused_there g v w (opening.OtherInput kept given) why
fails_life g v w (opening.Behind bound step) leaves why = refused_there g v w (opening.Behind bound step) why

pub unlived : (g : Given) (v w : View) (e : Stop) (f : OpenFault) → e ≡ stop_of_opening f → Leaves f v w → (IsTrue v.tells → Refuses f g v.seen) → Comes (LivedIn g (plate v) (plate w)) (Err e)
unlived g v w e f is leaves why = faulted {A = Lived} stop_of_opening (IsLifeIn g (plate v) (plate w)) (FailsLife g (plate v) (plate w)) e f is (λ other. fails_life g v w f leaves why)

calm_at : (v w : View) (f : OpenFault) → Leaves f v w → v.faults ≤ w.faults → CalmDisk {A = Lived} (Err (stop_of_opening f)) v.faults w.faults
calm_at v w opening.Memory leaves later = leaves.faults
calm_at v w opening.Failed leaves later = later
calm_at v w (opening.Damaged file place) leaves later = leaves.faults
calm_at v w (opening.Occupied image step) leaves later = leaves.faults
calm_at v w (opening.OtherSource kept given) leaves later = leaves.faults
calm_at v w (opening.OtherInput kept given) leaves later = leaves.faults
calm_at v w (opening.Behind bound step) leaves later = leaves.faults

pub calm_unlived : (v w : View) (e : Stop) (f : OpenFault) → e ≡ stop_of_opening f → Leaves f v w → v.faults ≤ w.faults → CalmDisk {A = Lived} (Err e) v.faults w.faults
calm_unlived v w e f is leaves later = subst (λ (x : Stop). CalmDisk {A = Lived} (Err x) v.faults w.faults) (sym is) (calm_at v w f leaves later)

changes_at : (v w : View) (f : OpenFault) → Leaves f v w → Steady v w → ChangesIfLived {A = Lived} (Err (stop_of_opening f)) v w
changes_at v w opening.Memory leaves steady = record { tells = steady.tells; seen = leaves.seen; crash = leaves.crash }
changes_at v w opening.Failed leaves steady = tt
changes_at v w (opening.Damaged file place) leaves steady = record { tells = steady.tells; seen = leaves.seen; crash = leaves.crash }
changes_at v w (opening.Occupied image step) leaves steady = record { tells = steady.tells; seen = leaves.seen; crash = leaves.crash }
changes_at v w (opening.OtherSource kept given) leaves steady = record { tells = steady.tells; seen = leaves.seen; crash = leaves.crash }
changes_at v w (opening.OtherInput kept given) leaves steady = record { tells = steady.tells; seen = leaves.seen; crash = leaves.crash }
changes_at v w (opening.Behind bound step) leaves steady = record { tells = steady.tells; seen = leaves.seen; crash = leaves.crash }

pub keeps_unlived : (v w : View) (e : Stop) (f : OpenFault) → e ≡ stop_of_opening f → Leaves f v w → Steady v w → KeepsRefused {A = Lived} (Err e) v w
keeps_unlived v w e f is leaves steady = record { steady = steady; changes = subst (λ (x : Stop). ChangesIfLived {A = Lived} (Err x) v w) (sym is) (changes_at v w f leaves steady) }

-- ---- a life

was_lived : (g : Given) (s : Store) (w : View) (l : Lived) → RanOn g s l w → WasLived g s (plate w) l
was_lived g s w l on = record {
  origin = on.origin;
  opens = on.opens;
  events = on.events;
  runs = on.runs;
  output = λ t told. let x = seen_told w.tells w.seen t told in ap (λ (u : Store). u.output) (sym x.1) ∙ on.lasting.output.reads;
}

pub lived_in : (g : Given) (v w : View) (l : Lived) → Ran g l → (IsTrue v.tells → RanOn g v.seen l w) → IsLifeIn g (plate v) (plate w) l
unfolding IsLifeIn
lived_in g v w l ran on = (ran, λ s told. let x = seen_told v.tells v.seen s told in subst (λ (t : Store). WasLived g t (plate w) l) x.1 (was_lived g v.seen w l (on x.0)))

pub output_lasts : (g : Given) (v w : View) (l : Lived) → w.tells ≡ v.tells → (IsTrue v.tells → RanOn g v.seen l w) → OutputLasts w
output_lasts g v w l same on = λ t c left. let ran = on (subst IsTrue same t) in ran.lasting.output.left c left ∙ sym ran.lasting.output.reads

-- ---- what is kept, call after call

kept_still : (e : Stop) (v w : View) → OnlyLasting v w → KeepsAt e v w
kept_still NoMemory v w same = same
kept_still (Because cause.Usage) v w same = same
kept_still (Because (cause.Refused r)) v w same = same
kept_still (Because cause.DiskFault) v w same = tt
kept_still (Because cause.ShelfFault) v w same = same
kept_still (Because (cause.TooLarge d)) v w same = same
kept_still (Because (cause.Damaged file place)) v w same = same
kept_still (Because (cause.Occupied image step)) v w same = same
kept_still (Because (cause.OtherSource kept given)) v w same = same
kept_still (Because (cause.OtherInput kept given)) v w same = same
kept_still (Because (cause.Behind bound step)) v w same = same
kept_still (Because (cause.NotAnExclude n)) v w same = same
kept_still (Because (cause.NotACell n)) v w same = same

changes_still : {A : Type 0} (r : Result A Stop) (v w : View) → OnlyLasting v w → ChangesIfLived r v w
changes_still (Ok x) v w same = tt
changes_still (Err e) v w same = kept_still e v w same

-- a disk that was not used
pub keeps_still : {A : Type 0} (r : Result A Stop) (v : View) → KeepsRefused r v v
keeps_still r v = record {
  steady = record { tells = refl; tells_past = refl; faults = omega arith };
  changes = changes_still r v v (record { tells = refl; seen = λ t. refl; crash = λ t c left. left });
}

lasting : (v w : View) → Stays v w → OnlyLasting v w
lasting v w stays = record { tells = stays.steady.tells; seen = stays.same; crash = λ t c left. (stays.any_moment t).now t c left }

-- a disk whose contents stayed
pub keeps_stays : {A : Type 0} (r : Result A Stop) (v w : View) → Stays v w → KeepsRefused r v w
keeps_stays r v w stays = record { steady = stays.steady; changes = changes_still r v w (lasting v w stays) }

lasting_twice : (u v w : View) → OnlyLasting u v → OnlyLasting v w → OnlyLasting u w
lasting_twice u v w first second = record {
  tells = second.tells ∙ first.tells;
  seen = λ t. second.seen (subst IsTrue (sym first.tells) t) ∙ first.seen t;
  crash = λ t c left. first.crash t c (second.crash (subst IsTrue (sym first.tells) t) c left);
}

kept_after : (e : Stop) (u v w : View) → OnlyLasting u v → KeepsAt e v w → KeepsAt e u w
kept_after NoMemory u v w first second = lasting_twice u v w first second
kept_after (Because cause.Usage) u v w first second = lasting_twice u v w first second
kept_after (Because (cause.Refused r)) u v w first second = lasting_twice u v w first second
kept_after (Because cause.DiskFault) u v w first second = tt
kept_after (Because cause.ShelfFault) u v w first second = lasting_twice u v w first second
kept_after (Because (cause.TooLarge d)) u v w first second = lasting_twice u v w first second
kept_after (Because (cause.Damaged file place)) u v w first second = lasting_twice u v w first second
kept_after (Because (cause.Occupied image step)) u v w first second = lasting_twice u v w first second
kept_after (Because (cause.OtherSource kept given)) u v w first second = lasting_twice u v w first second
kept_after (Because (cause.OtherInput kept given)) u v w first second = lasting_twice u v w first second
kept_after (Because (cause.Behind bound step)) u v w first second = lasting_twice u v w first second
kept_after (Because (cause.NotAnExclude n)) u v w first second = lasting_twice u v w first second
kept_after (Because (cause.NotACell n)) u v w first second = lasting_twice u v w first second

-- .. and then a life was lived in it
pub keeps_done : {A : Type 0} (u v w : View) (l : A) (d : Done) → Stays u v → KeepsRefused {A = A} (Ok l) v w → KeepsRefused {A = Done} (Ok d) u w
keeps_done {A} u v w l d stays keeps = record { steady = steady_twice u v w stays.steady keeps.steady; changes = tt }

-- .. or was refused
pub keeps_stopped : {A : Type 0} (u v w : View) (e : Stop) → Stays u v → KeepsRefused {A = A} (Err e) v w → KeepsRefused {A = Done} (Err e) u w
keeps_stopped {A} u v w e stays keeps = record { steady = steady_twice u v w stays.steady keeps.steady; changes = kept_after e u v w (lasting u v stays) keeps.changes }

-- ---- every moment

-- a store that stood stands where the contents stayed
stand_on : (s : RunSource) (u v : View) → IsTrue u.tells → Stays u v → AllStand s u → AllStand s v
stand_on s u v told stays stand c left = stand c ((stays.any_moment told).now told c left)

pub standing_stays : (Is : RunSource → Type 0) (u v : View) → (IsTrue u.tells_past → IsTrue u.tells) → Stays u v → StandThroughout Is u v
standing_stays Is u v all stays told s is stand = stays_moments u v (Stands s) all stays (λ t c left. stand c left)

pub images_stay : (u v : View) → (IsTrue u.tells_past → IsTrue u.tells) → Stays u v → KeepsImages u v
images_stay u v all stays told j later = stays_moments u v (IsLater j) all stays (λ t c left. later c left)

-- .. and then on
pub standing_then : (Is : RunSource → Type 0) (u v w : View) → (IsTrue u.tells_past → IsTrue u.tells) → Stays u v → StandThroughout Is v w → StandThroughout Is u w
standing_then Is u v w all stays lives told s is stand =
    joined u v w (Stands s) (Stands s) all (standing_stays Is u v all stays told s is stand)
    (lives (subst IsTrue (sym stays.steady.tells) told) s is (stand_on s u v told stays stand)) (λ _ c h. h)

pub standing_lived : (g : Given) (u v w : View) → (IsTrue u.tells_past → IsTrue u.tells) → Stays u v → LivesStanding g v w → StandThroughout (IsGivenSource g) u w
standing_lived g u v w all stays lives = standing_then (IsGivenSource g) u v w all stays lives

pub images_lived : (u v w : View) → (IsTrue u.tells_past → IsTrue u.tells) → Stays u v → KeepsImages v w → KeepsImages u w
images_lived u v w all stays lives told j later =
    let first = images_stay u v all stays told j later in
    joined u v w (IsLater j) (IsLater j) all first (lives (subst IsTrue (sym stays.steady.tells) told) j (λ c left. first.now told c left)) (λ _ c h. h)

-- ---- the end

starts_in : (compiled : _) (marks : _) (input : _) (a : Asked) (seen : Store) (started : Started) (o : Origin) → Opens (given_with compiled marks input a) seen started o → StartsIn a seen started o.taking.every
starts_in compiled marks input a seen Begun o opens = (opens.0, ap (λ (x : Origin). x.taking.every) opens.1)
starts_in compiled marks input a seen (Resumed image step) o opens =
    let at = opens.6 in
    (opens.0, opens.1, opens.2.has, opens.4, opens.5, ap (λ t. t.every) at.taking)

-- what a life came to that was told is what its source's run comes to
pub told_as_source : (compiled : _) (marks : _) (input : _) (a : Asked) (u v w : View) (l : Lived) (d : Done) → Stays u v → LivesAsSource (given_with compiled marks input a) v l w → TellsLife l d → ToldAsSource (IsGivenSource (given_with compiled marks input a)) a u d w
told_as_source compiled marks input a u v w l d stays lives tells = λ told s is stand.
    let came = lives (subst IsTrue (sym stays.steady.tells) told) s is (stand_on s u v told stays stand) in
    record {
      started = l.started;
      every = came.origin.taking.every;
      starts = starts_in compiled marks input a u.seen l.started came.origin (subst (λ (c : Store). Opens (given_with compiled marks input a) c l.started came.origin) (stays.same told) came.opens);
      tells = subst (λ (n : ℕ). TellsLife (record { started = l.started; ending = (run_of s a.settings.until).ending; steps = n }) d) came.steps
          (subst (λ (e : Ending). TellsLife (record { started = l.started; ending = e; steps = l.steps }) d) came.ending tells);
      store = came.store;
    }
