-- A life that was opened, driven and finished.
use Rattle.std.proofs.Common.{◌≡◌, refl, sym, subst, ℕ, true, IsTrue, List, []}
use Rattle.std.proofs.lemmas.Bool.{false≢true}
use Rattle.ckpt_base.specs.Event.{Event}
use Rattle.ckpt_base.specs.declared.ending.Ending.{Ending}
use Rattle.disk_model.specs.Store.{Store}
use Rattle.disk_model.specs.View.{View, IsDisk}
use Rattle.output_file.specs.OnDisk.{IsOnDisk}
use Rattle.image_chain.proofs.LoopLaws.{rest_lists}
use Rattle.machine_code.specs.Run.{CodeRun}
use Rattle.run_images.specs.Origin.{Origin, origin_world, ticks_ahead}
use Rattle.ckpt_runner.specs.LifeView.{LifeView, Writer, Idle, Waiting, Writing, is_idle}
use Rattle.ckpt_runner.specs.Lives.{Lives, cells_now}
use Rattle.ckpt_runner.specs.Keeps.{Kept, bytes_now}
use Rattle.ckpt_runner.specs.Calls.{FitsDisk, GoesTo}
use Rattle.ckpt_runner.specs.Opening.{Given, Opens, StartsAt}
use Rattle.ckpt_runner.specs.declared.started.Started.{Started}
use Rattle.ckpt_runner.proofs.KeptLaws.{kept_rests}
use Rattle.one_life.specs.declared.living.Lived.{Lived}
use Rattle.one_life.specs.Ends.{AreLasting, LivesOn, Ran, RanOn}

abbrev pub Starts : Given → LifeView → Type 0
Starts g a = (o : Origin) × StartsAt g a.started o × Lives o [] a

abbrev pub Starts_on : Given → Store → LifeView → View → Type 0
Starts_on g seen a v = (o : Origin) × Opens g seen a.started o × Lives o [] a × Kept o [] a v

-- what a life that is finished makes of what belongs on its disk
abbrev pub Finishes : LifeView → View → LifeView → View → Type 0
Finishes b v c w = IsTrue v.tells → (o : Origin) (es : List Event) → Lives o es b → Kept o es b v → Kept o es c w × IsOnDisk (bytes_now o es) w

-- a life that was opened on a disk fits it
pub opened_fits : (g : Given) (seen : Store) (a : LifeView) (old v : View) → v.tells ≡ old.tells → (IsTrue old.tells → Starts_on g seen a v) → FitsDisk a v
opened_fits g seen a old v same opens told = let s = opens (subst IsTrue same told) in (s.0, [], s.2, s.3)

idle_is : (w : Writer) → is_idle w ≡ true → w ≡ Idle
idle_is Idle h = refl
idle_is (Waiting f) h = absurd (false≢true h)
idle_is (Writing bytes done) h = absurd (false≢true h)

-- what a life keeps at rest is lasting
pub rest_lasts : (o : Origin) (es : List Event) (c : LifeView) (w : View) → IsDisk w → is_idle c.writer ≡ true → Kept o es c w → IsOnDisk (bytes_now o es) w → AreLasting o es w
rest_lasts o es c w disk idle kept output =
    let r = kept_rests o es c w (idle_is c.writer idle) kept in
    let chain = c.journal.chain.current in
    let rest = r.holds.rests.1 in
    record {
      output = output;
      records = r.records;
      kept = (chain, rest_lists chain w r.records rest.0 rest.1 w.seen disk.seen_stays, rest_lists chain w r.records rest.0 rest.1);
      images = r.images;
    }

-- a life that was driven to a bound and finished has lived on
pub drive_lives : (o : Origin) (until steps : ℕ) (started : Started) (e : Ending) (a b c : LifeView) (u v w : View) → v.tells ≡ u.tells → (IsTrue u.tells → IsDisk w) → steps ≡ b.machine.state.ticks
    → GoesTo o [] until e a u b v → Finishes b v c w → is_idle c.writer ≡ true → LivesOn o until a u (record { started = started; ending = e; steps = steps }) w
drive_lives o until steps started e a b c u v w same disk count way finishes idle =
    let es = way.on.more in
    record {
      events = es;
      runs = (cells_now o b, subst (λ (n : ℕ). CodeRun o.code (origin_world o []) (ticks_ahead o until) (record { events = es; memory = cells_now o b; ending = e; ticks = n })) (sym count) way.stops);
      lasting = λ told kept.
          let done = finishes (subst IsTrue (sym same) told) o es way.on.lives (way.on.kept told kept) in
          rest_lasts o es c w (disk told) idle done.0 done.1;
    }

pub life_ran : (g : Given) (a : LifeView) (l : Lived) (u w : View) → l.started ≡ a.started → ((o : Origin) → Lives o [] a → LivesOn o g.until a u l w) → Starts g a → Ran g l
life_ran g a l u w same goes starts =
    let way = goes starts.0 starts.2 in
    record { origin = starts.0; starts = subst (λ (x : Started). StartsAt g x starts.0) (sym same) starts.1; events = way.events; runs = way.runs }

pub life_ran_on : (g : Given) (seen : Store) (a : LifeView) (l : Lived) (u w : View) → l.started ≡ a.started → ((o : Origin) → Lives o [] a → LivesOn o g.until a u l w) → IsTrue u.tells → Starts_on g seen a u → RanOn g seen l w
life_ran_on g seen a l u w same goes told starts =
    let way = goes starts.0 starts.2 in
    record {
      origin = starts.0;
      opens = subst (λ (x : Started). Opens g seen x starts.0) (sym same) starts.1;
      events = way.events;
      runs = way.runs;
      lasting = way.lasting told starts.3;
    }
