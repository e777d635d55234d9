-- What a life leaves for the next.
use Rattle.std.proofs.Common.{◌≡◌, refl, sym, ◌∙◌, ap, subst, ℕ, IsTrue, true, List, Option, Some, None, Ok}
use Rattle.disk_model.specs.Store.{Store}
use Rattle.disk_model.specs.View.{View, IsDisk}
use Rattle.disk_model.specs.MemoryDisk.{MemoryDisk, view_of, after_crash, lawful}
use Rattle.image_chain.specs.Lists.{Lists}
use Rattle.image_chain.specs.Records.{chain_in}
use Rattle.run_images.specs.Later.{AllLater, IsLater}
use Rattle.run_images.specs.Origin.{Origin}
use Rattle.run_images.specs.Source.{Source, output_of}
use Rattle.run_images.specs.Stands.{AllStand, Stands}
use Rattle.ckpt_runner.specs.declared.started.Started.{Started}
use Rattle.ckpt_runner.specs.declared.started.Started.TheVariants.{Begun, Resumed}
use Rattle.ckpt_runner.specs.Opening.{Given, Opens, ticks_at}
use Rattle.ckpt_runner.specs.Standing.{IsGivenSource}
use Rattle.one_life.specs.declared.living.Lived.{Lived}
use Rattle.command_words.specs.declared.stops.Stop.{Stop}
use Rattle.command_words.specs.declared.stops.Stop.TheVariants.{AtStep, InCall}
use Rattle.drilled_lives.specs.declared.course.Course.{Course}
use Rattle.drilled_lives.specs.declared.course.Course.TheVariants as course
use Rattle.drilled_lives.specs.declared.living.LifeFault.{LifeFault}
use Rattle.drilled_lives.specs.declared.living.LifeFault.TheVariants.{Refused, Stopped}
use Rattle.drilled_lives.specs.Courses.{IsLived, Known, Within, Unknown, StartsAfter, MeetsStop, IsCourse, WouldGoOn, EndsAsRun, start_of, latest_of, known_of, tick_of, ticks_of}
use Rattle.drilled_lives.specs.Between.{IsSpacedBy, HasImages, HasOneChain, HoldsStart, HoldsKnown, IsBetween}
use Rattle.drilled_lives.specs.Going.{ComesAsRun, EndsWith, LosesNone}
use Rattle.drilled_lives.specs.Living.{LivesTo, HasOpened, cut_course}
use Rattle.drilled_lives.specs.Next.{IsNext, IsCrashedBy, Follows}
use Rattle.drilled_lives.proofs.StartLaws.{starts_after, start_held, start_kept}
use Rattle.drilled_lives.proofs.CrashLaws.{crash_is_lasting}

some_same : {X : Type 0} (x y : X) → Some x ≡ Some y → x ≡ y
some_same x y e = cc

none_some : {X : Type 0} (x : X) → None ≡ Some x → ⊥
none_some x e = cc

not_lived : (x : Started) (l : Lived) → course.Left x ≡ course.Lived l → ⊥
not_lived x l e = cc

not_opening : (l : Lived) → course.Opening ≡ course.Lived l → ⊥
not_opening l e = cc

one_lived : (l k : Lived) → course.Lived l ≡ course.Lived k → l ≡ k
one_lived l k e = cc

-- the latest start is that of the life
latest_is : (latest started : Started) (c : Course) → start_of c ≡ Some started → started ≡ latest_of latest c
latest_is latest started course.Opening e = absurd (none_some started e)
latest_is latest started (course.Left x) e = sym (some_same x started e)
latest_is latest started (course.Lived l) e = sym (some_same l.started started e)

one_chain : (s : Source) (every n : ℕ) (v : View) → HasImages s every n v → HasOneChain v
one_chain s every n v images c left = images.1.2 c left ∙ sym images.1.1

-- ---- a crash

-- what a crash leaves is one store, which might have been left
pub record IsCrash (w v : View) : Type 0 where
  pub left : w.may_leave v.seen
  pub only : (c : Store) → v.may_leave c → c ≡ v.seen

pub is_crash : (pick : ℕ) (m n : MemoryDisk) → n ≡ after_crash pick m → (view_of m).may_leave (view_of n).seen → IsCrash (view_of m) (view_of n)
is_crash pick m n same found = record {
  left = found;
  only = subst (λ (x : MemoryDisk). (c : Store) → (view_of x).may_leave c → c ≡ (view_of x).seen) (sym same) (crash_is_lasting pick m);
}

module _ (w v : View) (crash : IsCrash w v) where
  crash_stands : (s : Source) → AllStand s w → AllStand s v
  crash_stands s all c left = subst (Stands s) (sym (crash.only c left)) (all v.seen crash.left)

  crash_later : (j : ℕ) → AllLater j w → AllLater j v
  crash_later j all c left = subst (IsLater j) (sym (crash.only c left)) (all v.seen crash.left)

  crash_chain : HasOneChain v
  crash_chain c left = ap chain_in (crash.only c left)

  crash_start : (started : Started) → HoldsStart started w → HoldsStart started v
  crash_start Begun held = tt
  crash_start (Resumed image step) held = crash_later image held

  crash_images : (s : Source) (every n : ℕ) → HasImages s every n w → HasImages s every n v
  crash_images s every n images =
      let now : Lists images.1.0 images.0 v.seen = images.1.2 v.seen crash.left in
      (images.0, (images.1.0, now, λ c left. subst (Lists images.1.0 images.0) (sym (crash.only c left)) now), images.2)

-- ---- the next store

module _ (g : Given) (s : Source) (spaced : IsSpacedBy s g.every) (latest : Started) (known : Known) (u w : View) (told : IsTrue u.tells) (disk : IsDisk u) (between : IsBetween s g.every latest known u) (stand : AllStand s w) (keeps : LosesNone u w) where
  -- a life that started on the store
  module _ (started : Started) (o : Origin) (opens : Opens g u.seen started o) where
    starts : (c : Course) → start_of c ≡ Some started → (x : Started) → start_of c ≡ Some x → StartsAfter s g.every g.until latest known x
    starts c start x e = subst (StartsAfter s g.every g.until latest known) (some_same started x (sym start ∙ e)) (starts_after g s latest known u started o spaced disk between opens)

    held : HoldsStart started w
    held = start_kept started u w told keeps (start_held g u started o between.one_chain opens)

    -- it lived to its end
    lived_next : (stop : Option Stop) (l : Lived) → l.started ≡ started → MeetsStop s g.until stop (course.Lived l) → EndsWith s g.every g.until l w → IsNext s g.every g.until latest known stop (course.Lived l) w
    lived_next stop l start stopped ends = record {
      as_course = record { starts = starts (course.Lived l) (ap (λ (x : Started). Some x) start); stopped = stopped };
      between = record { stand = stand; one_chain = one_chain s g.every g.until w ends.images; latest_held = subst (λ (x : Started). HoldsStart x w) (sym start) held; known_held = ends.images };
      output = λ k e. ends.output;
    }

    -- a stop at a step left it, and the disk crashed
    step_next : (n : ℕ) (v : View) → IsCrash w v → WouldGoOn s g.until (tick_of n started) → HasImages s g.every (tick_of n started) w → IsNext s g.every g.until latest known (Some (AtStep n)) (course.Left started) v
    step_next n v crash would images = record {
      as_course = record { starts = starts (course.Left started) refl; stopped = would };
      between = record { stand = crash_stands w v crash s stand; one_chain = crash_chain w v crash; latest_held = crash_start w v crash started held; known_held = crash_images w v crash s g.every (tick_of n started) images };
      output = λ l e. absurd (not_lived started l e);
    }

    -- a stop inside a call left it, and the disk crashed
    call_next : (number pick : ℕ) (v : View) → IsCrash w v → IsNext s g.every g.until latest known (Some (InCall number pick)) (course.Left started) v
    call_next number pick v crash = record {
      as_course = record { starts = starts (course.Left started) refl; stopped = tt };
      between = record { stand = crash_stands w v crash s stand; one_chain = crash_chain w v crash; latest_held = crash_start w v crash started held; known_held = tt };
      output = λ l e. absurd (not_lived started l e);
    }

  -- a stop inside a call came while it opened
  opening_next : (number pick : ℕ) (v : View) → IsCrash w v → IsNext s g.every g.until latest known (Some (InCall number pick)) course.Opening v
  opening_next number pick v crash = record {
    as_course = record { starts = λ x e. absurd (none_some x e); stopped = tt };
    between = record { stand = crash_stands w v crash s stand; one_chain = crash_chain w v crash; latest_held = crash_start w v crash latest (start_kept latest u w told keeps between.latest_held); known_held = tt };
    output = λ l e. absurd (not_opening l e);
  }

  -- ---- by what the life came to

  -- there was no stop at a step
  pub out_next : (c : Course) → LivesTo g s None u c w → IsNext s g.every g.until latest known None c w
  out_next course.Opening to = absurd to.comes
  out_next (course.Left x) to = absurd to.comes
  out_next (course.Lived l) to = lived_next to.started to.origin to.opens None l (some_same l.started to.started to.start) to.comes.as_run to.comes

  pub call_not_reached : (number pick : ℕ) (c : Course) → LivesTo g s None u c w → IsNext s g.every g.until latest known (Some (InCall number pick)) c w
  call_not_reached number pick course.Opening to = absurd to.comes
  call_not_reached number pick (course.Left x) to = absurd to.comes
  call_not_reached number pick (course.Lived l) to = lived_next to.started to.origin to.opens (Some (InCall number pick)) l (some_same l.started to.started to.start) to.comes.as_run to.comes

  pub cut_next : (number pick : ℕ) (fault : LifeFault) (v : View) → HasOpened g u.seen fault → IsCrash w v → IsNext s g.every g.until latest known (Some (InCall number pick)) (cut_course fault) v
  cut_next number pick (Refused fault) v opened crash = opening_next number pick v crash
  cut_next number pick (Stopped started ticks) v opened crash = call_next started opened.0 opened.1 number pick v crash

  -- there was a stop at a step, and it did not come to it
  pub step_not_reached : (n : ℕ) (c : Course) → ((x : Started) → c ≡ course.Left x → ⊥) → LivesTo g s (Some n) u c w → IsNext s g.every g.until latest known (Some (AtStep n)) c w
  step_not_reached n course.Opening not to = absurd to.comes
  step_not_reached n (course.Left x) not to = absurd (not x refl)
  step_not_reached n (course.Lived l) not to =
      let start : l.started ≡ to.started = some_same l.started to.started to.start in
      let same : tick_of n to.started ≡ tick_of n l.started = ap (tick_of n) (sym start) in
      lived_next to.started to.origin to.opens (Some (AtStep n)) l start ((λ would. to.comes.0 (subst (λ t. WouldGoOn s g.until t) (sym same) would)), to.comes.1.as_run) to.comes.1

  pub step_reached : (n : ℕ) (x : Started) (v : View) → LivesTo g s (Some n) u (course.Left x) w → IsCrash w v → IsNext s g.every g.until latest known (Some (AtStep n)) (course.Left x) v
  step_reached n x v to crash =
      let start : to.started ≡ x = sym (some_same x to.started to.start) in
      step_next x to.origin (subst (λ (y : Started). Opens g u.seen y to.origin) start to.opens) n v crash
      (subst (λ (y : Started). WouldGoOn s g.until (tick_of n y)) start to.comes.0) (subst (λ (y : Started). HasImages s g.every (tick_of n y) w) start to.comes.1)

-- ---- by what the calls on the disk in memory came to

fused : (n : ℕ) (m k : MemoryDisk) → k ≡ record m { fuse = n } → (s : Source) (every : ℕ) (latest : Started) (known : Known) → IsBetween s every latest known (view_of m) → IsBetween s every latest known (view_of k)
fused n m k same s every latest known between = subst (λ (x : MemoryDisk). IsBetween s every latest known (view_of x)) (sym same) between

abbrev pub Lives_to : Given → Option ℕ → View → Course → View → Type 0
Lives_to g step u c w = (s : Source) → IsGivenSource g s → IsSpacedBy s g.every → AllStand s u → LivesTo g s step u c w

abbrev pub Stays_standing : Given → View → View → Type 0
Stays_standing g u w = (s : Source) → IsGivenSource g s → AllStand s u → AllStand s w

module _ (g : Given) (n : ℕ) (m k : MemoryDisk) (w : View) (same : k ≡ record m { fuse = n }) (stays : Stays_standing g (view_of k) w) (keeps : LosesNone (view_of k) w) where
  pub out_follows : (c : Course) → Lives_to g None (view_of k) c w → Follows g None (view_of m) c w
  out_follows c lives s given spaced latest known between =
      let b = fused n m k same s g.every latest known between in
      out_next g s spaced latest known (view_of k) w refl (lawful k) b (stays s given b.stand) keeps c (lives s given spaced b.stand)

  pub call_follows : (number pick : ℕ) (c : Course) → Lives_to g None (view_of k) c w → Follows g (Some (InCall number pick)) (view_of m) c w
  call_follows number pick c lives s given spaced latest known between =
      let b = fused n m k same s g.every latest known between in
      call_not_reached g s spaced latest known (view_of k) w refl (lawful k) b (stays s given b.stand) keeps number pick c (lives s given spaced b.stand)

  pub cut_follows : (number pick : ℕ) (fault : LifeFault) (v : View) → HasOpened g (view_of k).seen fault → IsCrash w v → Follows g (Some (InCall number pick)) (view_of m) (cut_course fault) v
  cut_follows number pick fault v opened crash s given spaced latest known between =
      let b = fused n m k same s g.every latest known between in
      cut_next g s spaced latest known (view_of k) w refl (lawful k) b (stays s given b.stand) keeps number pick fault v opened crash

  pub step_follows : (step : ℕ) (c : Course) → ((x : Started) → c ≡ course.Left x → ⊥) → Lives_to g (Some step) (view_of k) c w → Follows g (Some (AtStep step)) (view_of m) c w
  step_follows step c not lives s given spaced latest known between =
      let b = fused n m k same s g.every latest known between in
      step_not_reached g s spaced latest known (view_of k) w refl (lawful k) b (stays s given b.stand) keeps step c not (lives s given spaced b.stand)

  pub left_follows : (step : ℕ) (x : Started) (v : View) → Lives_to g (Some step) (view_of k) (course.Left x) w → IsCrash w v → Follows g (Some (AtStep step)) (view_of m) (course.Left x) v
  left_follows step x v lives crash s given spaced latest known between =
      let b = fused n m k same s g.every latest known between in
      step_reached g s spaced latest known (view_of k) w refl (lawful k) b (stays s given b.stand) keeps step x v (lives s given spaced b.stand) crash

-- ---- the crash

of_fault : (number pick : ℕ) (fault : LifeFault) (before m : MemoryDisk) → IsTrue before.blown → m ≡ after_crash pick before → IsCrashedBy (InCall number pick) (cut_course fault) m
of_fault number pick (Refused fault) before m blown crash = (before, blown, crash)
of_fault number pick (Stopped started ticks) before m blown crash = (before, blown, crash)

pub cut_crashed : (number pick : ℕ) (fault : LifeFault) (c : Course) (before m : MemoryDisk) → c ≡ cut_course fault → IsTrue before.blown → m ≡ after_crash pick before → IsCrashedBy (InCall number pick) c m
cut_crashed number pick fault c before m same blown crash = subst (λ (x : Course). IsCrashedBy (InCall number pick) x m) (sym same) (of_fault number pick fault before m blown crash)

pub lived_crashed : (number pick : ℕ) (c : Course) (m : MemoryDisk) → IsLived c → IsCrashedBy (InCall number pick) c m
lived_crashed number pick course.Opening m lived = absurd lived
lived_crashed number pick (course.Left x) m lived = absurd lived
lived_crashed number pick (course.Lived l) m lived = tt

pub not_left_crashed : (n : ℕ) (c : Course) (m : MemoryDisk) → ((x : Started) → c ≡ course.Left x → ⊥) → IsCrashedBy (AtStep n) c m
not_left_crashed n course.Opening m not = tt
not_left_crashed n (course.Left x) m not = absurd (not x refl)
not_left_crashed n (course.Lived l) m not = tt
