-- One turn of a life: its machine runs on, and what stopped it is served.
use Rattle.std.proofs.Common.{◌≡◌, sym, ◌∙◌, ap, subst, ℕ, ℤ, ◌+◌, ◌≤◌, ◌<◌, true, false, List, ◌++◌, append_assoc, Option, Some, None, Result, Ok, Err, OnErr}
use Rattle.std.specs.Prelude.{slice_get}
use Rattle.ckpt_base.specs.declared.ending.Ending.TheVariants as ending
use Rattle.ckpt_base.specs.Event.{Event}
use Rattle.disk_model.specs.View.{View, Steady}
use Rattle.machine_code.specs.declared.event.Event as machine
use Rattle.machine_code.specs.declared.event.Event.TheVariants as answer
use Rattle.machine_code.specs.declared.instr.Instr.TheVariants.{Tick}
use Rattle.machine_code.specs.State.{State}
use Rattle.paged_machine.specs.RunOn.{Answers, told_by}
use Rattle.paged_machine.specs.Rest.{Shrinks, rest}
use Rattle.run_images.specs.Compiled.{CompiledView}
use Rattle.run_images.specs.Origin.{Origin}
use Rattle.run_images.specs.Source.{Source}
use Rattle.ckpt_runner.specs.LifeView.{LifeView}
use Rattle.ckpt_runner.specs.Lives.{HasServed, Lives}
use Rattle.ckpt_runner.specs.Keeps.{Kept}
use Rattle.ckpt_runner.specs.Good.{IsGood}
use Rattle.ckpt_runner.specs.RunsOver.{RunsOver}
use Rattle.ckpt_runner.specs.SoundLife.{IsSoundLife}
use Rattle.ckpt_runner.specs.Calls.{FitsDisk, FitsServing, GoesOn}
use Rattle.ckpt_runner.specs.Serving.{TurnsTo}
use Rattle.ckpt_runner.specs.Standing.{ServesStanding, KeepsStanding, KeepsImages}
use Rattle.ckpt_runner.proofs.OverServed.{over_served}
use Rattle.ckpt_runner.proofs.GoingLaws.{stores_kept}
use Rattle.ckpt_runner.proofs.GoodRuns.{run_good}
use Rattle.ckpt_runner.proofs.StoppedLaws.{going_stops, ended_stops, trapped_stops}

-- the machine of the life ran on, with what it runs over
abbrev pub RanOn : LifeView → LifeView → Type 0
RanOn a b = b ≡ record a { machine = b.machine; frames = b.frames; copies = b.copies; pages = b.pages }

abbrev pub Over : LifeView → LifeView → Option machine.Event → Type 0
Over a b e = RunsOver a.compiled.code a.machine.state a.frames a.pages e b.machine.state b.frames b.pages

module _ (a b : LifeView) (same : RanOn a b) (sound : IsSoundLife a) where
  pub ran_served : (o : Origin) (es : List Event) (e : Option machine.Event) (r : Over a b e) → Lives o es a → HasServed o (es ++ r.stores) (told_by b.machine.state.ticks e) b
  ran_served o es e r lives =
      let h = over_served o es a e b.machine.state b.frames b.pages sound.runs.fits sound.cells lives r in
      let there : HasServed o (es ++ r.stores) (told_by b.machine.state.ticks e) (record a { machine = b.machine; frames = b.frames; copies = b.copies; pages = b.pages }) =
      record { code = h.code; taking = h.taking; reaches = h.reaches; progress = h.progress; output_length = h.output_length; pages = h.pages } in
      subst (λ (l : LifeView). HasServed o (es ++ r.stores) (told_by b.machine.state.ticks e) l) (sym same) there

  pub ran_kept : (o : Origin) (es : List Event) (v : View) (e : Option machine.Event) (r : Over a b e) → Kept o es a v → Kept o (es ++ r.stores) b v
  ran_kept o es v e r k = stores_kept o es r.stores a b v r.each (ap (λ (l : LifeView). l.journal) same) (ap (λ (l : LifeView). l.writer) same) r.fewer k

  pub ran_good : (o : Origin) (es : List Event) (v : View) (e : Option machine.Event) (r : Over a b e) → Lives o es a → (s : Source) → IsGood s o es a v → IsGood s o (es ++ r.stores) b v
  ran_good o es v e r lives s g =
      let there : IsGood s o (es ++ r.stores) (record a { machine = b.machine; frames = b.frames; copies = b.copies; pages = b.pages }) v = run_good s o es a e b.machine.state b.frames b.pages v sound.runs.fits sound.cells lives r g in
      subst (λ (l : LifeView). IsGood s o (es ++ r.stores) l v) (sym same) there

  -- at each moment the store stands where it does while the answer is served
  pub ran_stands : (u w : View) (e : Option machine.Event) (f : machine.Event) → e ≡ Some f → Over a b e → ServesStanding (told_by b.machine.state.ticks (Some f)) b u w → KeepsStanding a u w
  ran_stands u w e f is r x told s o es of_source of lives g =
      let q : Over a b (Some f) = subst (Over a b) is r in
      x told s o (es ++ q.stores) of_source of (ran_served o es (Some f) q lives) (ran_good o es u (Some f) q lives s g)

  answers_here : (e : Option machine.Event) → Answers a.compiled.code b.pages b.machine.state b.frames e → Answers b.compiled.code b.pages b.machine.state b.frames e
  answers_here e h = subst (λ (c : CompiledView). Answers c.code b.pages b.machine.state b.frames e) (sym (ap (λ (l : LifeView). l.compiled) same)) h

  -- the run stands before a tick that is one too many
  pub going_turn : (o : Origin) (es : List Event) (until : ℕ) (v : View) (e : Option machine.Event) → e ≡ None → Over a b e → b.machine.state.ticks ≡ until → slice_get a.compiled.code.instrs b.machine.state.place ≡ Some Tick → Lives o es a
      → TurnsTo o es until (Some ending.Going) a v b v
  going_turn o es until v e is r at tick lives =
      let q : Over a b None = subst (Over a b) is r in
      let h = ran_served o es None q lives in
      let here : slice_get b.compiled.code.instrs b.machine.state.place ≡ Some Tick = subst (λ (c : CompiledView). slice_get c.code.instrs b.machine.state.place ≡ Some Tick) (sym (ap (λ (l : LifeView). l.compiled) same)) tick in
      (record { more = q.stores; lives = h; kept = λ told k. ran_kept o es v None q k; good = λ told s is of g. ran_good o es v None q lives s g }, going_stops o (es ++ q.stores) until b at here h)

  -- the program ended
  pub ended_turn : (o : Origin) (es : List Event) (until : ℕ) (v : View) (e : Option machine.Event) (x y : ℤ) → y ≡ x → e ≡ Some (answer.Ended x) → Over a b e → b.machine.state.ticks ≤ until → Answers a.compiled.code b.pages b.machine.state b.frames (Some (answer.Ended x)) → Lives o es a
      → TurnsTo o es until (Some (ending.Ended y)) a v b v
  ended_turn o es until v e x y back is r within at lives =
      let q : Over a b (Some (answer.Ended x)) = subst (Over a b) is r in
      let h = ran_served o es (Some (answer.Ended x)) q lives in
      subst (λ (z : ℤ). TurnsTo o es until (Some (ending.Ended z)) a v b v) (sym back)
      (record { more = q.stores; lives = h; kept = λ told k. ran_kept o es v (Some (answer.Ended x)) q k; good = λ told s is of g. ran_good o es v (Some (answer.Ended x)) q lives s g }, ended_stops o (es ++ q.stores) until b x within (answers_here (Some (answer.Ended x)) at) h)

  -- it trapped
  pub trapped_turn : (o : Origin) (es : List Event) (until : ℕ) (v : View) (e : Option machine.Event) (t : ℕ) → e ≡ Some (answer.Trapped t) → Over a b e → b.machine.state.ticks ≤ until → Answers a.compiled.code b.pages b.machine.state b.frames (Some (answer.Trapped t)) → Lives o es a
      → TurnsTo o es until (Some (ending.Trapped t)) a v b v
  trapped_turn o es until v e t is r within at lives =
      let q : Over a b (Some (answer.Trapped t)) = subst (Over a b) is r in
      let h = ran_served o es (Some (answer.Trapped t)) q lives in
      (record { more = q.stores; lives = h; kept = λ told k. ran_kept o es v (Some (answer.Trapped t)) q k; good = λ told s is of g. ran_good o es v (Some (answer.Trapped t)) q lives s g }, trapped_stops o (es ++ q.stores) until b t within (answers_here (Some (answer.Trapped t)) at) h)

  -- it asks for something, which fits the disk
  pub asked_here : (e : Option machine.Event) (f : machine.Event) → e ≡ Some f → Answers a.compiled.code b.pages b.machine.state b.frames e → Answers b.compiled.code b.pages b.machine.state b.frames (Some f)
  asked_here e f is h = answers_here (Some f) (subst (Answers a.compiled.code b.pages b.machine.state b.frames) is h)

  pub asked_fits : (v : View) (e : Option machine.Event) (f : machine.Event) → e ≡ Some f → Over a b e → FitsDisk a v → FitsServing (told_by b.machine.state.ticks (Some f)) b v
  asked_fits v e f is r fits told =
      let q : Over a b (Some f) = subst (Over a b) is r in
      let was = fits told in
      (was.0, was.1 ++ q.stores, ran_served was.0 was.1 (Some f) q was.2, ran_kept was.0 was.1 v (Some f) q was.3)

  -- and was served
  pub served_turn : (o : Origin) (es : List Event) (d : LifeView) (u w : View) (e : Option machine.Event) (f : machine.Event) → e ≡ Some f → Over a b e
      → ((o : Origin) (es : List Event) → HasServed o es (told_by b.machine.state.ticks (Some f)) b → GoesOn o es b u d w) → Lives o es a → GoesOn o es a u d w
  served_turn o es d u w e f is r serves lives =
      let q : Over a b (Some f) = subst (Over a b) is r in
      let y : GoesOn o (es ++ q.stores) b u d w = serves o (es ++ q.stores) (ran_served o es (Some f) q lives) in
      let there = append_assoc es q.stores y.more in
      record {
        more = q.stores ++ y.more;
        lives = subst (λ (l : List Event). Lives o l d) there y.lives;
        kept = λ told k. subst (λ (l : List Event). Kept o l d w) there (y.kept told (ran_kept o es u (Some f) q k));
        good = λ told s source of g. subst (λ (l : List Event). IsGood s o l d w) there (y.good told s source of (ran_good o es u (Some f) q lives s g));
      }

  pub less_turn : (until : ℕ) (t : State) (e : Option machine.Event) (f : machine.Event) → e ≡ Some f → Shrinks a.compiled.code until a.machine.state e b.machine.state
      → ((u : ℕ) (s : State) → Shrinks b.compiled.code u s (Some f) b.machine.state → rest b.compiled.code u t < rest b.compiled.code u s) → rest a.compiled.code until t < rest a.compiled.code until a.machine.state
  less_turn until t e f is shrinks less =
      let one : b.compiled ≡ a.compiled = ap (λ (l : LifeView). l.compiled) same in
      let h : Shrinks a.compiled.code until a.machine.state (Some f) b.machine.state = subst (λ (x : Option machine.Event). Shrinks a.compiled.code until a.machine.state x b.machine.state) is shrinks in
      subst (λ (c : CompiledView). rest c.code until t < rest c.code until a.machine.state) one
      (less until a.machine.state (subst (λ (c : CompiledView). Shrinks c.code until a.machine.state (Some f) b.machine.state) (sym one) h))

-- what a turn leaves as it was
pub same_turn : (a b d : LifeView) → RanOn a b
    → d ≡ record b { machine = record b.machine { state = d.machine.state }; pages = d.pages; progress = d.progress; journal = d.journal; failed = d.failed }
    → d ≡ record a { machine = d.machine; frames = d.frames; copies = d.copies; pages = d.pages; progress = d.progress; journal = d.journal; failed = d.failed }
same_turn a b d first second =
    let with_new : LifeView → LifeView = λ l. record l { machine = d.machine; frames = d.frames; copies = d.copies; pages = d.pages; progress = d.progress; journal = d.journal; failed = d.failed } in
    ap with_new second ∙ ap with_new first

-- ---- turns, one after another

pub record Turned (a : LifeView) (u : View) (b : LifeView) (v : View) (until first counted : ℕ) : Type 0 where
  pub live : (b.machine.live ≡ true) × (b.failed ≡ false) × (b.finished ≡ false)
  pub within : b.machine.state.ticks ≤ until
  pub compiled : b.compiled ≡ a.compiled
  pub writer : b.writer ≡ a.writer
  pub goes : (o : Origin) (es : List Event) → Lives o es a → GoesOn o es a u b v
  pub moments : KeepsStanding a u v
  pub later : KeepsImages u v
  pub steps : counted + a.machine.state.ticks ≡ first + b.machine.state.ticks
  pub counts : v.faults ≡ u.faults
  pub steady : Steady u v

pub on_err_always : {T E P : Type 0} (r : Result T E) → P → OnErr r P
on_err_always (Ok x) p = tt
on_err_always (Err e) p = p
