-- What a crash may leave while a life passes a checkpoint, call by call.
use Rattle.std.proofs.Common.{◌≡◌, refl, sym, ◌∙◌, ap, subst, inl, inr, ⊎_elim, ℕ, Bool, true, false, cond, List, [], ◌∷◌, IsTrue, Some, None}
use Rattle.std.specs.Prelude.{is_some, slice_index}
use Rattle.ckpt_base.specs.Event.{Event, Checkpoint}
use Rattle.cell_sets.specs.declared.runs.Run.{Run}
use Rattle.cell_sets.specs.Runs.{in_runs}
use Rattle.disk_model.specs.Store.{Store}
use Rattle.disk_model.specs.View.{View, IsDisk}
use Rattle.disk_model.specs.Moments.{Among, LeavesOnly}
use Rattle.disk_model.proofs.Calls.{still, joined, weaken}
use Rattle.image_format.specs.declared.fields.Fields.{Fields}
use Rattle.image_format.specs.Image.{Image, word_in_runs}
use Rattle.image_format.specs.Written.{image_of, filled, listed_word}
use Rattle.image_chain.specs.ChainView.{ChainView}
use Rattle.image_chain.specs.Lists.{IsAppended}
use Rattle.image_chain.proofs.LoopLaws.{rest_lists}
use Rattle.output_file.specs.OnDisk.{IsOnDisk, IsBehind}
use Rattle.life_journal.specs.JournalView.{JournalView}
use Rattle.life_journal.specs.Holding.{HoldsJournal}
use Rattle.life_journal.specs.Joining.{StayOrJoin, MayBeJoined}
use Rattle.run_images.specs.Since.{is_due}
use Rattle.run_images.specs.Images.{TakenImage, taken_at}
use Rattle.run_images.specs.JoinedList.{IsOf}
use Rattle.run_images.specs.Origin.{Origin}
use Rattle.ckpt_runner.specs.LifeView.{LifeView}
use Rattle.ckpt_runner.specs.Lives.{since_now, HasServed}
use Rattle.ckpt_runner.specs.Keeps.{bytes_now}
use Rattle.ckpt_runner.specs.Passing.{IsReady, MayBeReady, IsTaken, IsPassing, LeavesOrReady, LeavesReady, PassingLeaves}
use Rattle.ckpt_runner.proofs.TakeLaws.{IsDueNow, due_now}

-- ---- making the journal ready

abbrev pub Flushes : JournalView → JournalView → View → View → Type 0
Flushes j k u v = IsTrue u.tells → (rs : List Image) (w : List ℕ) → HoldsJournal j u rs w → HoldsJournal k v rs w × IsOnDisk w v

abbrev pub Joins : JournalView → View → View → Type 0
Joins k v x = IsTrue v.tells → (rs : List Image) (w : List ℕ) → HoldsJournal k v rs w → LeavesOnly v x (Among v.may_leave (MayBeJoined k.chain.current rs))

pub flush_moments : (j : JournalView) (rs : List Image) (w : List ℕ) (u v : View) → LeavesOnly u v (Among u.may_leave (IsBehind j.output.lasting)) → LeavesOnly u v (Among u.may_leave (MayBeReady j rs w))
flush_moments j rs w u v leaves = weaken u v (Among u.may_leave (MayBeReady j rs w)) (Among u.may_leave (IsBehind j.output.lasting)) leaves (λ s from. (from.0, from.1, inl from.2))

ready_step : (j k : JournalView) (rs : List Image) (w : List ℕ) (u v : View) → k.chain ≡ j.chain → IsTrue u.tells → IsOnDisk w v → LeavesOnly u v (Among u.may_leave (IsBehind j.output.lasting))
    → (s : Store) → Among v.may_leave (MayBeJoined k.chain.current rs) s → Among u.may_leave (IsReady j rs w) s
ready_step j k rs w u v chain told whole leaves s from =
    let first = leaves.now told from.0 from.1 in
    (first.0, first.1, (from.0, first.2, whole.left from.0 from.1, subst (λ (c : ChainView). MayBeJoined c.current rs from.0 s) chain from.2))

pub ready_moments : (j k : JournalView) (u v x : View) → k.chain ≡ j.chain → v.tells ≡ u.tells → LeavesOnly u v (Among u.may_leave (IsBehind j.output.lasting)) → Flushes j k u v → Joins k v x
    → IsTrue u.tells → (rs : List Image) (w : List ℕ) → HoldsJournal j u rs w → LeavesOnly u x (Among u.may_leave (MayBeReady j rs w))
ready_moments j k u v x chain same leaves flushed joins told rs w h =
    let now = flushed told rs w h in
    joined u v x (Among u.may_leave (MayBeReady j rs w)) (Among v.may_leave (MayBeJoined k.chain.current rs)) (λ _. told) (flush_moments j rs w u v leaves) (joins (subst IsTrue (sym same) told) rs w now.0)
    (λ _ s from. let is = ready_step j k rs w u v chain told now.1 leaves s from in (is.0, is.1, inr is.2))

pub ready_leaves : (j k : JournalView) (u v x : View) → k.chain ≡ j.chain → v.tells ≡ u.tells → LeavesOnly u v (Among u.may_leave (IsBehind j.output.lasting)) → Flushes j k u v → Joins k v x
    → IsTrue u.tells → (rs : List Image) (w : List ℕ) → HoldsJournal j u rs w → (c : Store) → x.may_leave c → Among u.may_leave (IsReady j rs w) c
ready_leaves j k u v x chain same leaves flushed joins told rs w h c left =
    let now = flushed told rs w h in
    let here = subst IsTrue (sym same) told in
    ready_step j k rs w u v chain told now.1 leaves c ((joins here rs w now.0).now here c left)

-- ---- the record of the image

some_word : (b : Bool) (w : ℕ) → is_some (cond b (Some w) None) ≡ true → cond b (Some w) None ≡ Some w
some_word true w e = refl
some_word false w e = absurd (let z : false ≡ true = e in cc)

pub is_taken : (f : Fields) (runs : List Run) (memory : List ℕ) (image : TakenImage) → IsOf (image_of f runs memory) image → ((c : ℕ) → word_in_runs (filled memory runs) c ≡ listed_word runs memory c) → IsTaken memory image (image_of f runs memory)
is_taken f runs memory image is words = record {
  is = is;
  words = λ c e. words c ∙ some_word (in_runs runs c) (slice_index memory c) (ap is_some (sym (words c)) ∙ e);
}

-- the records that the journal then holds
abbrev pub ReadyHolds : JournalView → JournalView → View → View → Type 0
ReadyHolds j k u v = IsTrue u.tells → (rs : List Image) (w : List ℕ) → HoldsJournal j u rs w → (qs : List Image) × StayOrJoin rs qs × HoldsJournal k v qs w

before_record : (o : Origin) (es : List Event) (node tick : ℕ) (life : LifeView) (rs : List Image) (u : View) → is_due o.taking.every (since_now o es) tick ≡ true → (s : Store)
    → Among u.may_leave (MayBeReady life.journal rs (bytes_now o es)) s → Among u.may_leave (IsPassing o es node tick life rs) s
before_record o es node tick life rs u due s from = (from.0, from.1, ⊎_elim (λ behind. inl behind) (λ ready. inr (due, inl ready)) from.2)

pub prepared_moments : (node tick : ℕ) (life : LifeView) (u v : View) → IsDueNow life tick → LeavesOrReady life.journal u v → PassingLeaves node tick life u v
prepared_moments node tick life u v due moments told o es rs h holds =
    let now = due_now o es (Checkpoint node tick ∷ []) tick life h due in
    weaken u v (Among u.may_leave (IsPassing o es node tick life rs)) (Among u.may_leave (MayBeReady life.journal rs (bytes_now o es))) (moments told rs (bytes_now o es) holds) (before_record o es node tick life rs u now)

pub imaged_moments : (node tick : ℕ) (life : LifeView) (k : JournalView) (u v x : View) (r : Image) → v.tells ≡ u.tells → IsDueNow life tick → k.chain.current.every ≡ life.journal.chain.current.every
    → LeavesOrReady life.journal u v → LeavesReady life.journal u v → ReadyHolds life.journal k u v
    → (IsTrue v.tells → (qs : List Image) (w : List ℕ) → HoldsJournal k v qs w → LeavesOnly v x (Among v.may_leave (IsAppended k.chain.current qs r)))
    → ((o : Origin) (es : List Event) → HasServed o es (Checkpoint node tick ∷ []) life → IsTaken life.frames (taken_at o.taking node tick (since_now o es)) r) → PassingLeaves node tick life u x
imaged_moments node tick life k u v x r same due every moments leaves ready saves is told o es rs h holds =
    let w = bytes_now o es in
    let now = due_now o es (Checkpoint node tick ∷ []) tick life h due in
    let m = ready told rs w holds in
    let rest = m.2.rests.1 in
    joined u v x (Among u.may_leave (IsPassing o es node tick life rs)) (Among v.may_leave (IsAppended k.chain.current m.0 r)) (λ _. told) (prepared_moments node tick life u v due moments told o es rs h holds)
    (saves (subst IsTrue (sym same) told) m.0 w m.2)
    (λ _ s from.
    let before = leaves told rs w holds from.0 from.1 in (
      before.0,
      before.1,
      inr (
        now,
        inr (record {
          before = from.0;
          ready = before.2;
          chain = k.chain.current;
          file = rest.1.alone.image_file;
          every = every;
          records = m.0;
          stay = m.1;
          lists = rest_lists k.chain.current v m.0 rest.0 rest.1 from.0 from.1;
          taken = r;
          is = is o es h;
          appended = from.2;
        }),
      ),
    ))

-- ---- no image

pub passed_moments : (node tick : ℕ) (life : LifeView) (u : View) → (IsTrue u.tells → IsDisk u) → (IsTrue u.tells_past → IsTrue u.tells) → PassingLeaves node tick life u u
passed_moments node tick life u lawful both told o es rs h holds =
    still u (Among u.may_leave (IsPassing o es node tick life rs)) lawful both (λ _ c left. (c, left, inl (record { output = refl; one = refl; two = refl })))
