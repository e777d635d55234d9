-- Turns of a life, one after another.
use Rattle.std.proofs.Common.{◌≡◌, refl, sym, ◌∙◌, ap, subst, ℕ, Bool, true, false, IsTrue, List, [], ◌∷◌, ◌++◌, length, drop, append_assoc, append-nil, Some}
use Rattle.std.specs.List.{AllByRecursion}
use Rattle.ckpt_base.specs.declared.ending.Ending.{Ending}
use Rattle.ckpt_base.specs.Event.{Event, Excluded}
use Rattle.ckpt_base.specs.Run.{output}
use Rattle.dirty_pages.specs.Pages.{PageStates, in_snapshot}
use Rattle.disk_model.specs.View.{View}
use Rattle.machine_code.specs.declared.event.Event as machine
use Rattle.machine_code.specs.Shown.{wrote}
use Rattle.paged_machine.specs.RunOn.{told_by}
use Rattle.image_format.specs.Image.{Image}
use Rattle.image_chain.specs.Append.{IsDue, step_after}
use Rattle.image_chain.specs.Lists.{Rests}
use Rattle.coalesce.specs.Join.{IsContent}
use Rattle.output_file.specs.OnDisk.{IsOutputOn}
use Rattle.life_journal.specs.JournalView.{JournalView}
use Rattle.run_images.specs.Since.{Since}
use Rattle.run_images.specs.Images.{Taking, TakenImage, images_from}
use Rattle.run_images.specs.JoinedList.{IsJoinedList}
use Rattle.run_images.specs.Origin.{Origin}
use Rattle.ckpt_runner.specs.LifeView.{LifeView, Writer, Idle, Waiting, Writing}
use Rattle.ckpt_runner.specs.Lives.{since_now, HasServed, Lives, StopsAt}
use Rattle.ckpt_runner.specs.Keeps.{Kept, NoneSnapped, WriterStands, bytes_now, images_now}
use Rattle.ckpt_runner.specs.Good.{IsGood}
use Rattle.ckpt_runner.specs.RunsOver.{IsStore}
use Rattle.ckpt_runner.specs.Calls.{FitsDisk, GoesOn, GoesTo, Serves}
use Rattle.ckpt_runner.specs.Serving.{TurnsTo, next_taken}
use Rattle.ckpt_runner.proofs.KeptLaws.{bytes_more, images_then}
use Rattle.ckpt_runner.proofs.GoodRuns.{quiet_good}

-- ---- moments, one after another

pub on_first : (o : Origin) (es : List Event) (a : LifeView) (u : View) → Lives o es a → GoesOn o es a u a u
on_first o es a u lives = record {
  more = [];
  lives = subst (λ (l : List Event). Lives o l a) (sym (append-nil es)) lives;
  kept = λ told k. subst (λ (l : List Event). Kept o l a u) (sym (append-nil es)) k;
  good = λ told s is of k. subst (λ (l : List Event). IsGood s o l a u) (sym (append-nil es)) k;
}

pub on_then : (o : Origin) (es : List Event) (a b c : LifeView) (u v w : View) → v.tells ≡ u.tells → (x : GoesOn o es a u b v) → GoesOn o (es ++ x.more) b v c w → GoesOn o es a u c w
on_then o es a b c u v w tells x y =
    let e = append_assoc es x.more y.more in
    record {
      more = x.more ++ y.more;
      lives = subst (λ (l : List Event). Lives o l c) e y.lives;
      kept = λ told k. subst (λ (l : List Event). Kept o l c w) e (y.kept (subst IsTrue (sym tells) told) (x.kept told k));
      good = λ told s is of k. subst (λ (l : List Event). IsGood s o l c w) e (y.good (subst IsTrue (sym tells) told) s is of (x.good told s is of k));
    }

-- a turn behind those before
pub turns_then : (o : Origin) (es : List Event) (until : ℕ) (e : Ending) (a b c : LifeView) (u v w : View) → v.tells ≡ u.tells → (x : GoesOn o es a u b v) → TurnsTo o (es ++ x.more) until (Some e) b v c w → GoesTo o es until e a u c w
unfolding on_then
turns_then o es until e a b c u v w tells x y = record {
  on = on_then o es a b c u v w tells x y.0;
  stops = subst (λ (l : List Event). StopsAt o l until e c) (append_assoc es x.more y.0.more) y.1;
}

pub fits_on : (a b : LifeView) (u v : View) → v.tells ≡ u.tells → FitsDisk a u → ((o : Origin) (es : List Event) → Lives o es a → GoesOn o es a u b v) → FitsDisk b v
fits_on a b u v tells fits goes told =
    let was = fits (subst IsTrue tells told) in
    let on = goes was.0 was.1 was.2 in
    (was.0, was.1 ++ on.more, on.lives, on.kept (subst IsTrue tells told) was.3)

-- ---- events that write nothing and take no image

-- in the snapshot of the second life is no page that was not in that of the first
abbrev pub HasFewer : LifeView → LifeView → Type 0
HasFewer a b = (page : ℕ) → in_snapshot b.pages page ≡ true → in_snapshot a.pages page ≡ true

not_set : (b : Bool) → (b ≡ true → false ≡ true) → b ≡ false
not_set true h = sym (h refl)
not_set false h = refl

none_on : (a b : LifeView) → HasFewer a b → NoneSnapped a.pages → NoneSnapped b.pages
none_on a b fewer none p = not_set (in_snapshot b.pages p) (λ e. sym (none p) ∙ fewer p e)

pub same_pages : (a b : LifeView) → b.pages ≡ a.pages → HasFewer a b
same_pages a b same page e = ap (λ (p : PageStates). in_snapshot p page) (sym same) ∙ e

writer_on : (a b : LifeView) (v : View) (old new : List Image) (w : Writer) → b.journal ≡ a.journal → HasFewer a b → WriterStands a v old new w → WriterStands b v old new w
writer_on a b v old new Idle same fewer h = (h.0, subst (λ (j : JournalView). Rests j.chain v old) (sym same) h.1, none_on a b fewer h.2)
writer_on a b v old new (Waiting f) same fewer h = (subst (λ (j : JournalView). Rests j.chain v old) (sym same) h.0, h.1)
writer_on a b v old new (Writing bytes done) same fewer h = (
  h.0,
  subst (λ (j : JournalView). IsDue j.chain.current v old bytes (step_after done (length bytes))) (sym same) h.1,
  subst (λ (j : JournalView). j.chain.due ≡ step_after done (length bytes)) (sym same) h.2,
  none_on a b fewer h.3,
)

-- the disk holds what belongs there also behind events that write nothing and take no image
pub kept_on : (o : Origin) (es fs : List Event) (a b : LifeView) (v : View) → b.journal ≡ a.journal → b.writer ≡ a.writer → HasFewer a b → output fs ≡ [] → images_from o.taking fs (since_now o es) ≡ []
    → Kept o es a v → Kept o (es ++ fs) b v
kept_on o es fs a b v journal writer fewer silent none k =
    let bytes : bytes_now o es ≡ bytes_now o (es ++ fs) = sym (bytes_more o es fs ∙ ap (λ (l : List ℕ). bytes_now o es ++ l) silent ∙ append-nil (bytes_now o es)) in
    let images : images_now o es ≡ images_now o (es ++ fs) = sym (images_then o es fs ∙ ap (λ (l : List TakenImage). images_now o es ++ l) none ∙ append-nil (images_now o es)) in
    record {
      old = k.old;
      new = k.new;
      keeps = record {
        writer = subst (λ (w : Writer). WriterStands b v k.old k.new w) (sym writer) (writer_on a b v k.old k.new a.writer journal fewer k.keeps.writer);
        content = subst (λ (j : JournalView). IsContent j.kept k.old) (sym journal) k.keeps.content;
        output = subst (λ (j : JournalView). IsOutputOn j.output v (bytes_now o (es ++ fs))) (sym journal) (subst (λ (l : List ℕ). IsOutputOn a.journal.output v l) bytes k.keeps.output);
        images = λ before was. subst (λ (l : List TakenImage). IsJoinedList k.new (before ++ l)) images (k.keeps.images before was);
      };
    }

stores_write_none : (es : List Event) → AllByRecursion IsStore es → output es ≡ []
stores_write_none [] h = refl
stores_write_none (e ∷ es) h = ap (λ (x : Event). output (x ∷ es)) h.0.1 ∙ stores_write_none es h.1

stores_take_none : (T : Taking) (es : List Event) (s : Since) → AllByRecursion IsStore es → images_from T es s ≡ []
stores_take_none T [] s h = refl
stores_take_none T (e ∷ es) s h = ap (λ (x : Event). images_from T (x ∷ es) s) h.0.1 ∙ stores_take_none T es (record s { written = h.0.0 ∷ s.written }) h.1

pub stores_kept : (o : Origin) (es stores : List Event) (a b : LifeView) (v : View) → AllByRecursion IsStore stores → b.journal ≡ a.journal → b.writer ≡ a.writer → HasFewer a b → Kept o es a v → Kept o (es ++ stores) b v
stores_kept o es stores a b v each journal writer fewer k =
    kept_on o es stores a b v journal writer fewer (stores_write_none stores each) (stores_take_none o.taking stores (since_now o es) each) k

-- ---- what an instruction asks for is served

-- an event by another name
pub shown_as : (o : Origin) (es : List Event) (life : LifeView) (t : ℕ) (e f : machine.Event) → e ≡ f → HasServed o es (told_by t (Some e)) life → HasServed o es (told_by t (Some f)) life
shown_as o es life t e f is h = subst (λ (x : machine.Event). HasServed o es (told_by t (Some x)) life) is h

pub served_on : (o : Origin) (es shown : List Event) (a b : LifeView) (u v : View) → Serves o es shown a u b v → HasServed o es shown a → GoesOn o es a u b v
served_on o es shown a b u v x h = record { more = shown; lives = x.lives h; kept = λ told k. x.kept told h k; good = λ told s is of k. x.good told h s is of k }

next_silent : (left : List ℕ) → output (next_taken left) ≡ []
next_silent [] = refl
next_silent (b ∷ bs) = refl

next_stores : (left : List ℕ) → wrote (next_taken left) ≡ []
next_stores [] = refl
next_stores (b ∷ bs) = refl

next_none : (T : Taking) (left : List ℕ) (s : Since) → images_from T (next_taken left) s ≡ []
next_none T [] s = refl
next_none T (b ∷ bs) s = refl

pub input_on : (o : Origin) (es : List Event) (a b : LifeView) (v : View) → b.journal ≡ a.journal → b.frames ≡ a.frames → b.writer ≡ a.writer → b.pages ≡ a.pages → Lives o (es ++ next_taken (drop a.progress.input_place a.input)) b → GoesOn o es a v b v
input_on o es a b v journal frames writer pages lives =
    let left : List ℕ = drop a.progress.input_place a.input in
    record {
      more = next_taken left;
      lives = lives;
      kept = λ told k. kept_on o es (next_taken left) a b v journal writer (same_pages a b pages) (next_silent left) (next_none o.taking left (since_now o es)) k;
      good = λ told s is of k. quiet_good s o es (next_taken left) a b v (next_silent left) (next_stores left) (next_none o.taking left (since_now o es)) journal frames k;
    }

pub directive_on : (o : Origin) (es : List Event) (k : ℕ) (a b : LifeView) (v : View) → b.journal ≡ a.journal → b.frames ≡ a.frames → b.writer ≡ a.writer → b.pages ≡ a.pages → Lives o (es ++ Excluded k ∷ []) b → GoesOn o es a v b v
directive_on o es k a b v journal frames writer pages lives = record {
  more = Excluded k ∷ [];
  lives = lives;
  kept = λ told h. kept_on o es (Excluded k ∷ []) a b v journal writer (same_pages a b pages) refl refl h;
  good = λ told s is of h. quiet_good s o es (Excluded k ∷ []) a b v refl refl refl journal frames h;
}
