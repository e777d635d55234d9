-- A life that has put out bytes.
use Rattle.std.proofs.Common.{◌≡◌, refl, sym, ◌∙◌, ap, subst, ℕ, ◌+◌, Bool, false, List, ◌++◌, length, map, IsTrue, arith}
use Rattle.ckpt_base.specs.Event.{Event, Byte}
use Rattle.disk_model.specs.View.{View}
use Rattle.image_format.specs.Image.{Image}
use Rattle.image_chain.specs.declared.chain.Chain.{Chain}
use Rattle.output_file.specs.Pushed.{length_of}
use Rattle.life_journal.specs.declared.journal.JournalState.TheVariants.{Resting}
use Rattle.life_journal.specs.JournalView.{JournalView}
use Rattle.life_journal.specs.Holding.{HoldsJournal}
use Rattle.life_journal.specs.Holding as journal
use Rattle.life_journal.specs.Writing.{FitsOutput}
use Rattle.run_images.specs.Since.{Since, since_after, is_page_fresh}
use Rattle.run_images.specs.Origin.{Origin, taking_by}
use Rattle.ckpt_runner.specs.LifeView.{LifeView, Idle}
use Rattle.ckpt_runner.specs.Lives.{since_now, cells_now, progress_in, HasServed, Lives}
use Rattle.ckpt_runner.specs.Keeps.{Kept, bytes_now}
use Rattle.ckpt_runner.specs.Calls.{FitsServing, Serves}
use Rattle.ckpt_runner.specs.JournalCalls.{StaysBefore}
use Rattle.ckpt_runner.specs.SoundLife.{IsSoundLife}
use Rattle.ckpt_runner.proofs.ServedLaws.{shown_served, bytes_since}
use Rattle.ckpt_runner.proofs.KeptLaws.{kept_rests, rests_kept, rests_on, bytes_take_none, bytes_write}
use Rattle.ckpt_runner.proofs.SoundLaws.{journal_sound}
use Rattle.ckpt_runner.proofs.GoodCalls.{bytes_good}

abbrev pub put : LifeView → JournalView → LifeView
put life j = record life { journal = j; failed = false }

-- the output of a journal that fits its disk
pub output_fits : (j : JournalView) (v : View) → journal.FitsDisk j v → FitsOutput j v
output_fits j v fits told = let f = fits told in (f.1, f.2.output)

-- what fits its disk, by the journal alone
pub serving_fits : (shown : List Event) (life : LifeView) (v : View) → life.writer ≡ Idle → FitsServing shown life v → IsTrue v.tells → (rs : List Image) × (w : List ℕ) × HoldsJournal life.journal v rs w
serving_fits shown life v idle fits told =
    let f = fits told in
    let r = kept_rests f.0 f.1 life v idle f.3 in
    (r.records, bytes_now f.0 f.1, r.holds)

pub put_lives : (o : Origin) (es : List Event) (bytes : List ℕ) (life : LifeView) (j : JournalView) → j.chain ≡ life.journal.chain → length_of j.output ≡ length_of life.journal.output + length bytes
    → HasServed o es (map Byte bytes) life → Lives o (es ++ map Byte bytes) (put life j)
put_lives o es bytes life j chain count h =
    let s = since_now o es in
    let behind : since_after o.taking.every (map Byte bytes) s ≡ record s { output_length = s.output_length + length bytes } = bytes_since o.taking.every bytes s in
    shown_served o es (map Byte bytes) life (put life j) h refl (ap (λ (x : Chain). taking_by life.compiled life.marks x.current.every) chain ∙ h.taking) refl refl refl refl
    (h.progress ∙ sym (ap progress_in behind)) (count ∙ ap (λ (n : ℕ). n + length bytes) h.output_length ∙ sym (ap (λ (x : Since). x.output_length) behind))
    (λ page within. h.pages page within ∙ sym (ap (λ (x : Since). is_page_fresh x page) behind))

pub put_kept : (o : Origin) (es : List Event) (bytes : List ℕ) (life : LifeView) (j : JournalView) (u v : View) → life.writer ≡ Idle → ((rs : List Image) (w : List ℕ) → HoldsJournal life.journal u rs w → HoldsJournal j v rs (w ++ bytes))
    → Kept o es life u → Kept o (es ++ map Byte bytes) (put life j) v
put_kept o es bytes life j u v idle holds k =
    let r = kept_rests o es life u idle k in
    rests_kept o (es ++ map Byte bytes) (put life j) v idle (rests_on o es (map Byte bytes) life (put life j) u v bytes (bytes_write bytes) (bytes_take_none o.taking bytes (since_now o es)) r.none holds r)

serves_all : (o : Origin) (es : List Event) (bytes : List ℕ) (life : LifeView) (j : JournalView) (u v : View) → life.writer ≡ Idle → j.chain ≡ life.journal.chain → length_of j.output ≡ length_of life.journal.output + length bytes
    → j.output.lasting ≡ life.journal.output.lasting → (IsTrue u.tells → StaysBefore life.journal u v)
    → (IsTrue u.tells → (rs : List Image) (w : List ℕ) → HoldsJournal life.journal u rs w → HoldsJournal j v rs (w ++ bytes)) → Serves o es (map Byte bytes) life u (put life j) v
serves_all o es bytes life j u v idle chain count lasting run holds = record {
  lives = λ h. put_lives o es bytes life j chain count h;
  kept = λ told h k. put_kept o es bytes life j u v idle (holds told) k;
  good = λ told h s is of g. bytes_good s o es bytes life.journal j (cells_now o life) u v told chain lasting (holds told) (run told) g;
}

-- the life before the call as its caller sees it, and the bytes as the call below names them
pub put_serves : (o : Origin) (es : List Event) (bytes more : List ℕ) (life old : LifeView) (j : JournalView) (u v : View) → life ≡ old → more ≡ bytes → life.writer ≡ Idle → j.chain ≡ life.journal.chain → length_of j.output ≡ length_of life.journal.output + length more
    → j.output.lasting ≡ life.journal.output.lasting → (IsTrue u.tells → StaysBefore life.journal u v)
    → (IsTrue u.tells → (rs : List Image) (w : List ℕ) → HoldsJournal life.journal u rs w → HoldsJournal j v rs (w ++ more)) → Serves o es (map Byte bytes) old u (put life j) v
put_serves o es bytes more life old j u v is same idle chain count lasting run holds =
    subst (λ (l : LifeView). Serves o es (map Byte bytes) l u (put life j) v) is
    (subst (λ (xs : List ℕ). Serves o es (map Byte xs) life u (put life j) v) same (serves_all o es more life j u v idle chain count lasting run holds))

pub put_sound : (life : LifeView) (j : JournalView) (more : List ℕ) → life.failed ≡ false → IsSoundLife life → j.chain ≡ life.journal.chain → j.state ≡ Resting → length_of j.output ≡ length_of life.journal.output + length more → IsSoundLife (put life j)
put_sound life j more live s chain whole count =
    journal_sound (record life { failed = false }) j (subst (λ (b : Bool). IsSoundLife (record life { failed = b })) live s) chain (λ _. whole) (omega (arith, count))
