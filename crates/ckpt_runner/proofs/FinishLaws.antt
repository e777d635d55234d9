-- A life that is finished.
use Rattle.std.proofs.Common.{◌≡◌, sym, ◌∙◌, ap, subst, ℕ, true, false, List, IsTrue}
use Rattle.ckpt_base.specs.Event.{Event}
use Rattle.disk_model.specs.View.{View, IsDisk}
use Rattle.image_format.specs.Image.{Image}
use Rattle.image_chain.specs.ChainView.{ChainView}
use Rattle.output_file.specs.Pushed.{flushed, length_of}
use Rattle.output_file.specs.OnDisk.{IsOnDisk}
use Rattle.life_journal.specs.JournalView.{JournalView}
use Rattle.life_journal.specs.Holding.{HoldsJournal}
use Rattle.run_images.specs.Origin.{Origin, taking_by}
use Rattle.run_images.specs.Source.{Source}
use Rattle.ckpt_runner.specs.LifeView.{LifeView, Idle}
use Rattle.ckpt_runner.specs.Lives.{Lives, StopsAt, cells_now}
use Rattle.ckpt_runner.specs.Keeps.{Kept, bytes_now}
use Rattle.ckpt_runner.specs.Calls.{FitsDisk}
use Rattle.ckpt_runner.specs.Good.{IsGood}
use Rattle.ckpt_runner.specs.JournalCalls.{StaysBefore, MakesLasting}
use Rattle.ckpt_runner.specs.Standing.{EndsGood}
use Rattle.ckpt_runner.proofs.GoodCalls.{flush_good}
use Rattle.ckpt_runner.proofs.GoodEnds.{ends, all_end}
use Rattle.ckpt_runner.proofs.KeptLaws.{kept_rests, rests_kept}

abbrev pub ended : LifeView → JournalView → LifeView
ended life j = record life { journal = j; failed = false; finished = true }

pub ended_lives : (o : Origin) (es : List Event) (life : LifeView) (j : JournalView) → j.chain ≡ life.journal.chain → length_of j.output ≡ length_of life.journal.output → Lives o es life → Lives o es (ended life j)
ended_lives o es life j chain same h = record {
  code = h.code;
  taking = ap (λ (x : ChainView). taking_by life.compiled life.marks x.current.every) chain ∙ h.taking;
  reaches = h.reaches;
  progress = h.progress;
  output_length = same ∙ h.output_length;
  pages = h.pages;
}

pub ended_kept : (o : Origin) (es : List Event) (life : LifeView) (j : JournalView) (u v : View) → life.writer ≡ Idle → ((rs : List Image) (w : List ℕ) → HoldsJournal life.journal u rs w → HoldsJournal j v rs w × IsOnDisk w v) → Kept o es life u → Kept o es (ended life j) v × IsOnDisk (bytes_now o es) v
ended_kept o es life j u v idle holds k =
    let r = kept_rests o es life u idle k in
    let now = holds r.records (bytes_now o es) r.holds in
    (rests_kept o es (ended life j) v idle (record { records = r.records; holds = now.0; none = r.none; images = r.images }), now.1)

-- what fits its disk, by the journal alone
pub journal_fits : (life : LifeView) (v : View) → life.writer ≡ Idle → FitsDisk life v → IsTrue v.tells → (rs : List Image) × (w : List ℕ) × HoldsJournal life.journal v rs w
journal_fits life v idle fits told =
    let f = fits told in
    let r = kept_rests f.0 f.1 life v idle f.3 in
    (r.records, bytes_now f.0 f.1, r.holds)

-- ---- a life of a source

-- `old` is the life before the call as its caller sees it
module _ (life old : LifeView) (seen : life ≡ old) (j : JournalView) (u v : View) (chain : j.chain ≡ life.journal.chain) (flush : j.output ≡ flushed life.journal.output) (holds : IsTrue u.tells → MakesLasting life.journal u j v) (run : IsTrue u.tells → StaysBefore life.journal u v) where
  pub ended_good : IsTrue u.tells → (s : Source) (o : Origin) (es : List Event) → IsGood s o es old u → IsGood s o es (ended life j) v
  ended_good told s o es g = flush_good s o es life.journal j (cells_now o life) u v told chain flush (holds told) (run told) (subst (λ (l : LifeView). IsGood s o es l u) (sym seen) g)

  pub ended_ends : (IsTrue u.tells → IsDisk v) → EndsGood old u v
  ended_ends disk s o es until ending of le stops = (
    ends s o es until ending old v of le stops,
    λ told g.
        let was : IsGood s o es life u = subst (λ (l : LifeView). IsGood s o es l u) (sym seen) g in
        let at : StopsAt o es until ending life = subst (λ (l : LifeView). StopsAt o es until ending l) (sym seen) stops in
        all_end s o es until ending (ended life j) v of le at (ended_good told s o es g) (holds told was.records (bytes_now o es) was.holds).1 (disk told),
  )
