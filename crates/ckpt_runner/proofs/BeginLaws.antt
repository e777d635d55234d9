-- A life that begins.
use Rattle.std.proofs.Common.{◌≡◌, refl, sym, ◌∙◌, ap, ℕ, zero, suc, Bool, true, false, [], ◌++◌, take, drop, get_or, replicate, append-nil}
use Rattle.dirty_pages.specs.Pages.{PageStates, fresh, is_dirty, in_snapshot}
use Rattle.disk_model.specs.View.{View}
use Rattle.machine_code.specs.State.{standing}
use Rattle.output_file.specs.Pushed.{length_of, begun_behind}
use Rattle.life_journal.specs.Holding.{HoldsJournal}
use Rattle.run_images.specs.Since.{at_first}
use Rattle.run_images.specs.Compiled.{cells_in}
use Rattle.run_images.specs.Origin.{origin_world, begun_at, taking_by}
use Rattle.ckpt_runner.specs.declared.progress.Progress.{Progress}
use Rattle.ckpt_runner.specs.LifeView.{LifeView, Idle}
use Rattle.ckpt_runner.specs.Lives.{Lives, progress_in}
use Rattle.ckpt_runner.specs.Keeps.{Kept}
use Rattle.ckpt_runner.proofs.ServedLaws.{same_world}
use Rattle.ckpt_runner.proofs.KeptLaws.{rests_kept}

-- pages of which none was protected yet
all_same : (n p : ℕ) (b : Bool) → get_or (replicate n b) p b ≡ b
all_same zero p b = refl
all_same (suc n) zero b = refl
all_same (suc n) (suc p) b = all_same n p b

pub fresh_dirty : (n p : ℕ) → is_dirty (fresh n) p ≡ true
fresh_dirty n p = all_same n p true

pub fresh_unmarked : (n p : ℕ) → in_snapshot (fresh n) p ≡ false
fresh_unmarked n p = all_same n p false

-- the machine stands at the entry, over the words with which the program starts, and nothing was shown yet
pub record IsNewLife (life : LifeView) : Type 0 where
  pub entry : life.machine.state ≡ standing 0 0
  pub words : take (cells_in life.compiled) life.frames ≡ life.compiled.words
  pub count : ℕ
  pub pages : life.pages ≡ fresh count
  pub progress : life.progress ≡ progress_in at_first
  pub output : life.journal.output ≡ begun_behind 0
  pub writer : life.writer ≡ Idle

pub new_lives : (life : LifeView) (every : ℕ) → IsNewLife life → life.journal.chain.current.every ≡ every → Lives (begun_at life.compiled life.marks every life.input) [] life
new_lives life every new is = record {
  code = refl;
  taking = ap (λ (k : ℕ). taking_by life.compiled life.marks k) is;
  reaches = λ before. record {
    by = (
      0,
      same_world (origin_world (begun_at life.compiled life.marks every life.input) before) life.machine.state (take (cells_in life.compiled) life.frames) (drop life.progress.input_place life.input) (before ++ [])
          (sym new.entry) (sym new.words) (sym (ap (λ (p : Progress). drop p.input_place life.input) new.progress)) (sym (append-nil before)),
    );
  };
  progress = new.progress;
  output_length = ap length_of new.output;
  pages = λ page within. ap (λ (x : PageStates). is_dirty x page) new.pages ∙ fresh_dirty new.count page;
}

pub new_kept : (life : LifeView) (every : ℕ) (v : View) → IsNewLife life → HoldsJournal life.journal v [] [] → Kept (begun_at life.compiled life.marks every life.input) [] life v
new_kept life every v new holds = rests_kept (begun_at life.compiled life.marks every life.input) [] life v new.writer (record {
  records = [];
  holds = holds;
  none = λ p. ap (λ (x : PageStates). in_snapshot x p) new.pages ∙ fresh_unmarked new.count p;
  images = λ before was. append-nil before ∙ was;
})
