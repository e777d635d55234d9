-- The image that a life takes stands for its source.
use Rattle.std.proofs.Common.{◌≡◌, refl, sym, ◌∙◌, ap, subst, ℕ, zero, suc, ◌/◌, ◌<◌, Bool, true, false, cond, ◌&&◌, not, nat_lt, IsTrue, List, [], ◌∷◌, ◌++◌, length, take, Some, None, arith}
use Rattle.std.specs.Prelude.{slice_index, is_some}
use Rattle.std.proofs.lemmas.List.{take_all}
use Rattle.std.proofs.lemmas.Bool.Decides.{nat_tests}
use Rattle.ckpt_base.specs.Event.{Event, Checkpoint}
use Rattle.cell_sets.specs.declared.runs.Run.{Run}
use Rattle.cell_sets.specs.Runs.{in_runs}
use Rattle.disk_model.specs.View.{View}
use Rattle.disk_model.specs.Moments.{Among, LeavesOnly}
use Rattle.image_format.specs.declared.fields.Fields.{Fields}
use Rattle.image_format.specs.Image.{Image, word_in_runs}
use Rattle.image_format.specs.Written.{image_of, filled, listed_word}
use Rattle.image_chain.specs.Lists.{IsAppended}
use Rattle.image_chain.specs.Records.{broken_field}
use Rattle.machine_code.specs.Run.{World}
use Rattle.output_file.specs.Pushed.{Pushed, flushed}
use Rattle.life_journal.specs.JournalView.{JournalView}
use Rattle.life_journal.specs.Holding.{HoldsJournal}
use Rattle.run_images.specs.Since.{Since, is_due}
use Rattle.run_images.specs.Images.{Taking, taken_at, lists_at, is_excluded}
use Rattle.run_images.specs.Since.{is_page_fresh}
use Rattle.run_images.specs.JoinedList.{lists_cell, IsOf}
use Rattle.run_images.specs.Source.{Source, IsSource}
use Rattle.run_images.specs.Stands.{StandsFor, StandsWithin}
use Rattle.run_images.specs.Origin.{Origin, events_before, IsOfSource}
use Rattle.run_images.specs.Shown.{TakesImage, HasTaken}
use Rattle.ckpt_runner.specs.LifeView.{LifeView}
use Rattle.ckpt_runner.specs.Lives.{since_now, cells_now, world_now, HasServed}
use Rattle.ckpt_runner.specs.Keeps.{bytes_now}
use Rattle.ckpt_runner.specs.Good.{JournalStands}
use Rattle.ckpt_runner.proofs.GoodCalls.{flushed_lasts, save_stand, save_good}

-- what the law of images says
abbrev pub ImagesStand : Type 0
ImagesStand = (s : Source) (o : Origin) (es : List Event) (node : ℕ) (w : World) (rs : List Image) (r : Image) → IsSource s → IsOfSource s o → TakesImage s o es node w rs r → HasTaken s o es node w (rs ++ r ∷ [])

-- ---- the words of a record

cond_is : (b : Bool) (w : ℕ) → is_some (cond b (Some w) None) ≡ true → cond b (Some w) None ≡ Some w
cond_is true w e = refl
cond_is false w e = absurd (let z : false ≡ true = e in cc)

some_is : (b : Bool) (w : ℕ) → is_some (cond b (Some w) None) ≡ b
some_is true w = refl
some_is false w = refl

and_first : (a b : Bool) → (a && b) ≡ true → a ≡ true
and_first true b e = refl
and_first false b e = e

-- a front of a list has the words of the list
front_word : (n c : ℕ) (l : List ℕ) → c < n → slice_index (take n l) c ≡ slice_index l c
front_word zero c l less = absurd (omega (arith, less))
front_word (suc n) c [] less = refl
front_word (suc n) zero (x ∷ l) less = refl
front_word (suc n) (suc c) (x ∷ l) less = front_word n c l (omega (arith, less))

-- the record that lists the runs has the words of the program's cells
pub record_words : (T : Taking) (now : Since) (fields : Fields) (runs : List Run) (frames : List ℕ) → ((c : ℕ) → in_runs runs c ≡ lists_at T now c) → ((c : ℕ) → word_in_runs (filled frames runs) c ≡ listed_word runs frames c)
    → (c : ℕ) → lists_cell (image_of fields runs frames) c ≡ true → word_in_runs (image_of fields runs frames).runs c ≡ Some (slice_index (take T.cells frames) c)
record_words T now fields runs frames lists words c listed =
    let some : is_some (listed_word runs frames c) ≡ true = ap is_some (sym (words c)) ∙ listed in
    let inside : nat_lt c T.cells ≡ true =
    and_first (nat_lt c T.cells) (is_page_fresh now (c / 512) && not (is_excluded T.sets now.directive now.included c)) (sym (lists c) ∙ sym (some_is (in_runs runs c) (slice_index frames c)) ∙ some) in
    let less : c < T.cells = grind (arith, nat_tests, inside) in
    words c ∙ cond_is (in_runs runs c) (slice_index frames c) some ∙ ap (λ (w : ℕ). Some w) (sym (front_word T.cells c frames less))

-- ---- an image is taken

module _ (law : ImagesStand) (s : Source) (o : Origin) (es : List Event) (node : ℕ) (life : LifeView) (j : JournalView) (u : View) (r : Image) (is : IsSource s) (of : IsOfSource s o)
    (served : HasServed o es (Checkpoint node life.machine.state.ticks ∷ []) life) (g : JournalStands s o es j (cells_now o life) u) (p : Pushed) (flush : j.output ≡ flushed p)
    (due : is_due o.taking.every (since_now o es) life.machine.state.ticks ≡ true) (image : IsOf r (taken_at o.taking node life.machine.state.ticks (since_now o es)))
    (words : (c : ℕ) → lists_cell r c ≡ true → word_in_runs r.runs c ≡ Some (slice_index (cells_now o life) c)) (follows : broken_field j.chain.current.newest r.fields ≡ None) where
  abbrev passed : List Event
  passed = Checkpoint node life.machine.state.ticks ∷ []

  abbrev here : World
  here = world_now o life (events_before s o ++ (es ++ passed))

  takes : TakesImage s o es node here g.records r
  takes = record {
    reaches = served.reaches (events_before s o);
    passes = refl;
    due = due;
    records = g.images;
    image = image;
    words = words;
    held = g.held;
  }

  taken : HasTaken s o es node here (g.records ++ r ∷ [])
  taken = law s o es node here g.records r is of takes

  ready : StandsFor s o.taking.every (g.records ++ r ∷ []) (take j.output.lasting (bytes_now o es))
  ready =
      let all : j.output.lasting ≡ length (bytes_now o es) = flushed_lasts p j.output u (bytes_now o es) flush g.holds.output in
      let whole : take j.output.lasting (bytes_now o es) ≡ bytes_now o es = take_all j.output.lasting (bytes_now o es) (omega (arith, all)) in
      subst (StandsFor s o.taking.every (g.records ++ r ∷ [])) (sym whole) taken.stand

  pub image_stand : (v : View) → ((rs : List Image) (w : List ℕ) → HoldsJournal j u rs w → LeavesOnly u v (Among u.may_leave (IsAppended j.chain.current rs r))) → LeavesOnly u v (StandsWithin s j.output.lasting)
  image_stand v run = save_stand s o es j (cells_now o life) u v r g follows ready run

  pub image_good : (k : JournalView) (v : View) → IsTrue u.tells → k.output ≡ j.output → k.chain.current.every ≡ j.chain.current.every → ((rs : List Image) (w : List ℕ) → HoldsJournal j u rs w → HoldsJournal k v (rs ++ r ∷ []) w)
      → ((rs : List Image) (w : List ℕ) → HoldsJournal j u rs w → LeavesOnly u v (Among u.may_leave (IsAppended j.chain.current rs r))) → JournalStands s o (es ++ passed) k (cells_now o life) v
  image_good k v told output every holds run =
      save_good s o es node life.machine.state.ticks j k (cells_now o life) u v r g told due image follows ready taken.held output every holds run
