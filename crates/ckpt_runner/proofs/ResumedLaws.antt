-- A life that goes on from the newest image of a chain.
use Rattle.std.proofs.Common.{◌≡◌, refl, sym, ◌∙◌, ap, subst, ℕ, ◌+◌, ◌*◌, ◌≤◌, ◌<◌, ◌==◌, ◌||◌, Bool, true, false, List, [], ◌++◌, length, take, drop, get_or, append-nil, length-take-le, IsTrue, Contains, Option, Some, arith}
use Rattle.std.specs.Prelude.{slice_index, replicate}
use Rattle.std.specs.Option.{unwrap_or}
use Rattle.std.proofs.lemmas.List.{get_or-take, get_or-replicate, length-replicate}
use Rattle.dirty_pages.specs.Pages.{PageStates, fresh, protected, is_dirty, in_snapshot}
use Rattle.disk_model.specs.View.{View, IsDisk}
use Rattle.disk_model.specs.Store.{Store}
use Rattle.image_format.specs.declared.fields.Fields.{Fields}
use Rattle.image_format.specs.Image.{Image, AreFields}
use Rattle.image_chain.specs.Append.{Keeps}
use Rattle.image_chain.specs.ChainView.{ChainView}
use Rattle.image_chain.specs.Lists.{Lists, Rests}
use Rattle.image_chain.specs.Looking.{OnlyLooked}
use Rattle.image_chain.proofs.LoopLaws.{rest_lists}
use Rattle.image_chain.specs.Memory.{Joined, kept_word}
use Rattle.coalesce.specs.Join.{IsContent}
use Rattle.machine_code.specs.CodeView.{CodeView}
use Rattle.machine_code.specs.Memory.{FitsMemory}
use Rattle.machine_code.specs.State.{standing}
use Rattle.machine_code.specs.Valid.{has_checkpoint}
use Rattle.output_file.specs.Pushed.{Pushed, length_of, begun_behind}
use Rattle.page_frames.specs.Words.{fill_word}
use Rattle.paged_machine.specs.MachineView.{MachineView}
use Rattle.paged_machine.specs.Fitting.{FitTogether}
use Rattle.paged_machine.specs.Standing.{StandsIn}
use Rattle.compiled_program.specs.CanRun.{CanRun}
use Rattle.life_journal.specs.declared.journal.JournalState.TheVariants.{Resting}
use Rattle.life_journal.specs.Holding.{HoldsJournal}
use Rattle.run_images.specs.Images.{TakenImage, since_behind}
use Rattle.run_images.specs.JoinedList.{IsJoinedList}
use Rattle.run_images.specs.Compiled.{CompiledView, cells_in}
use Rattle.run_images.specs.Origin.{Origin, origin_world, taking_by}
use Rattle.ckpt_runner.specs.declared.progress.Progress.{Progress}
use Rattle.ckpt_runner.specs.declared.started.Started.TheVariants.{Resumed}
use Rattle.ckpt_runner.specs.LifeView.{LifeView, Idle}
use Rattle.ckpt_runner.specs.Lives.{Lives, progress_in}
use Rattle.ckpt_runner.specs.Keeps.{Kept}
use Rattle.ckpt_runner.specs.SoundLife.{IsBehindNewest, IsSoundLife}
use Rattle.ckpt_runner.specs.NewMemory.{IsNewMemory}
use Rattle.ckpt_runner.specs.Opening.{Given, Opens, StartsAt, Restarts}
use Rattle.ckpt_runner.proofs.ServedLaws.{same_world}
use Rattle.ckpt_runner.proofs.KeptLaws.{rests_kept}
use Rattle.ckpt_runner.proofs.BeginLaws.{fresh_unmarked}
use Rattle.ckpt_runner.proofs.RecoveredLaws.{found_as, has_chain, none_some, only_listed}

-- The machine stands behind the checkpoint of the newest record, over the words that are kept and the fill, and all pages are protected.
pub record IsResumedLife (life : LifeView) (kept : Joined) (fill : ℕ) (newest : Fields) : Type 0 where
  pub place : (q : ℕ) × (has_checkpoint life.compiled.code newest.node q ≡ true) × (life.machine.state ≡ standing q newest.steps)
  pub words : (k : ℕ) → k < cells_in life.compiled → slice_index life.frames k ≡ unwrap_or (kept_word kept k) (fill_word fill)
  pub room : cells_in life.compiled ≤ length life.frames
  pub count : ℕ
  pub pages : life.pages ≡ protected (fresh count)
  pub number : 1 ≤ newest.number
  pub progress : life.progress ≡ progress_in (since_behind newest)
  pub output : life.journal.output ≡ begun_behind newest.output_length
  pub writer : life.writer ≡ Idle

-- the words of frames that held the fill
filled_word : (n k w : ℕ) (frames : List ℕ) (o : Option ℕ) → k < n → frames ≡ replicate n w → unwrap_or o (slice_index frames k) ≡ unwrap_or o w
filled_word n k w frames o lt is = ap (λ (x : ℕ). unwrap_or o x) (ap (λ (l : List ℕ). slice_index l k) is ∙ get_or-replicate n k w 0 lt)

-- ---- memory

pub new_room : (life : CompiledView) (fill : ℕ) (m : MachineView) (frames copies : List ℕ) (pages : PageStates) → IsNewMemory life fill m frames copies pages → cells_in life ≤ length frames
new_room life fill m frames copies pages new =
    let size : length frames ≡ 512 * new.count = ap length new.frames_are ∙ length-replicate (512 * new.count) (fill_word fill) in
    let room = new.room in
    omega (arith, size, room)

pub resumed_fit : (c : CodeView) (m n : List ℕ) (old pages : PageStates) → FitTogether c m old → length n ≡ length m → pages ≡ protected old → FitTogether c n pages
resumed_fit c m n old pages fit size is =
    let count : length pages.dirty ≡ length old.dirty = ap (λ (x : PageStates). length x.dirty) is ∙ length-replicate (length old.dirty) false in
    let same = fit.same in
    let few = fit.few in
    record {
      same = omega (arith, same, size, count);
      few = omega (arith, few, count);
      cells = subst (λ (k : ℕ). FitsMemory c k) (sym size) fit.cells;
    }

-- ---- pages

protected_clean : (n page : ℕ) → page < n → get_or (replicate n false) page true ≡ false
protected_clean n page lt = get_or-replicate n page false true lt

not_first : (n : ℕ) → 1 ≤ n → (n == 0) ≡ false
not_first n some = search (arith, some)

clean_page : (life : LifeView) (count page : ℕ) → life.pages ≡ protected (fresh count) → page < length life.pages.dirty → is_dirty life.pages page ≡ false
clean_page life count page is lt =
    let size : length life.pages.dirty ≡ length (replicate count true) = ap (λ (x : PageStates). length x.dirty) is ∙ length-replicate (length (replicate count true)) false in
    ap (λ (x : PageStates). is_dirty x page) is ∙ protected_clean (length (replicate count true)) page (omega (arith, size, lt))

fresh_marks : (pages : PageStates) (count : ℕ) → pages ≡ protected (fresh count) → length pages.in_snapshot ≡ length pages.dirty
fresh_marks pages count is =
    ap (λ (x : PageStates). length x.in_snapshot) is ∙ length-replicate count false
    ∙ sym (ap (λ (x : PageStates). length x.dirty) is ∙ length-replicate (length (replicate count true)) false ∙ length-replicate count true)

-- what the machine, the frames and the pages are made to
pub resumed_is : (life : LifeView) (kept : Joined) (fill : ℕ) (newest : Fields) (m : MachineView) (frames copies loaded : List ℕ) (pages : PageStates) → IsNewMemory life.compiled fill m frames copies pages → AreFields newest
    → ((k : ℕ) → slice_index loaded k ≡ unwrap_or (kept_word kept k) (slice_index frames k)) → length loaded ≡ length frames → life.frames ≡ loaded → life.pages ≡ protected pages
    → ((q : ℕ) × (has_checkpoint life.compiled.code newest.node q ≡ true) × (life.machine.state ≡ standing q newest.steps))
    → life.progress ≡ progress_in (since_behind newest) → life.journal.output ≡ begun_behind newest.output_length → life.writer ≡ Idle → IsResumedLife life kept fill newest
resumed_is life kept fill newest m frames copies loaded pages new said words size same flags place progress output writer = record {
  place = place;
  words = λ k lt.
      let room = new.room in
      ap (λ (l : List ℕ). slice_index l k) same ∙ words k ∙ filled_word (512 * new.count) k (fill_word fill) frames (kept_word kept k) (omega (arith, lt, room)) new.frames_are;
  room = let room = new_room life.compiled fill m frames copies pages new in let now : length life.frames ≡ length loaded = ap length same in omega (arith, room, now, size);
  count = new.count;
  pages = flags ∙ ap protected new.pages_are;
  number = said.ranges.number;
  progress = progress;
  output = output;
  writer = writer;
}

-- ---- the origin

unfoldable pub resumed_at : LifeView → Fields → List ℕ → List Image → Origin
resumed_at life newest output records = record {
  code = life.compiled.code;
  taking = taking_by life.compiled life.marks life.journal.chain.current.every;
  state = life.machine.state;
  memory = take (cells_in life.compiled) life.frames;
  input = drop newest.input_place life.input;
  since = since_behind newest;
  output = output;
  records = records;
}

pub resumed_lives : (life : LifeView) (kept : Joined) (fill : ℕ) (newest : Fields) (output : List ℕ) (records : List Image) → IsResumedLife life kept fill newest → Lives (resumed_at life newest output records) [] life
unfolding resumed_at
resumed_lives life kept fill newest output records is = record {
  code = refl;
  taking = refl;
  reaches = λ before. record {
    by = (
      0,
      same_world (origin_world (resumed_at life newest output records) before) life.machine.state (take (cells_in life.compiled) life.frames) (drop life.progress.input_place life.input) (before ++ [])
          refl refl (sym (ap (λ (p : Progress). drop p.input_place life.input) is.progress)) (sym (append-nil before)),
    );
  };
  progress = is.progress;
  output_length = ap length_of is.output ∙ no_more newest.output_length;
  pages = λ page within. clean_page life is.count page is.pages within ∙ sym (ap (λ (b : Bool). b || false) (not_first newest.number is.number));
}
  where
    no_more : (n : ℕ) → n + 0 ≡ n
    no_more n = omega arith

pub resumed_starts : (g : Given) (life : LifeView) (kept : Joined) (fill image : ℕ) (newest : Fields) (output : List ℕ) (records : List Image) → life.compiled ≡ g.compiled → Contains life.compiled.checkpoints newest.node → IsResumedLife life kept fill newest
    → StartsAt g (Resumed image newest.steps) (resumed_at life newest output records)
unfolding resumed_at
resumed_starts g life kept fill image newest output records same node is =
    (newest.node, is.place.0, subst (λ x. Contains x.checkpoints newest.node) same node, subst (λ x. has_checkpoint x.code newest.node is.place.0 ≡ true) same is.place.1, is.place.2)

-- ---- what the life keeps on its disk

pub resumed_kept : (life : LifeView) (kept : Joined) (fill : ℕ) (newest : Fields) (output : List ℕ) (rs : List Image) (v : View) → IsResumedLife life kept fill newest → HoldsJournal life.journal v rs output
    → Kept (resumed_at life newest output rs) [] life v
unfolding resumed_at
resumed_kept life kept fill newest output rs v is holds = rests_kept (resumed_at life newest output rs) [] life v is.writer (record {
  records = rs;
  holds = subst (λ (l : List ℕ). HoldsJournal life.journal v rs l) (sym (append-nil output)) holds;
  none = λ p. ap (λ (x : PageStates). in_snapshot x p) is.pages ∙ fresh_unmarked is.count p;
  images = λ before was. subst (λ (l : List TakenImage). IsJoinedList rs l) (sym (append-nil before)) was;
})

-- ---- how the store was opened

unfoldable pub resumed_opens : (g : Given) (life : LifeView) (kept : Joined) (newest : Fields) (file : List ℕ) (rs : List Image) (c : Store) → g.compiled ≡ life.compiled → g.marks ≡ life.marks → g.input ≡ life.input → IsResumedLife life kept g.fill newest → Restarts g kept newest
    → Keeps life.journal.chain.current rs → Lists life.journal.chain.current rs c → IsContent kept rs → life.journal.chain.current.newest ≡ Some newest → newest.output_length ≤ length c.output → file ≡ take newest.output_length c.output
    → Opens g c (Resumed newest.number newest.steps) (resumed_at life newest file rs)
unfolding resumed_at
resumed_opens g life kept newest file rs c compiled marks input is restarts keeps lists content newest_is written bytes =
    let has = has_chain life.journal.chain.current rs c newest keeps lists newest_is in (
      found_as life.journal.chain.current rs,
      newest,
      record {
        has = has;
        mode = restarts.mode;
        same = restarts.same;
        fits = record {
          cells = only_listed (cells_in g.compiled) kept rs content restarts.cells;
          node = restarts.node;
          input_place = restarts.input_place;
          output_length = written;
          directive = restarts.directive;
        };
      },
      restarts.within,
      refl,
      refl,
      record {
        newest = newest;
        newest_is = has.newest_is;
        code = ap (λ x. x.code) (sym compiled);
        taking = ap (λ x. taking_by x life.marks life.journal.chain.current.every) (sym compiled) ∙ ap (λ m. taking_by g.compiled m life.journal.chain.current.every) (sym marks);
        place = (is.place.0, subst (λ x. has_checkpoint x.code newest.node is.place.0 ≡ true) (sym compiled) is.place.1, is.place.2);
        size = length-take-le (cells_in life.compiled) life.frames is.room ∙ ap (λ x. cells_in x) (sym compiled);
        words = λ k lt.
            let less : k < cells_in life.compiled = subst (λ x. k < cells_in x) compiled lt in
            get_or-take (cells_in life.compiled) life.frames k 0 less ∙ is.words k less ∙ ap (λ (o : Option ℕ). unwrap_or o (fill_word g.fill)) (content k);
        input = ap (λ (l : List ℕ). drop newest.input_place l) (sym input);
        since = refl;
        output = bytes;
        records = refl;
      },
    )

-- ---- what it keeps of itself

one_newest : (x : Option Fields) (f newest : Fields) → x ≡ Some newest → x ≡ Some f → newest ≡ f
one_newest x f newest a b = let e : Some newest ≡ Some f = sym a ∙ b in cc

pub resumed_sound : (g : Given) (life : LifeView) (kept : Joined) (fill : ℕ) (newest : Fields) → IsResumedLife life kept fill newest → Restarts g kept newest → g.compiled ≡ life.compiled → g.marks ≡ life.marks → g.input ≡ life.input
    → CanRun life.compiled → StandsIn life.compiled.code life.machine → FitTogether life.compiled.code life.frames life.pages → length life.copies ≡ length life.frames → length life.input ≤ 16777216 → life.journal.state ≡ Resting → life.journal.chain.current.newest ≡ Some newest → IsSoundLife life
resumed_sound g life kept fill newest is restarts compiled marks input runs stands fit copies short whole newest_is =
    let taken : newest.input_place ≤ length life.input = subst (λ (l : List ℕ). newest.input_place ≤ length l) input restarts.input_place in
    let place : newest.input_place ≡ life.progress.input_place = ap (λ (p : Progress). p.input_place) (sym is.progress) in
    record {
      runs = runs;
      stands = stands;
      fit = fit;
      cells = is.room;
      copies = copies;
      marks = fresh_marks life.pages is.count is.pages;
      none = λ p. ap (λ (x : PageStates). in_snapshot x p) is.pages ∙ fresh_unmarked is.count p;
      directive = subst (λ (p : Progress). p.directive ≤ life.compiled.directives) (sym is.progress) (subst (λ x. newest.directive ≤ x.directives) compiled restarts.directive);
      short = short;
      taken = subst (λ (k : ℕ). k ≤ length life.input) place taken;
      whole = λ _. whole;
      none_yet = λ _ none. absurd (none_some life.journal.chain.current.newest newest none newest_is);
      newest = λ _ f f_is. subst (λ (x : Fields). IsBehindNewest life x) (one_newest life.journal.chain.current.newest f newest newest_is f_is) (record {
        marks = restarts.same ∙ marks;
        number = ap (λ (p : Progress). p.number) (sym is.progress);
        steps = ap (λ (p : Progress). p.newest_tick) (sym is.progress);
        input_place = subst (λ (k : ℕ). newest.input_place ≤ k) place (omega arith);
        output_length = subst (λ (o : Pushed). newest.output_length ≤ length_of o) (sym is.output) (omega arith);
      });
    }

-- ---- the whole

pub resumed_opened : (g : Given) (life : LifeView) (kept : Joined) (newest : Fields) (chain : ChainView) (u v w : View) (rs : List Image) → IsTrue u.tells → IsDisk u → OnlyLooked u v → Rests chain u rs → IsContent kept rs → life.journal.chain ≡ chain
    → HoldsJournal life.journal w rs (take newest.output_length v.seen.output) → g.compiled ≡ life.compiled → g.marks ≡ life.marks → g.input ≡ life.input → IsResumedLife life kept g.fill newest → Restarts g kept newest → chain.current.newest ≡ Some newest
    → newest.output_length ≤ length u.seen.output → (o : Origin) × Opens g u.seen (Resumed newest.number newest.steps) o × Lives o [] life × Kept o [] life w
resumed_opened g life kept newest chain u v w rs told lawful looked rests content same holds compiled marks input is restarts newest_is written =
    let bytes : List ℕ = take newest.output_length u.seen.output in
    let lists : Lists chain.current rs u.seen = rest_lists chain.current u rs rests.1.0 rests.1.1 u.seen lawful.seen_stays in
    let on = subst (λ (s : Store). HoldsJournal life.journal w rs (take newest.output_length s.output)) (looked.seen told) holds in (
      resumed_at life newest bytes rs,
      resumed_opens g life kept newest bytes rs u.seen compiled marks input is restarts (subst (λ (x : ChainView). Keeps x.current rs) (sym same) rests.1.1.keeps) (subst (λ (x : ChainView). Lists x.current rs u.seen) (sym same) lists)
          content (ap (λ (x : ChainView). x.current.newest) same ∙ newest_is) written refl,
      resumed_lives life kept g.fill newest bytes rs is,
      resumed_kept life kept g.fill newest bytes rs w is on,
    )
