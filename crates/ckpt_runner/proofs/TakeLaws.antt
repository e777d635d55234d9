-- A life that passes a checkpoint, with an image or without one.
use Rattle.std.proofs.Common.{◌≡◌, refl, sym, ◌∙◌, ap, subst, ℕ, zero, suc, ◌+◌, ◌*◌, ◌/◌, ◌<◌, ◌≤◌, ◌==◌, ◌&&◌, ◌||◌, not, cond, Bool, true, false, List, [], ◌∷◌, ◌++◌, length, get_or, replicate, append-nil, Option, Some, None, IsTrue, le_of_eq, arith}
use Rattle.std.specs.Prelude.{nat_lt, nat_le}
use Rattle.std.specs.Str.{bytes_eq}
use Rattle.std.proofs.lemmas.Bool.Decides.{nat_tests}
use Rattle.std.proofs.lemmas.List.{length-replicate}
use Rattle.std.proofs.lemmas.Nat.{div_below}
use Rattle.std.proofs.lemmas.Slice.Eq.{bytes_eq-Decides}
use Rattle.ckpt_base.specs.Event.{Event, Checkpoint}
use Rattle.cell_sets.specs.declared.runs.Run.{Run}
use Rattle.cell_sets.specs.Runs.{in_runs, IsRising}
use Rattle.cell_sets.proofs.RunLaws.{rising_above}
use Rattle.dirty_pages.specs.Pages.{PageStates, is_dirty, protected}
use Rattle.disk_model.specs.View.{View}
use Rattle.exclusion_equations.specs.Excluded.{Sets}
use Rattle.image_format.specs.declared.fields.Fields.{Fields}
use Rattle.image_format.specs.declared.fields.Marks.{Marks}
use Rattle.image_format.specs.Image.{Image, InRange, word_in_runs}
use Rattle.image_format.specs.Written.{AreListed, HasCells, image_of, filled, listed_word}
use Rattle.image_chain.specs.Records.{broken_field}
use Rattle.output_file.specs.Pushed.{length_of}
use Rattle.output_file.specs.OnDisk.{IsOnDisk}
use Rattle.life_journal.specs.declared.journal.JournalState.TheVariants.{Resting}
use Rattle.life_journal.specs.JournalView.{JournalView}
use Rattle.life_journal.specs.Holding.{HoldsJournal}
use Rattle.life_journal.specs.Holding as journal
use Rattle.life_journal.specs.Joining.{StayOrJoin}
use Rattle.run_images.specs.Compiled.{cells_in}
use Rattle.run_images.specs.Since.{Since, is_due, since_after, is_page_fresh}
use Rattle.run_images.specs.Images.{Taking, fields_at, taken_at, images_from, lists_at, is_excluded, since_behind}
use Rattle.run_images.specs.JoinedList.{IsOf}
use Rattle.run_images.specs.Origin.{Origin, IsOfSource, taking_by}
use Rattle.run_images.specs.Source.{Source, IsSource}
use Rattle.run_images.proofs.ImageLaws.{noted_due}
use Rattle.ckpt_runner.specs.declared.progress.Progress.{Progress}
use Rattle.ckpt_runner.specs.LifeView.{LifeView, Idle}
use Rattle.ckpt_runner.specs.Lives.{since_now, cells_now, progress_in, HasServed, Lives}
use Rattle.ckpt_runner.specs.Keeps.{Kept}
use Rattle.ckpt_runner.specs.Calls.{Serves}
use Rattle.ckpt_runner.specs.Good.{JournalStands, IsGood}
use Rattle.ckpt_runner.specs.SoundLife.{IsSoundLife}
use Rattle.ckpt_runner.proofs.ServedLaws.{shown_served}
use Rattle.ckpt_runner.proofs.GoodRuns.{quiet_good}
use Rattle.ckpt_runner.proofs.KeptLaws.{kept_rests, rests_kept, rests_on, record_is, image_rests}

-- ---- the journal, made ready for a record

-- it fits the disk behind a call that holds what it held
pub fits_then : (j k : JournalView) (u v : View) → v.tells ≡ u.tells → journal.FitsDisk j u → (IsTrue u.tells → (rs : List Image) (w : List ℕ) → HoldsJournal j u rs w → (qs : List Image) × StayOrJoin rs qs × HoldsJournal k v qs w) → journal.FitsDisk k v
fits_then j k u v same fits holds told =
    let was : IsTrue u.tells = subst IsTrue same told in
    let f = fits was in
    let now = holds was f.0 f.1 f.2 in
    (now.0, f.1, now.2)

pub flushed_fits : (j k : JournalView) (u v : View) → v.tells ≡ u.tells → journal.FitsDisk j u → (IsTrue u.tells → (rs : List Image) (w : List ℕ) → HoldsJournal j u rs w → HoldsJournal k v rs w × IsOnDisk w v) → journal.FitsDisk k v
flushed_fits j k u v same fits holds told =
    let was : IsTrue u.tells = subst IsTrue same told in
    let f = fits was in
    (f.0, f.1, (holds was f.0 f.1 f.2).0)

pub ready_holds : (j k l : JournalView) (u v x : View) → v.tells ≡ u.tells → (IsTrue u.tells → (rs : List Image) (w : List ℕ) → HoldsJournal j u rs w → HoldsJournal k v rs w × IsOnDisk w v)
    → (IsTrue v.tells → (rs : List Image) (w : List ℕ) → HoldsJournal k v rs w → (qs : List Image) × StayOrJoin rs qs × HoldsJournal l x qs w)
    → IsTrue u.tells → (rs : List Image) (w : List ℕ) → HoldsJournal j u rs w → (qs : List Image) × StayOrJoin rs qs × HoldsJournal l x qs w
ready_holds j k l u v x same flushed joined told rs w h = joined (subst IsTrue (sym same) told) rs w (flushed told rs w h).0

pub saved_holds : (j k l : JournalView) (u v x : View) (r : Image) → v.tells ≡ u.tells
    → (IsTrue u.tells → (rs : List Image) (w : List ℕ) → HoldsJournal j u rs w → (qs : List Image) × StayOrJoin rs qs × HoldsJournal k v qs w)
    → (IsTrue v.tells → (rs : List Image) (w : List ℕ) → HoldsJournal k v rs w → HoldsJournal l x (rs ++ r ∷ []) w)
    → IsTrue u.tells → (rs : List Image) (w : List ℕ) → HoldsJournal j u rs w → (qs : List Image) × StayOrJoin rs qs × HoldsJournal l x (qs ++ r ∷ []) w
saved_holds j k l u v x r same ready saved told rs w h =
    let now = ready told rs w h in
    (now.0, now.1, saved (subst IsTrue (sym same) told) now.0 w now.2)

-- ---- the fields of the image

-- what progress and a length of the output say of the events so far, with no cell written
abbrev pub since_of : Progress → ℕ → Since
since_of p n = record { number = p.number; newest_tick = p.newest_tick; written = []; directive = p.directive; included = p.included; input_place = p.input_place; output_length = n }

pub fields_follow : (old new : Fields) → new.marks ≡ old.marks → old.steps < new.steps → old.input_place ≤ new.input_place → old.output_length ≤ new.output_length → new.number ≡ old.number + 1 → broken_field (Some old) new ≡ None
fields_follow old new marks steps place written number =
    let o6 : Option ℕ = cond (not (new.number == old.number + 1)) (Some 100) None in
    let o5 : Option ℕ = cond (nat_lt new.output_length old.output_length) (Some 89) o6 in
    let o4 : Option ℕ = cond (nat_lt new.input_place old.input_place) (Some 81) o5 in
    let o3 : Option ℕ = cond (nat_le new.steps old.steps) (Some 73) o4 in
    let o2 : Option ℕ = cond (not (bytes_eq new.marks.input old.marks.input)) (Some 37) o3 in
    let source : bytes_eq new.marks.source old.marks.source ≡ true = (bytes_eq-Decides new.marks.source old.marks.source).1 (ap (λ (m : Marks). m.source) marks) in
    let input : bytes_eq new.marks.input old.marks.input ≡ true = (bytes_eq-Decides new.marks.input old.marks.input).1 (ap (λ (m : Marks). m.input) marks) in
    let a : nat_le new.steps old.steps ≡ false = grind (arith, nat_tests, steps) in
    let b : nat_lt new.input_place old.input_place ≡ false = grind (arith, nat_tests, place) in
    let c : nat_lt new.output_length old.output_length ≡ false = grind (arith, nat_tests, written) in
    let d : (new.number == old.number + 1) ≡ true = grind (arith, nat_tests, number) in
    ap (λ (t : Bool). cond (not t) (Some 5) o2) source ∙ ap (λ (t : Bool). cond (not t) (Some 37) o3) input ∙ ap (λ (t : Bool). cond t (Some 73) o4) a
    ∙ ap (λ (t : Bool). cond t (Some 81) o5) b ∙ ap (λ (t : Bool). cond t (Some 89) o6) c ∙ ap (λ (t : Bool). cond (not t) (Some 100) None) d

follows_newest : (life : LifeView) (newest : Option Fields) (node tick n : ℕ) → IsSoundLife life → life.failed ≡ false → newest ≡ life.journal.chain.current.newest → n ≡ length_of life.journal.output → life.progress.newest_tick < tick
    → broken_field newest (fields_at life.marks node tick (since_of life.progress n)) ≡ None
follows_newest life None node tick n s live same output later = refl
follows_newest life (Some g) node tick n s live same output later =
    let b = s.newest live g (sym same) in
    let steps : g.steps < tick = let e = b.steps in omega (arith, e, later) in
    let written : g.output_length ≤ n = let le = b.output_length in omega (arith, le, output) in
    fields_follow g (fields_at life.marks node tick (since_of life.progress n)) (sym b.marks) steps b.input_place written (ap (λ (k : ℕ). k + 1) (sym b.number))

-- they follow those of the newest record
pub image_follows : (life : LifeView) (newest : Option Fields) (f : Fields) (node tick n : ℕ) → IsSoundLife life → life.failed ≡ false → newest ≡ life.journal.chain.current.newest → n ≡ length_of life.journal.output → life.progress.newest_tick < tick
    → f ≡ fields_at life.marks node tick (since_of life.progress n) → broken_field newest f ≡ None
image_follows life newest f node tick n s live same output later is = ap (broken_field newest) is ∙ follows_newest life newest node tick n s live same output later

left_some : (a : Bool) (d : ℕ) → (a && not (d == 0)) ≡ true → 1 ≤ d
left_some false d e = absurd (let z : false ≡ true = e in cc)
left_some true zero e = absurd (let z : false ≡ true = e in cc)
left_some true (suc d) e = omega arith

-- they are in range
pub image_ranges : (life : LifeView) (f : Fields) (node tick n : ℕ) → IsSoundLife life → node ≤ 2047 → life.progress.newest_tick < tick → f ≡ fields_at life.marks node tick (since_of life.progress n) → InRange f
image_ranges life f node tick n s small later is = subst InRange (sym is) (record {
  node = small;
  steps = omega (arith, later);
  input_place = let a = s.taken in let b = s.short in omega (arith, a, b);
  directive = let a = s.directive in let b = s.runs.few_directives in omega (arith, a, b);
  left_out = λ e. left_some life.progress.included life.progress.directive e;
  number = omega arith;
})

-- ---- the cells of the image

pub image_rises : (life : LifeView) (runs more : List Run) → IsSoundLife life → more ≡ runs → IsRising 0 runs (cells_in life.compiled + 1) → AreListed more
image_rises life runs more s same rises =
    subst AreListed (sym same) (rising_above 0 runs (cells_in life.compiled + 1) 262145 (let few = s.runs.few in omega (arith, few)) rises)

pub image_has_cells : (life : LifeView) (runs more : List Run) → IsSoundLife life → more ≡ runs → IsRising 0 runs (cells_in life.compiled + 1) → HasCells life.frames more
image_has_cells life runs more s same rises =
    subst (HasCells life.frames) (sym same) (rising_above 0 runs (cells_in life.compiled + 1) (length life.frames + 1) (let few = s.cells in omega (arith, few)) rises)

pub pages_cover : (life : LifeView) → IsSoundLife life → cells_in life.compiled ≤ 512 * length life.pages.dirty
pages_cover life s = let few = s.cells in let same = s.fit.same in omega (arith, few, same)

and_when : (a : Bool) (x y : Bool) → (a ≡ true → x ≡ y) → (a && x) ≡ (a && y)
and_when true x y h = h refl
and_when false x y h = refl

-- the cells that are listed, told of the life
abbrev pub listed_now : LifeView → ℕ → Bool
listed_now life c = nat_lt c (cells_in life.compiled) && (is_dirty life.pages (c / 512) && not (is_excluded life.compiled.sets life.progress.directive life.progress.included c))

-- they are those of the image
pub lists_now : (o : Origin) (es shown : List Event) (life : LifeView) (c : ℕ) → IsSoundLife life → HasServed o es shown life → listed_now life c ≡ lists_at o.taking (since_now o es) c
lists_now o es shown life c s h =
    let now = since_now o es in
    let left : Sets → Progress → Bool = λ sets p. not (is_excluded sets p.directive p.included c) in
    let cells = cells_in life.compiled in
    let cover = pages_cover life s in
    and_when (nat_lt c cells) (is_dirty life.pages (c / 512) && left life.compiled.sets life.progress) (is_page_fresh now (c / 512) && left life.compiled.sets life.progress)
    (λ below.
    let within : c < cells = grind (arith, nat_tests, below) in
    ap (λ (b : Bool). b && left life.compiled.sets life.progress) (h.pages (c / 512) (div_below c 512 (length life.pages.dirty) (omega arith) (omega (arith, within, cover)))))
    ∙ ap (λ (t : Taking). nat_lt c t.cells && (is_page_fresh now (c / 512) && left t.sets life.progress)) h.taking
    ∙ ap (λ (p : Progress). nat_lt c o.taking.cells && (is_page_fresh now (c / 512) && left o.taking.sets p)) h.progress

-- the record is of the image that the checkpoint takes
pub record_now : (o : Origin) (es shown : List Event) (node tick n : ℕ) (life : LifeView) (f : Fields) (runs more : List Run) → IsSoundLife life → HasServed o es shown life
    → ((s : Since) → life.progress ≡ progress_in s → n ≡ s.output_length → f ≡ fields_at life.marks node tick s) → n ≡ length_of life.journal.output → more ≡ runs → ((c : ℕ) → in_runs runs c ≡ listed_now life c)
    → ((c : ℕ) → word_in_runs (filled life.frames more) c ≡ listed_word more life.frames c) → IsOf (image_of f more life.frames) (taken_at o.taking node tick (since_now o es))
record_now o es shown node tick n life f runs more s h said output same exact words =
    let now = since_now o es in
    record_is o.taking node tick now f more life.frames (said now h.progress (output ∙ h.output_length) ∙ ap (λ (t : Taking). fields_at t.marks node tick now) h.taking)
    (λ c. ap (λ (l : List Run). in_runs l c) same ∙ exact c ∙ lists_now o es shown life c s h) words

-- ---- the life behind the image

get_false : (n p : ℕ) → p < n → get_or (replicate n false) p true ≡ false
get_false zero p lt = absurd (omega arith)
get_false (suc n) zero lt = refl
get_false (suc n) (suc p) lt = get_false n p (omega arith)

none_fresh : (n : ℕ) → ((n + 1 == 0) || false) ≡ false
none_fresh n = let z : (n + 1 == 0) ≡ false = grind (arith, nat_tests) in ap (λ (b : Bool). b || false) z

abbrev pub raised : Progress → ℕ → Progress
raised p tick = record p { number = p.number + 1; newest_tick = tick; included = true }

abbrev pub imaged : LifeView → JournalView → ℕ → LifeView
imaged life j tick = record life { journal = j; progress = raised life.progress tick; pages = protected life.pages; failed = false }

-- each reading of the progress says that an image is due
abbrev pub IsDueNow : LifeView → ℕ → Type 0
IsDueNow life tick = (s : Since) → life.progress ≡ progress_in s → is_due life.journal.chain.current.every s tick ≡ true

pub due_now : (o : Origin) (es shown : List Event) (tick : ℕ) (life : LifeView) → HasServed o es shown life → IsDueNow life tick → is_due o.taking.every (since_now o es) tick ≡ true
due_now o es shown tick life h due = ap (λ (t : Taking). is_due t.every (since_now o es) tick) (sym h.taking) ∙ due (since_now o es) h.progress

imaged_lives : (o : Origin) (es : List Event) (node tick : ℕ) (life : LifeView) (j : JournalView) → j.chain.current.every ≡ life.journal.chain.current.every → length_of j.output ≡ length_of life.journal.output → IsDueNow life tick
    → HasServed o es (Checkpoint node tick ∷ []) life → Lives o (es ++ Checkpoint node tick ∷ []) (imaged life j tick)
imaged_lives o es node tick life j every output due h =
    let s = since_now o es in
    let shown : List Event = Checkpoint node tick ∷ [] in
    let behind : since_after o.taking.every shown s ≡ since_behind (taken_at o.taking node tick s).fields = noted_due o.taking node tick s (due_now o es shown tick life h due) in
    shown_served o es shown life (imaged life j tick) h refl (ap (λ (k : ℕ). taking_by life.compiled life.marks k) every ∙ h.taking) refl refl refl refl
    (ap (λ (p : Progress). raised p tick) h.progress ∙ sym (ap progress_in behind)) (output ∙ h.output_length ∙ sym (ap (λ (x : Since). x.output_length) behind))
    (λ page within.
    let there : page < length life.pages.dirty = subst (λ (k : ℕ). page < k) (length-replicate (length life.pages.dirty) false) within in
    get_false (length life.pages.dirty) page there ∙ sym (ap (λ (x : Since). is_page_fresh x page) behind ∙ none_fresh s.number))

imaged_kept : (o : Origin) (es : List Event) (node tick : ℕ) (life : LifeView) (j : JournalView) (u v : View) (r : Image) → life.writer ≡ Idle → is_due o.taking.every (since_now o es) tick ≡ true → IsOf r (taken_at o.taking node tick (since_now o es))
    → ((rs : List Image) (w : List ℕ) → HoldsJournal life.journal u rs w → (qs : List Image) × StayOrJoin rs qs × HoldsJournal j v (qs ++ r ∷ []) w) → Kept o es life u → Kept o (es ++ Checkpoint node tick ∷ []) (imaged life j tick) v
imaged_kept o es node tick life j u v r idle due is holds k =
    let rest = kept_rests o es life u idle k in
    rests_kept o (es ++ Checkpoint node tick ∷ []) (imaged life j tick) v idle (image_rests o es node tick life (imaged life j tick) u v r due is rest.none holds rest)

pub imaged_serves : (o : Origin) (es : List Event) (node tick : ℕ) (life old : LifeView) (j : JournalView) (p : Progress) (pages : PageStates) (u v : View) (r : Image) → life ≡ old → life.writer ≡ Idle → p ≡ raised life.progress tick → pages ≡ protected life.pages
    → j.chain.current.every ≡ life.journal.chain.current.every → length_of j.output ≡ length_of life.journal.output → IsDueNow life tick
    → (HasServed o es (Checkpoint node tick ∷ []) life → IsOf r (taken_at o.taking node tick (since_now o es)))
    → (IsTrue u.tells → (rs : List Image) (w : List ℕ) → HoldsJournal life.journal u rs w → (qs : List Image) × StayOrJoin rs qs × HoldsJournal j v (qs ++ r ∷ []) w)
    → (IsTrue u.tells → HasServed o es (Checkpoint node tick ∷ []) life → (s : Source) → IsSource s → IsOfSource s o → IsGood s o es life u → JournalStands s o (es ++ Checkpoint node tick ∷ []) j (cells_now o life) v)
    → Serves o es (Checkpoint node tick ∷ []) old u (record life { journal = j; progress = p; pages = pages; failed = false }) v
imaged_serves o es node tick life old j p pages u v r seen idle progress protects every output due is holds good =
    subst (λ (l : LifeView). Serves o es (Checkpoint node tick ∷ []) l u (record life { journal = j; progress = p; pages = pages; failed = false }) v) seen
    (subst (λ (x : Progress). Serves o es (Checkpoint node tick ∷ []) life u (record life { journal = j; progress = x; pages = pages; failed = false }) v) (sym progress)
    (subst (λ (x : PageStates). Serves o es (Checkpoint node tick ∷ []) life u (record life { journal = j; progress = raised life.progress tick; pages = x; failed = false }) v) (sym protects)
    (record {
      lives = λ h. imaged_lives o es node tick life j every output due h;
      kept = λ told h k. imaged_kept o es node tick life j u v r idle (due_now o es (Checkpoint node tick ∷ []) tick life h due) (is h) (holds told) k;
      good = good;
    })))

same_some : (f g : Fields) → Some f ≡ Some g → f ≡ g
same_some f g e = cc

none_some : (f : Fields) → None ≡ Some f → ⊥
none_some f e = cc

imaged_sound : (life : LifeView) (j : JournalView) (f : Fields) (node tick n : ℕ) → IsSoundLife life → j.state ≡ Resting → j.chain.current.newest ≡ Some f → f ≡ fields_at life.marks node tick (since_of life.progress n) → n ≡ length_of j.output
    → IsSoundLife (imaged life j tick)
imaged_sound life j f node tick n s whole newest is output =
    let size : length (replicate (length life.pages.dirty) false) ≡ length life.pages.dirty = length-replicate (length life.pages.dirty) false in
    record {
      runs = s.runs;
      stands = s.stands;
      fit = record { same = let e = s.fit.same in omega (arith, e, size); few = let le = s.fit.few in omega (arith, le, size); cells = s.fit.cells };
      cells = s.cells;
      copies = s.copies;
      marks = s.marks ∙ sym size;
      none = s.none;
      directive = s.directive;
      short = s.short;
      taken = s.taken;
      whole = λ _. whole;
      none_yet = λ _ none. absurd (none_some f (sym none ∙ newest));
      newest = λ _ g e.
          let said : g ≡ fields_at life.marks node tick (since_of life.progress n) = same_some g f (sym e ∙ newest) ∙ is in
          record {
            marks = ap (λ (x : Fields). x.marks) said;
            number = ap (λ (x : Fields). x.number) said;
            steps = ap (λ (x : Fields). x.steps) said;
            input_place = le_of_eq (ap (λ (x : Fields). x.input_place) said);
            output_length = le_of_eq (ap (λ (x : Fields). x.output_length) said ∙ output);
          };
    }

pub image_sound : (life : LifeView) (j : JournalView) (p : Progress) (pages : PageStates) (f : Fields) (node tick n : ℕ) → IsSoundLife life → p ≡ raised life.progress tick → pages ≡ protected life.pages → j.state ≡ Resting
    → j.chain.current.newest ≡ Some f → f ≡ fields_at life.marks node tick (since_of life.progress n) → n ≡ length_of j.output → IsSoundLife (record life { journal = j; progress = p; pages = pages; failed = false })
image_sound life j p pages f node tick n s progress protects whole newest is output =
    subst (λ (x : Progress). IsSoundLife (record life { journal = j; progress = x; pages = pages; failed = false })) (sym progress)
    (subst (λ (x : PageStates). IsSoundLife (record life { journal = j; progress = raised life.progress tick; pages = x; failed = false })) (sym protects)
    (imaged_sound life j f node tick n s whole newest is output))

-- ---- a checkpoint that takes no image

-- each reading of the progress says that none is due
abbrev pub IsNotDueNow : LifeView → ℕ → Type 0
IsNotDueNow life tick = (s : Since) → life.progress ≡ progress_in s → is_due life.journal.chain.current.every s tick ≡ false

not_due_now : (o : Origin) (es shown : List Event) (tick : ℕ) (life : LifeView) → HasServed o es shown life → IsNotDueNow life tick → is_due o.taking.every (since_now o es) tick ≡ false
not_due_now o es shown tick life h waits = ap (λ (t : Taking). is_due t.every (since_now o es) tick) (sym h.taking) ∙ waits (since_now o es) h.progress

noted_not_due : (every node tick : ℕ) (s : Since) → is_due every s tick ≡ false → since_after every (Checkpoint node tick ∷ []) s ≡ s
noted_not_due every node tick s waits = ap (λ (b : Bool). cond b (record s { number = s.number + 1; newest_tick = tick; written = []; included = true }) s) waits

taken_not_due : (t : Taking) (node tick : ℕ) (s : Since) → is_due t.every s tick ≡ false → images_from t (Checkpoint node tick ∷ []) s ≡ []
taken_not_due t node tick s waits = ap (λ (b : Bool). cond b (taken_at t node tick s ∷ []) [] ++ []) waits

passed_lives : (o : Origin) (es : List Event) (node tick : ℕ) (life : LifeView) → IsNotDueNow life tick → HasServed o es (Checkpoint node tick ∷ []) life → Lives o (es ++ Checkpoint node tick ∷ []) life
passed_lives o es node tick life waits h =
    let shown : List Event = Checkpoint node tick ∷ [] in
    let still = noted_not_due o.taking.every node tick (since_now o es) (not_due_now o es shown tick life h waits) in
    shown_served o es shown life life h refl h.taking refl refl refl refl (h.progress ∙ sym (ap progress_in still)) (h.output_length ∙ sym (ap (λ (x : Since). x.output_length) still))
    (λ page within. h.pages page within ∙ sym (ap (λ (x : Since). is_page_fresh x page) still))

passed_kept : (o : Origin) (es : List Event) (node tick : ℕ) (life : LifeView) (v : View) → life.writer ≡ Idle → is_due o.taking.every (since_now o es) tick ≡ false → Kept o es life v → Kept o (es ++ Checkpoint node tick ∷ []) life v
passed_kept o es node tick life v idle waits k =
    let shown : List Event = Checkpoint node tick ∷ [] in
    let rest = kept_rests o es life v idle k in
    rests_kept o (es ++ shown) life v idle
    (rests_on o es shown life life v v [] refl (taken_not_due o.taking node tick (since_now o es) waits) rest.none (λ rs w holds. subst (HoldsJournal life.journal v rs) (sym (append-nil w)) holds) rest)

pub passed_serves : (o : Origin) (es : List Event) (node tick : ℕ) (life : LifeView) (v : View) → life.writer ≡ Idle → IsNotDueNow life tick → Serves o es (Checkpoint node tick ∷ []) life v life v
passed_serves o es node tick life v idle waits = record {
  lives = λ h. passed_lives o es node tick life waits h;
  kept = λ told h k. passed_kept o es node tick life v idle (not_due_now o es (Checkpoint node tick ∷ []) tick life h waits) k;
  good = λ told h s is of g.
      quiet_good s o es (Checkpoint node tick ∷ []) life life v refl refl (taken_not_due o.taking node tick (since_now o es) (not_due_now o es (Checkpoint node tick ∷ []) tick life h waits)) refl refl g;
}

-- the test says that none is due; the life is as its caller sees it
pub waits_by : (life old : LifeView) (ticks every : ℕ) (due : Bool) → life ≡ old → due ≡ false → ticks ≡ life.machine.state.ticks → every ≡ life.journal.chain.current.every → ((s : Since) → life.progress ≡ progress_in s → due ≡ is_due every s ticks)
    → IsNotDueNow old old.machine.state.ticks
waits_by life old ticks every due seen waits same often answer =
    subst (λ (l : LifeView). IsNotDueNow l l.machine.state.ticks) seen
    (λ s is. ap (λ (k : ℕ). is_due k s life.machine.state.ticks) (sym often) ∙ ap (λ (k : ℕ). is_due every s k) (sym same) ∙ sym (answer s is) ∙ waits)
