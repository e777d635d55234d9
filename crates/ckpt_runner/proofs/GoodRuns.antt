-- What a life keeps stays good for its source while it runs, and where what it has shown wants no call on the disk.
use Rattle.std.proofs.Common.{◌≡◌, refl, sym, ◌∙◌, ap, subst, ℕ, ◌≤◌, List, [], ◌∷◌, ◌++◌, length, take, map, append-nil, Option, Some, None, arith}
use Rattle.std.specs.Prelude.{slice_index}
use Rattle.std.specs.List.{AllByRecursion, Contains}
use Rattle.ckpt_base.specs.Event.{Event, Wrote, Byte, Took, Excluded, Checkpoint}
use Rattle.ckpt_base.specs.Run.{output}
use Rattle.std.specs.Fmt.{signed_decimal}
use Rattle.dirty_pages.specs.Pages.{PageStates}
use Rattle.disk_model.specs.View.{View}
use Rattle.machine_code.specs.declared.event.Event as machine
use Rattle.machine_code.specs.declared.event.Event.TheVariants as answer
use Rattle.machine_code.specs.CodeView.{CodeView}
use Rattle.machine_code.specs.State.{State}
use Rattle.machine_code.specs.Memory.{FitsMemory}
use Rattle.machine_code.specs.Run.{World, world}
use Rattle.machine_code.specs.Shown.{wrote}
use Rattle.machine_code.proofs.PassLaws.{reaches_shows}
use Rattle.paged_machine.specs.RunOn.{told_by}
use Rattle.life_journal.specs.JournalView.{JournalView}
use Rattle.life_journal.specs.Holding.{HoldsJournal}
use Rattle.run_images.specs.Since.{Since}
use Rattle.run_images.specs.Images.{Taking, images_from}
use Rattle.run_images.specs.Compiled.{cells_in}
use Rattle.run_images.specs.Source.{Source}
use Rattle.run_images.specs.Origin.{Origin}
use Rattle.ckpt_runner.specs.LifeView.{LifeView}
use Rattle.ckpt_runner.specs.Lives.{since_now, cells_now, Lives}
use Rattle.ckpt_runner.specs.RunsOver.{IsStore, RunsOver}
use Rattle.ckpt_runner.specs.Good.{JournalStands, IsGood}
use Rattle.ckpt_runner.proofs.ServedLaws.{cells_go}
use Rattle.ckpt_runner.proofs.OverServed.{over}
use Rattle.ckpt_runner.proofs.GoodLaws.{stands_on}

-- ---- what events write

wrote_both : (xs ys : List Event) → wrote (xs ++ ys) ≡ wrote xs ++ wrote ys
wrote_both [] ys = refl
wrote_both (Wrote c ∷ xs) ys = ap (λ (l : List ℕ). c ∷ l) (wrote_both xs ys)
wrote_both (Byte b ∷ xs) ys = wrote_both xs ys
wrote_both (Took ∷ xs) ys = wrote_both xs ys
wrote_both (Excluded k ∷ xs) ys = wrote_both xs ys
wrote_both (Checkpoint m t ∷ xs) ys = wrote_both xs ys

pub bytes_store_none : (bytes : List ℕ) → wrote (map Byte bytes) ≡ []
bytes_store_none [] = refl
bytes_store_none (b ∷ bs) = bytes_store_none bs

-- what an answer shows is no store
told_stores_none : (ticks : ℕ) (a : Option machine.Event) → wrote (told_by ticks a) ≡ []
told_stores_none ticks None = refl
told_stores_none ticks (Some answer.Ran) = refl
told_stores_none ticks (Some answer.Ticked) = refl
told_stores_none ticks (Some (answer.WriteFault p)) = refl
told_stores_none ticks (Some answer.WantsInput) = refl
told_stores_none ticks (Some (answer.Out b)) = refl
told_stores_none ticks (Some (answer.OutNumber v)) = bytes_store_none (signed_decimal v)
told_stores_none ticks (Some (answer.Checkpoint n)) = refl
told_stores_none ticks (Some (answer.Exclude k)) = refl
told_stores_none ticks (Some (answer.Ended v)) = refl
told_stores_none ticks (Some (answer.Trapped k)) = refl

stores_write_none : (es : List Event) → AllByRecursion IsStore es → output es ≡ []
stores_write_none [] h = refl
stores_write_none (e ∷ es) h = ap (λ (x : Event). output (x ∷ es)) h.0.1 ∙ stores_write_none es h.1

stores_take_none : (T : Taking) (es : List Event) (s : Since) → AllByRecursion IsStore es → images_from T es s ≡ []
stores_take_none T [] s h = refl
stores_take_none T (e ∷ es) s h = ap (λ (x : Event). images_from T (x ∷ es) s) h.0.1 ∙ stores_take_none T es (record s { written = h.0.0 ∷ s.written }) h.1

-- ---- a run of instructions

-- a cell that it does not write has its word
over_words : (cells : ℕ) (c : CodeView) (s t : State) (m n : List ℕ) (old pages : PageStates) (a : Option machine.Event) → FitsMemory c cells → cells ≤ length m → (r : RunsOver c s m old a t n pages)
    → (cell : ℕ) → (Contains (wrote r.stores) cell → ⊥) → slice_index (take cells n) cell ≡ slice_index (take cells m) cell
over_words cells c s t m n old pages a fits few r cell not =
    let told = told_by t.ticks a in
    let w : World = world s (take cells m) [] [] in
    let v : World = world t (take cells n) [] (r.stores ++ told) in
    let shows = reaches_shows c w v (cells_go c cells r.count s t m n [] [] (r.stores ++ told) fits few (r.comes [] [])) in
    let all : wrote shows.more ≡ wrote r.stores = ap wrote (sym shows.events) ∙ wrote_both r.stores told ∙ ap (λ (l : List ℕ). wrote r.stores ++ l) (told_stores_none t.ticks a) ∙ append-nil (wrote r.stores) in
    shows.words cell (λ has. not (subst (λ (l : List ℕ). Contains l cell) all has))

pub run_good : (s : Source) (o : Origin) (es : List Event) (old : LifeView) (a : Option machine.Event) (t : State) (n : List ℕ) (pages : PageStates) (v : View) → FitsMemory old.compiled.code (cells_in old.compiled) → cells_in old.compiled ≤ length old.frames → Lives o es old
    → (r : RunsOver old.compiled.code old.machine.state old.frames old.pages a t n pages) → IsGood s o es old v → IsGood s o (es ++ r.stores) (over old t n pages) v
run_good s o es old a t n pages v fits few lives r good =
    let cells : cells_in old.compiled ≡ o.taking.cells = ap (λ (x : Taking). x.cells) lives.taking in
    stands_on s o es r.stores old.journal old.journal (cells_now o old) (take o.taking.cells n) v v [] (stores_write_none r.stores r.each) (stores_take_none o.taking r.stores (since_now o es) r.each)
    (over_words o.taking.cells old.compiled.code old.machine.state t old.frames n old.pages pages a (subst (FitsMemory old.compiled.code) cells fits) (subst (λ (k : ℕ). k ≤ length old.frames) cells few) r)
    refl (let le : old.journal.output.lasting ≤ old.journal.output.lasting = omega arith in le) (λ rs w h. subst (HoldsJournal old.journal v rs) (sym (append-nil w)) h) good.all good

-- ---- what wants no call

-- events that write no cell and no byte, and take no image
pub quiet_good : (s : Source) (o : Origin) (es fs : List Event) (old new : LifeView) (v : View) → output fs ≡ [] → wrote fs ≡ [] → images_from o.taking fs (since_now o es) ≡ [] → new.journal ≡ old.journal → new.frames ≡ old.frames → IsGood s o es old v → IsGood s o (es ++ fs) new v
quiet_good s o es fs old new v silent still none journal frames good =
    let same : IsGood s o (es ++ fs) old v =
    stands_on s o es fs old.journal old.journal (cells_now o old) (cells_now o old) v v [] silent none (λ c not. refl) refl (let le : old.journal.output.lasting ≤ old.journal.output.lasting = omega arith in le)
    (λ rs w h. subst (HoldsJournal old.journal v rs) (sym (append-nil w)) h) good.all good in
    subst (λ (m : List ℕ). JournalStands s o (es ++ fs) new.journal (take o.taking.cells m) v) (sym frames) (subst (λ (j : JournalView). JournalStands s o (es ++ fs) j (cells_now o old) v) (sym journal) same)
