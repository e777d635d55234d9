-- A life goes on with a run of instructions whose write faults are served.
use Rattle.std.proofs.Common.{◌≡◌, refl, sym, ◌∙◌, ap, subst, ℕ, ◌/◌, ◌≤◌, ◌<◌, ◌==◌, ◌||◌, Bool, true, false, List, [], ◌∷◌, ◌++◌, length, take, drop, append_assoc, append-nil, Option}
use Rattle.std.specs.List.{AllByRecursion, list_any}
use Rattle.ckpt_base.specs.Event.{Event}
use Rattle.dirty_pages.specs.Pages.{PageStates}
use Rattle.machine_code.specs.declared.event.Event as machine
use Rattle.machine_code.specs.CodeView.{CodeView}
use Rattle.machine_code.specs.State.{State}
use Rattle.machine_code.specs.Memory.{FitsMemory}
use Rattle.machine_code.specs.Run.{world, Reaches}
use Rattle.machine_code.proofs.RunLaws.{reaches_on}
use Rattle.paged_machine.specs.RunOn.{told_by}
use Rattle.run_images.specs.Since.{Since, with_event, since_after, is_page_fresh}
use Rattle.run_images.specs.Images.{Taking}
use Rattle.run_images.specs.Compiled.{cells_in}
use Rattle.run_images.specs.Origin.{Origin, origin_world}
use Rattle.run_images.proofs.ImageLaws.{since_more}
use Rattle.ckpt_runner.specs.LifeView.{LifeView}
use Rattle.ckpt_runner.specs.Lives.{since_now, progress_in, world_now, HasServed, Lives}
use Rattle.ckpt_runner.specs.RunsOver.{IsStore, writes_page, RunsOver}
use Rattle.ckpt_runner.proofs.ServedLaws.{wrote_is, cells_go}

stores_progress : (every : ℕ) (es : List Event) (s : Since) → AllByRecursion IsStore es → progress_in (since_after every es s) ≡ progress_in s
stores_progress every [] s h = refl
stores_progress every (e ∷ es) s h = stores_progress every es (with_event every e s) h.1 ∙ ap progress_in (wrote_is every h.0.0 e s h.0.1)

stores_output : (every : ℕ) (es : List Event) (s : Since) → AllByRecursion IsStore es → (since_after every es s).output_length ≡ s.output_length
stores_output every [] s h = refl
stores_output every (e ∷ es) s h = stores_output every es (with_event every e s) h.1 ∙ ap (λ (x : Since). x.output_length) (wrote_is every h.0.0 e s h.0.1)

or_false : (a : Bool) → a ≡ (a || false)
or_false true = refl
or_false false = refl

or_swap : (a b d : Bool) → (a || (b || d)) ≡ ((a || d) || b)
or_swap true b d = refl
or_swap false true true = refl
or_swap false true false = refl
or_swap false false true = refl
or_swap false false false = refl

or_group : (a b d : Bool) → ((a || b) || d) ≡ (a || (b || d))
or_group true b d = refl
or_group false b d = refl

-- the pages that are fresh behind stores are those that were, and those that they write
stores_fresh : (every : ℕ) (es : List Event) (s : Since) (page : ℕ) → AllByRecursion IsStore es → is_page_fresh (since_after every es s) page ≡ (is_page_fresh s page || list_any (writes_page page) es)
stores_fresh every [] s page h = or_false (is_page_fresh s page)
stores_fresh every (e ∷ es) s page h =
    let cell = h.0.0 in
    let one : is_page_fresh (with_event every e s) page ≡ (is_page_fresh s page || writes_page page e) =
    ap (λ (x : Since). is_page_fresh x page) (wrote_is every cell e s h.0.1)
    ∙ or_swap (s.number == 0) (cell / 512 == page) (list_any (λ d. d / 512 == page) s.written)
    ∙ ap (λ (b : Bool). is_page_fresh s page || b) (sym (ap (writes_page page) h.0.1)) in
    stores_fresh every es (with_event every e s) page h.1 ∙ ap (λ (b : Bool). b || list_any (writes_page page) es) one ∙ or_group (is_page_fresh s page) (writes_page page e) (list_any (writes_page page) es)

-- the life with its machine, its memory and its pages moved on
abbrev pub over : LifeView → State → List ℕ → PageStates → LifeView
over life t n pages = record life { machine = record life.machine { state = t }; frames = n; pages = pages }

pub over_served : (o : Origin) (es : List Event) (old : LifeView) (answer : Option machine.Event) (t : State) (n : List ℕ) (pages : PageStates) → FitsMemory old.compiled.code (cells_in old.compiled) → cells_in old.compiled ≤ length old.frames → Lives o es old
    → (r : RunsOver old.compiled.code old.machine.state old.frames old.pages answer t n pages) → HasServed o (es ++ r.stores) (told_by t.ticks answer) (over old t n pages)
over_served o es old answer t n pages fits few lives r =
    let told = told_by t.ticks answer in
    let now = since_more o.taking.every es r.stores o.since in
    let cells : cells_in old.compiled ≡ o.taking.cells = ap (λ (x : Taking). x.cells) lives.taking in
    let input : List ℕ = drop old.progress.input_place old.input in
    record {
      code = lives.code;
      taking = lives.taking;
      reaches = λ before.
          let shown : List Event = before ++ ((es ++ r.stores) ++ told) in
          let start : Reaches o.code (origin_world o before) (world_now o old (before ++ es)) = subst (λ (l : List Event). Reaches o.code (origin_world o before) (world_now o old (before ++ l))) (append-nil es) (lives.reaches before) in
          let there : (before ++ es) ++ (r.stores ++ told) ≡ shown = append_assoc before es (r.stores ++ told) ∙ ap (λ (l : List Event). before ++ l) (sym (append_assoc es r.stores told)) in
          let go : Reaches old.compiled.code (world old.machine.state (take (cells_in old.compiled) old.frames) input (before ++ es)) (world t (take (cells_in old.compiled) n) input shown) =
          cells_go old.compiled.code (cells_in old.compiled) r.count old.machine.state t old.frames n input (before ++ es) shown fits few (r.comes input (before ++ es) ∙ ap (λ (l : List Event). world t n input l) there) in
          let mine : Reaches o.code (world_now o old (before ++ es)) (world_now o (over old t n pages) shown) =
          subst (λ (j : ℕ). Reaches o.code (world old.machine.state (take j old.frames) input (before ++ es)) (world t (take j n) input shown)) cells
          (subst (λ (c : CodeView). Reaches c (world old.machine.state (take (cells_in old.compiled) old.frames) input (before ++ es)) (world t (take (cells_in old.compiled) n) input shown)) lives.code go) in
          reaches_on o.code (origin_world o before) (world_now o old (before ++ es)) (world_now o (over old t n pages) shown) start mine;
      progress = lives.progress ∙ sym (ap progress_in now ∙ stores_progress o.taking.every r.stores (since_now o es) r.each);
      output_length = lives.output_length ∙ sym (ap (λ (s : Since). s.output_length) now ∙ stores_output o.taking.every r.stores (since_now o es) r.each);
      pages = λ page within.
          let there : page < length old.pages.dirty = subst (λ (k : ℕ). page < k) r.pages within in
          r.dirty page there ∙ ap (λ (b : Bool). b || list_any (writes_page page) r.stores) (lives.pages page there)
          ∙ sym (ap (λ (s : Since). is_page_fresh s page) now ∙ stores_fresh o.taking.every r.stores (since_now o es) page r.each);
    }
