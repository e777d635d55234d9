-- A life goes on with its run.
use Rattle.std.proofs.Common.{◌≡◌, refl, sym, ◌∙◌, ap, subst, ℕ, ◌+◌, ◌/◌, ◌≤◌, ◌<◌, ◌==◌, ◌||◌, Bool, true, false, not, List, [], ◌∷◌, ◌++◌, length, take, drop, map, append_assoc, append-nil, arith}
use Rattle.std.specs.List.{All, AllByRecursion, list_any}
use Rattle.std.proofs.lemmas.Bool.Decides.{nat_tests}
use Rattle.std.proofs.lemmas.List.{take-append-drop, length-take-le}
use Rattle.std.proofs.Math.Seq.{take-append_seam}
use Rattle.std.proofs.lemmas.List.Elements.{recursion_from_All}
use Rattle.ckpt_base.specs.Event.{Event, Wrote, Byte}
use Rattle.dirty_pages.specs.Pages.{PageStates, is_dirty, is_protected}
use Rattle.machine_code.specs.CodeView.{CodeView}
use Rattle.machine_code.specs.State.{State}
use Rattle.machine_code.specs.Memory.{FitsMemory}
use Rattle.machine_code.specs.Run.{World, world, after, Reaches}
use Rattle.machine_code.specs.Shown.{longer}
use Rattle.machine_code.proofs.LongerLaws.{after_longer}
use Rattle.machine_code.proofs.PassLaws.{reaches_shows}
use Rattle.machine_code.proofs.RunLaws.{reaches_on}
use Rattle.output_file.specs.Pushed.{length_of}
use Rattle.run_images.specs.Since.{Since, with_event, since_after, is_page_fresh}
use Rattle.run_images.specs.Images.{Taking}
use Rattle.run_images.specs.Compiled.{CompiledView, cells_in}
use Rattle.run_images.specs.Origin.{Origin, origin_world, taking_by}
use Rattle.run_images.proofs.ImageLaws.{since_more}
use Rattle.ckpt_runner.specs.LifeView.{LifeView}
use Rattle.ckpt_runner.specs.Lives.{since_now, progress_in, world_now, HasServed, Lives}

-- ---- stores into pages that are not protected

abbrev pub IsOpenStore : PageStates → Event → Type 0
IsOpenStore pages e = (cell : ℕ) × (e ≡ Wrote cell) × (is_protected pages (cell / 512) ≡ false)

pub wrote_is : (every cell : ℕ) (e : Event) (s : Since) → e ≡ Wrote cell → with_event every e s ≡ record s { written = cell ∷ s.written }
wrote_is every cell e s is = ap (λ (x : Event). with_event every x s) is

stores_progress : (every : ℕ) (pages : PageStates) (es : List Event) (s : Since) → AllByRecursion (IsOpenStore pages) es → progress_in (since_after every es s) ≡ progress_in s
stores_progress every pages [] s h = refl
stores_progress every pages (e ∷ es) s h = stores_progress every pages es (with_event every e s) h.1 ∙ ap progress_in (wrote_is every h.0.0 e s h.0.1)

stores_output : (every : ℕ) (pages : PageStates) (es : List Event) (s : Since) → AllByRecursion (IsOpenStore pages) es → (since_after every es s).output_length ≡ s.output_length
stores_output every pages [] s h = refl
stores_output every pages (e ∷ es) s h = stores_output every pages es (with_event every e s) h.1 ∙ ap (λ (x : Since). x.output_length) (wrote_is every h.0.0 e s h.0.1)

or_more : (a b d : Bool) → (b ≡ true → (a || d) ≡ true) → (a || (b || d)) ≡ (a || d)
or_more true b d h = refl
or_more false true d h = sym (h refl)
or_more false false d h = refl

not_false : (b : Bool) → not b ≡ false → b ≡ true
not_false true e = refl
not_false false e = absurd (let z : true ≡ false = e in cc)

pub open_page : (pages : PageStates) (cell page : ℕ) → is_protected pages (cell / 512) ≡ false → (cell / 512 == page) ≡ true → is_dirty pages page ≡ true
open_page pages cell page opened here =
    let same : cell / 512 ≡ page = grind (arith, nat_tests, here) in
    subst (λ (p : ℕ). is_dirty pages p ≡ true) same (not_false (is_dirty pages (cell / 512)) opened)

stores_fresh : (every : ℕ) (pages : PageStates) (es : List Event) (s : Since) (page : ℕ) → AllByRecursion (IsOpenStore pages) es → (is_dirty pages page ≡ true → is_page_fresh s page ≡ true) → is_page_fresh (since_after every es s) page ≡ is_page_fresh s page
stores_fresh every pages [] s page h dirty = refl
stores_fresh every pages (e ∷ es) s page h dirty =
    let cell = h.0.0 in
    let one : is_page_fresh (with_event every e s) page ≡ is_page_fresh s page =
    ap (λ (x : Since). is_page_fresh x page) (wrote_is every cell e s h.0.1)
    ∙ or_more (s.number == 0) (cell / 512 == page) (list_any (λ d. d / 512 == page) s.written) (λ here. dirty (open_page pages cell page h.0.2 here)) in
    stores_fresh every pages es (with_event every e s) page h.1 (λ d. one ∙ dirty d) ∙ one

-- ---- the cells of the program, at the front of all pages

pub same_world : (v : World) (t : State) (m input : List ℕ) (events : List Event) → v.state ≡ t → v.memory ≡ m → v.input ≡ input → v.events ≡ events → v ≡ world t m input events
same_world v t m input events a b c d =
    ap (λ (x : State). world x v.memory v.input v.events) a ∙ ap (λ (x : List ℕ). world t x v.input v.events) b ∙ ap (λ (x : List ℕ). world t m x v.events) c ∙ ap (λ (x : List Event). world t m input x) d

-- a run over all pages is one over the program's cells
pub cells_go : (c : CodeView) (cells k : ℕ) (s t : State) (m n input : List ℕ) (events more : List Event) → FitsMemory c cells → cells ≤ length m → after c k (world s m input events) ≡ world t n input more
    → Reaches c (world s (take cells m) input events) (world t (take cells n) input more)
cells_go c cells k s t m n input events more fits few comes =
    let w : World = world s (take cells m) input events in
    let rest : List ℕ = drop cells m in
    let v : World = after c k w in
    let size : length (take cells m) ≡ cells = length-take-le cells m few in
    let whole : longer rest w ≡ world s m input events = ap (λ (l : List ℕ). world s l input events) (take-append-drop cells m) in
    let same : longer rest v ≡ world t n input more = sym (after_longer c w rest k (subst (FitsMemory c) (sym size) fits)) ∙ ap (after c k) whole ∙ comes in
    let shows = reaches_shows c w v (record { by = (k, refl) }) in
    let long : length v.memory ≡ cells = shows.size ∙ size in
    let memory : v.memory ≡ take cells n =
    sym (take-append_seam v.memory rest) ∙ ap (λ (j : ℕ). take j (v.memory ++ rest)) long ∙ ap (take cells) (ap (λ (x : World). x.memory) same) in
    record { by = (k, same_world v t (take cells n) input more (ap (λ (x : World). x.state) same) memory (ap (λ (x : World). x.input) same) (ap (λ (x : World). x.events) same)) }

-- ---- a run of instructions

-- the life with its machine and its memory moved on
abbrev pub moved : LifeView → State → List ℕ → LifeView
moved life t n = record life { machine = record life.machine { state = t }; frames = n }

pub run_served : (o : Origin) (es stores told : List Event) (k : ℕ) (old : LifeView) (t : State) (n : List ℕ) → FitsMemory old.compiled.code (cells_in old.compiled) → cells_in old.compiled ≤ length old.frames → Lives o es old
    → All (IsOpenStore old.pages) stores → ((input : List ℕ) (events : List Event) → after old.compiled.code k (world old.machine.state old.frames input events) ≡ world t n input (events ++ (stores ++ told)))
    → HasServed o (es ++ stores) told (moved old t n)
run_served o es stores told k old t n fits few lives open_stores comes =
    let each = recursion_from_All (IsOpenStore old.pages) stores open_stores in
    let now = since_more o.taking.every es stores o.since in
    let cells : cells_in old.compiled ≡ o.taking.cells = ap (λ (x : Taking). x.cells) lives.taking in
    let input : List ℕ = drop old.progress.input_place old.input in
    record {
      code = lives.code;
      taking = lives.taking;
      reaches = λ before.
          let shown : List Event = before ++ ((es ++ stores) ++ told) in
          let start : Reaches o.code (origin_world o before) (world_now o old (before ++ es)) = subst (λ (l : List Event). Reaches o.code (origin_world o before) (world_now o old (before ++ l))) (append-nil es) (lives.reaches before) in
          let there : (before ++ es) ++ (stores ++ told) ≡ shown = append_assoc before es (stores ++ told) ∙ ap (λ (l : List Event). before ++ l) (sym (append_assoc es stores told)) in
          let go : Reaches old.compiled.code (world old.machine.state (take (cells_in old.compiled) old.frames) input (before ++ es)) (world t (take (cells_in old.compiled) n) input shown) =
          cells_go old.compiled.code (cells_in old.compiled) k old.machine.state t old.frames n input (before ++ es) shown fits few (comes input (before ++ es) ∙ ap (λ (l : List Event). world t n input l) there) in
          let mine : Reaches o.code (world_now o old (before ++ es)) (world_now o (moved old t n) shown) =
          subst (λ (j : ℕ). Reaches o.code (world old.machine.state (take j old.frames) input (before ++ es)) (world t (take j n) input shown)) cells
          (subst (λ (c : CodeView). Reaches c (world old.machine.state (take (cells_in old.compiled) old.frames) input (before ++ es)) (world t (take (cells_in old.compiled) n) input shown)) lives.code go) in
          reaches_on o.code (origin_world o before) (world_now o old (before ++ es)) (world_now o (moved old t n) shown) start mine;
      progress = lives.progress ∙ sym (ap progress_in now ∙ stores_progress o.taking.every old.pages stores (since_now o es) each);
      output_length = lives.output_length ∙ sym (ap (λ (s : Since). s.output_length) now ∙ stores_output o.taking.every old.pages stores (since_now o es) each);
      pages = λ page within.
          let was = lives.pages page within in
          was ∙ sym (ap (λ (s : Since). is_page_fresh s page) now ∙ stores_fresh o.taking.every old.pages stores (since_now o es) page each (λ dirty. sym was ∙ dirty));
    }

-- ---- what an answer shows is served

-- Where the machine and the memory stay, and what the life keeps is what the shown events leave, the life stands behind them.
pub shown_served : (o : Origin) (es shown : List Event) (old new : LifeView) → HasServed o es shown old → new.compiled ≡ old.compiled → taking_by new.compiled new.marks new.journal.chain.current.every ≡ o.taking
    → new.machine.state ≡ old.machine.state → new.frames ≡ old.frames → new.input ≡ old.input → new.progress.input_place ≡ old.progress.input_place
    → new.progress ≡ progress_in (since_after o.taking.every shown (since_now o es)) → length_of new.journal.output ≡ (since_after o.taking.every shown (since_now o es)).output_length
    → ((page : ℕ) → page < length new.pages.dirty → is_dirty new.pages page ≡ is_page_fresh (since_after o.taking.every shown (since_now o es)) page) → Lives o (es ++ shown) new
shown_served o es shown old new h compiled taking state frames input place progress output pages =
    let now = since_more o.taking.every es shown o.since in
    record {
      code = ap (λ (c : CompiledView). c.code) compiled ∙ h.code;
      taking = taking;
      reaches = λ before.
          let events : List Event = before ++ (es ++ shown) in
          let same : world_now o old events ≡ world_now o new (before ++ ((es ++ shown) ++ [])) =
          ap (λ (x : State). world x (take o.taking.cells old.frames) (drop old.progress.input_place old.input) events) (sym state)
          ∙ ap (λ (x : List ℕ). world new.machine.state (take o.taking.cells x) (drop old.progress.input_place old.input) events) (sym frames)
          ∙ ap (λ (x : List ℕ). world new.machine.state (take o.taking.cells new.frames) (drop old.progress.input_place x) events) (sym input)
          ∙ ap (λ (x : ℕ). world new.machine.state (take o.taking.cells new.frames) (drop x new.input) events) (sym place)
          ∙ ap (λ (l : List Event). world_now o new (before ++ l)) (sym (append-nil (es ++ shown))) in
          subst (Reaches o.code (origin_world o before)) same (h.reaches before);
      progress = progress ∙ sym (ap progress_in now);
      output_length = output ∙ sym (ap (λ (s : Since). s.output_length) now);
      pages = λ page within. pages page within ∙ sym (ap (λ (s : Since). is_page_fresh s page) now);
    }

-- bytes leave all but the length of the output
pub bytes_since : (every : ℕ) (bytes : List ℕ) (s : Since) → since_after every (map Byte bytes) s ≡ record s { output_length = s.output_length + length bytes }
bytes_since every [] s = ap (λ (n : ℕ). record s { output_length = n }) (let z : s.output_length ≡ s.output_length + 0 = omega arith in z)
bytes_since every (b ∷ bs) s =
    bytes_since every bs (with_event every (Byte b) s)
    ∙ ap (λ (n : ℕ). record s { output_length = n }) (let z : (s.output_length + 1) + length bs ≡ s.output_length + length (b ∷ bs) = omega arith in z)
