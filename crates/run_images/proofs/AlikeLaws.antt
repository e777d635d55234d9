-- From the entry, and from behind the checkpoint of the newest record, a life is of its source.
use Rattle.std.proofs.Common.{◌≡◌, refl, sym, ◌∙◌, ap, subst, ℕ, ◌+◌, ◌-◌, ◌<◌, true, inl, inr, ⊎_elim, List, [], ◌∷◌, ◌++◌, length, take, drop, replicate, Option, Some, None, arith}
use Rattle.std.specs.Prelude.{slice_index, unwrap_or}
use Rattle.std.proofs.lemmas.Bool.{cases_lt}
use Rattle.std.proofs.lemmas.List.{length-append, length-replicate, get_or_past}
use Rattle.ckpt_base.specs.Event.{Event, Checkpoint}
use Rattle.ckpt_base.specs.Run.{Run, output}
use Rattle.ckpt_base.specs.Word.{word_of}
use Rattle.c_tree.specs.declared.resolved.RObject.{RObject}
use Rattle.c_tree.specs.declared.resolved.Resolved.{Resolved}
use Rattle.c_tree.specs.Layout.{object_cells, object_words, cell_count, first_words}
use Rattle.c_tree.specs.State.{State, first_state}
use Rattle.page_frames.specs.Words.{fill_word}
use Rattle.path_laws.specs.Forgettable.{IsForgettable}
use Rattle.exclusion_equations.specs.Excluded.{Sets}
use Rattle.flow_graph.specs.Run.{spot, graphs_of, graph_run}
use Rattle.flow_graph.specs.Agreement.{EndAlike, with_cells}
use Rattle.image_format.specs.declared.fields.Fields.{Fields}
use Rattle.image_format.specs.Image.{Image}
use Rattle.image_chain.specs.Memory.{memory}
use Rattle.image_chain.specs.Records.{newest_of}
use Rattle.machine_code.specs.CodeView.{CodeView}
use Rattle.machine_code.specs.State as machine
use Rattle.machine_code.specs.State.{standing}
use Rattle.machine_code.specs.Valid.{has_checkpoint}
use Rattle.machine_code.specs.Run.{World, world, Reaches, CodeRun}
use Rattle.machine_code.specs.Shown.{taken, MarksWithin}
use Rattle.code_maker.specs.CheckpointPlaces.{IsCheckpointTo}
use Rattle.code_maker.specs.CodeMeaning.{IsOutside, world_at, PassedLast, MeansGraphs}
use Rattle.code_maker.specs.Resumed.{AreResumed, state_behind}
use Rattle.run_images.specs.Since.{Since, at_first, with_event, since_after}
use Rattle.run_images.specs.Images.{Taking, TakenImage, taken_at, images, since_behind}
use Rattle.run_images.specs.JoinedList.{IsJoinedList}
use Rattle.run_images.specs.Source.{Source, IsSource, run_of, output_of, taking_of, images_of}
use Rattle.run_images.specs.Stands.{StandsFor}
use Rattle.run_images.specs.Compiled.{CompiledView, IsCompiled, cells_in}
use Rattle.run_images.specs.Origin.{Origin, origin_world, begun_at, IsResumedAt, IsAsSource, events_before, IsOfSource}
use Rattle.run_images.proofs.ImageLaws.{since_more, noted_due, same_last}
use Rattle.run_images.proofs.JoinLaws.{Newest, joined_newest}
use Rattle.run_images.proofs.FactLaws.{Past, all_facts}
use Rattle.run_images.proofs.SinceLaws.{input_counted, output_counted}
use Rattle.run_images.proofs.CodeRuns.{RunLaws, CodeLaws, Stopped, run_stopped, mark_within, stops_in, nothing_at_first}

-- ---- the program's cells

words_long : (os : List RObject) → length (object_words os) ≡ object_cells os
words_long [] = refl
words_long (o ∷ os) = length-append (replicate o.length (word_of o.first)) (object_words os) ∙ (let a = length-replicate o.length (word_of o.first) in let b = words_long os in omega (arith, a, b))

first_long : (p : Resolved) → length (first_words p) ≡ cell_count p
first_long p = length-append (object_words p.objects) (replicate (length p.main.locals) 0) ∙ (let a = words_long p.objects in let b = length-replicate {A = ℕ} (length p.main.locals) 0 in omega (arith, a, b))

pub cells_are : (s : Source) (c : CompiledView) → IsCompiled s c → cells_in c ≡ cell_count s.program
cells_are s c compiled = ap length compiled.words ∙ first_long s.program

taking_same : (s : Source) (every n : ℕ) (sets : Sets) → n ≡ cell_count s.program → sets ≡ s.sets → record { marks = s.marks; cells = n; sets = sets; every = every } ≡ taking_of s every
taking_same s every n sets e f = ap (λ (k : ℕ). the_taking k sets) e ∙ ap (the_taking (cell_count s.program)) f
  where
    the_taking : ℕ → Sets → Taking
    the_taking k x = record { marks = s.marks; cells = k; sets = x; every = every }

world_same : (a b : machine.State) (m k : List ℕ) (i j : List ℕ) (x y : List Event) → a ≡ b → m ≡ k → i ≡ j → x ≡ y → world a m i x ≡ world b k j y
world_same a b m k i j x y e f g h = ap (λ z. world z m i x) e ∙ ap (λ z. world b z i x) f ∙ ap (λ z. world b k z x) g ∙ ap (λ z. world b k j z) h

some_is : {X : Type 0} {a b : X} → Some a ≡ Some b → a ≡ b
some_is e = cc

none_some : {X : Type 0} {a : X} → None ≡ Some a → ⊥
none_some e = cc

none_image : (x : TakenImage) (xs : List TakenImage) → xs ++ x ∷ [] ≡ [] → ⊥
none_image x [] e = cc
none_image x (y ∷ ys) e = cc

module _ (laws : RunLaws) (s : Source) (is : IsSource s) (code : CodeView) (means : MeansGraphs s.program code) where
  abbrev p : Resolved
  p = s.program

  abbrev first : State
  first = first_state p s.input

  outside_first : IsOutside p first
  outside_first = record { objects = refl; locals = refl }

  -- the run of the code from its start is the source's
  pub source_run : (n : ℕ) → CodeRun code (world_at 0 first) n (run_of s n)
  source_run n = subst (CodeRun code (world_at 0 first) n) (sym (laws.means p s.input n)) (means.from_entry first n outside_first)

  nothing : (run_of s 0).events ≡ []
  nothing = nothing_at_first laws p s.input

  module _ (codes : CodeLaws) where
    -- ---- behind the checkpoint of the newest record

    module _ (every : ℕ) (rs : List Image) (file : List ℕ) (stands : StandsFor s every rs file) where
      abbrev f : Fields
      f = stands.newest

      abbrev T : ℕ
      T = f.steps

      abbrev G : Run
      G = run_of s T

      abbrev taking : Taking
      taking = taking_of s every

      last : Newest (Some f) (images_of s every T)
      last = by_records rs stands.newest_is stands.joined
        where
          by_records : (qs : List Image) → newest_of None qs ≡ Some f → IsJoinedList qs (images_of s every T) → Newest (Some f) (images_of s every T)
          by_records [] e j = absurd (none_some e)
          by_records (q ∷ qs) e j = subst (λ (o : Option Fields). Newest o (images_of s every T)) e (joined_newest q qs (images_of s every T) j)

      some_image : (since_after every G.events at_first).number ≡ 0 → ⊥
      some_image z = none_image last.image last.front (sym last.split ∙ (all_facts taking G.events).none z)

      past : Past taking G.events (since_after every G.events at_first)
      past = (all_facts taking G.events).some some_image

      image_is : past.image.fields ≡ f
      image_is = ap (λ (i : TakenImage). i.fields) (same_last past.front last.front past.image last.image (sym past.images_are ∙ last.split)) ∙ sym (some_is last.fields)

      tick_is : past.tick ≡ T
      tick_is = sym (ap (λ (i : TakenImage). i.fields.steps) past.taken) ∙ ap (λ (x : Fields). x.steps) image_is

      split : G.events ≡ past.before ++ Checkpoint f.node T ∷ past.behind
      split = past.split ∙ ap (λ k. past.before ++ Checkpoint k past.tick ∷ past.behind) (ap (λ (x : Fields). x.node) image_is) ∙ ap (λ t. past.before ++ Checkpoint f.node t ∷ past.behind) tick_is

      stopped : Stopped (world_at 0 first) (0 + T) G
      stopped = run_stopped laws code (world_at 0 first) T G (source_run T)

      ticks_are : G.ticks ≡ T
      ticks_are =
          let marks = mark_within 0 G.ticks f.node T past.before past.behind (subst (λ l. MarksWithin 0 G.ticks l) (sym stopped.events ∙ split) stopped.marks) in
          omega (arith, marks.1, stopped.high)

      none_behind : past.behind ≡ []
      none_behind = codes.ends p code 0 T f.node first G past.before past.behind is.checked means (inl refl) outside_first (source_run T) (split ∙ ap (λ t. past.before ++ Checkpoint f.node t ∷ past.behind) (sym ticks_are))

      -- the run has just passed it
      passes : G.events ≡ past.before ++ Checkpoint f.node T ∷ []
      passes = split ∙ ap (λ l. past.before ++ Checkpoint f.node T ∷ l) none_behind

      pub since_is : since_after every G.events at_first ≡ since_behind f
      since_is =
          ap (λ l. since_after every l at_first) passes ∙ since_more every past.before (Checkpoint f.node T ∷ []) at_first
          ∙ ap (λ t. with_event every (Checkpoint f.node t) (since_after every past.before at_first)) (sym tick_is)
          ∙ noted_due taking f.node past.tick (since_after every past.before at_first) past.due
          ∙ ap (λ (k : ℕ). since_behind (taken_at taking k past.tick (since_after every past.before at_first)).fields) (sym (ap (λ (x : Fields). x.node) image_is))
          ∙ ap (λ (i : TakenImage). since_behind i.fields) (sym past.taken) ∙ ap since_behind image_is

      pub input_is : f.input_place ≡ taken G.events
      input_is = sym (ap (λ (x : Since). x.input_place) since_is) ∙ input_counted every G.events at_first ∙ omega arith

      pub output_is : f.output_length ≡ length (output_of s T)
      output_is = sym (ap (λ (x : Since). x.output_length) since_is) ∙ output_counted every G.events at_first ∙ omega arith

      passed : PassedLast first f.node G
      passed = record { more = past.before; events = passes ∙ ap (λ t. past.before ++ Checkpoint f.node t ∷ []) (sym ticks_are) }

      abbrev behind : State
      behind = state_behind p s.input G

      outside_behind : IsOutside p behind
      outside_behind = record { objects = refl; locals = refl }

      abbrev Place : Type 0
      Place = (q : ℕ) × (next : ℕ) × IsCheckpointTo p f.node next × (has_checkpoint code f.node q ≡ true) × (length G.memory ≡ cell_count p) × Reaches code (world_at 0 first) (world_at q behind)

      there : Place
      there = codes.behind p code s.input T f.node G is.checked means (source_run T) passed

      abbrev next : ℕ
      next = there.1

      to : IsCheckpointTo p f.node next
      to = there.2

      size : length G.memory ≡ cell_count p
      size = there.4

      -- the source's run goes on from there
      goes_on : (n : ℕ) → run_of s (T + n) ≡ graph_run (graphs_of p) (spot None next []) behind n
      goes_on n =
          let q = there.0 in
          let listed : has_checkpoint code f.node q ≡ true = there.3 in
          let reaches : Reaches code (world_at 0 first) (world_at q behind) = there.5 in
          let on = laws.passes code (world_at 0 first) (world_at q behind) (T + n) (run_of s (T + n)) (source_run (T + n)) reaches (omega (arith, ticks_are)) in
          let left : (0 + (T + n)) - G.ticks ≡ n = omega (arith, ticks_are) in
          laws.one code (world_at q behind) n (run_of s (T + n)) (graph_run (graphs_of p) (spot None next []) behind n) (subst (λ k. CodeRun code (world_at q behind) k (run_of s (T + n))) left on)
          (means.from_checkpoint f.node q next behind n outside_behind to.does to.edge listed)

      module _ (q fill : ℕ) (m : List ℕ) (listed : has_checkpoint code f.node q ≡ true) (long : length m ≡ cell_count p)
          (words : (k : ℕ) → k < cell_count p → slice_index m k ≡ unwrap_or (memory rs k) (fill_word fill)) where
        abbrev own : State
        own = with_cells m behind

        outside_own : IsOutside p own
        outside_own = record { objects = refl; locals = refl }

        same_words : (k : ℕ) → (IsForgettable s.graph k f.node → ⊥) → slice_index G.memory k ≡ slice_index m k
        same_words k kept = ⊎_elim
            (λ lt. sym (words k lt ∙ ap (λ (o : Option ℕ). unwrap_or o (fill_word fill)) (stands.words k lt kept)))
            (λ le. get_or_past G.memory k 0 (omega (arith, le, size)) ∙ sym (get_or_past m k 0 (omega (arith, le, long))))
            (cases_lt k (cell_count p))

        resumed : AreResumed p s.graph f.node next behind own
        resumed = record {
          outside = outside_behind;
          alike = record { rest = refl; objects = refl; size = size; same_size = long; words = same_words };
          pointers = record {
            cells = λ k wanted pointer. codes.pointers p s.graph code s.input T f.node G is.checked is.graph means (source_run T) passed next k to wanted pointer;
            locals = tt;
          };
        }

        -- the source's run from the place of the life
        from_place : (n : ℕ) → CodeRun code (world_at q behind) n (run_of s (T + n))
        from_place n = subst (CodeRun code (world_at q behind) n) (sym (goes_on n)) (means.from_checkpoint f.node q next behind n outside_behind to.does to.edge listed)

        own_alike : (n : ℕ) (r : Run) → CodeRun code (world_at q own) n r → EndAlike (run_of s (T + n)) r
        own_alike n r run = codes.alike p s.graph code f.node q next behind own n (run_of s (T + n)) r is.checked is.graph means to listed resumed (from_place n) run

        own_passes : (w : World) (node : ℕ) (more : List Event) → Reaches code (world_at q own) w → w.events ≡ G.events ++ (more ++ Checkpoint node w.state.ticks ∷ []) → IsAsSource s node w
        own_passes w node more reaches events =
            let n = w.state.ticks - T in
            let shown = laws.shows code (world_at q own) w reaches in
            let at : T + n ≡ w.state.ticks = omega (arith, shown.ticks, ticks_are) in
            let bound : own.ticks + n ≡ w.state.ticks = omega (arith, at, ticks_are) in
            let mine : Run = graph_run (graphs_of p) (spot None next []) own n in
            let run : CodeRun code (world_at q own) n mine = means.from_checkpoint f.node q next own n outside_own to.does to.edge listed in
            let stops = stops_in laws codes.ends p code q own w node n more mine is.checked means (inr (f.node, next, to, listed)) outside_own reaches events bound run in
            let alike = own_alike n mine run in
            let same : (run_of s (T + n)).events ≡ w.events = alike.events ∙ stops.events in
            let passed_w : PassedLast behind node (run_of s (T + n)) = record { more = more; events = same ∙ events ∙ ap (λ t. G.events ++ (more ++ Checkpoint node t ∷ [])) (sym (alike.ticks ∙ stops.ticks)) } in
            let agree = codes.agree p s.graph code f.node q next behind own n node (run_of s (T + n)) mine is.checked is.graph means to listed resumed (from_place n) run passed_w in
            record {
              events = ap (λ k. (run_of s k).events) (sym at) ∙ same;
              words = λ k kept. ap (λ j. slice_index (run_of s j).memory k) (sym at) ∙ agree.words k kept ∙ stops.words k;
            }

-- ---- the two origins

pub begun_is_of_source : RunLaws → CodeLaws → (s : Source) (c : CompiledView) (every : ℕ) → IsSource s → IsCompiled s c → s.spaced every ≡ true → IsOfSource s (begun_at c s.marks every s.input)
begun_is_of_source laws codes s c every is compiled spaced = record {
  like = record {
    alike = λ n r run. subst (λ k. EndAlike (run_of s k) r) (sym (from_zero n)) (subst (EndAlike (run_of s n)) (laws.one c.code (world_at 0 start) n (run_of s n) r (runs n) (subst (λ w. CodeRun c.code w n r) world_is run)) (record { events = refl; ending = refl; ticks = refl }));
    passes = λ w node more reaches events.
        let stops = stops_in laws codes.ends s.program c.code 0 start w node w.state.ticks more (run_of s w.state.ticks) is.checked compiled.code (inl refl) outside (subst (λ v. Reaches c.code v w) world_is reaches) (events ∙ ap (λ l. l ++ (more ++ Checkpoint node w.state.ticks ∷ [])) none) (from_zero w.state.ticks) (runs w.state.ticks) in
        record { events = stops.events; words = λ k kept. stops.words k };
  };
  taking = taking_same s every (cells_in c) c.sets (cells_are s c compiled) compiled.sets;
  since = sym (ap (λ l. since_after every l at_first) none);
  output = sym (ap output none);
  records = ap (images (taking_of s every)) none;
  spaced = spaced;
}
  where
    start : State
    start = first_state s.program s.input

    none : (run_of s 0).events ≡ []
    none = nothing laws s is c.code compiled.code

    outside : IsOutside s.program start
    outside = record { objects = refl; locals = refl }

    runs : (n : ℕ) → CodeRun c.code (world_at 0 start) n (run_of s n)
    runs = source_run laws s is c.code compiled.code

    from_zero : (n : ℕ) → 0 + n ≡ n
    from_zero n = omega arith

    world_is : origin_world (begun_at c s.marks every s.input) (run_of s 0).events ≡ world_at 0 start
    world_is = world_same (standing 0 0) (standing 0 0) c.words (first_words s.program) s.input s.input (run_of s 0).events [] refl compiled.words refl none

pub resumed_is_of_source : RunLaws → CodeLaws → (s : Source) (c : CompiledView) (every fill : ℕ) (rs : List Image) (file : List ℕ) (o : Origin) → IsSource s → IsCompiled s c → StandsFor s every rs file
    → IsResumedAt c s.marks every fill s.input rs file o → IsOfSource s o
resumed_is_of_source laws codes s c every fill rs file o is compiled stands at = record {
  like = record {
    alike = λ n r run. subst (λ t. EndAlike (run_of s (t + n)) r) (sym ticks_is) (goes n r (subst (λ w. CodeRun c.code w n r) world_is (subst (λ x. CodeRun x (origin_world o (events_before s o)) n r) at.code run)));
    passes = λ w node more reaches events. passes_on w node more (subst (λ v. Reaches c.code v w) world_is (subst (λ x. Reaches x (origin_world o (events_before s o)) w) at.code reaches)) (events ∙ ap (λ t. (run_of s t).events ++ (more ++ Checkpoint node w.state.ticks ∷ [])) ticks_is);
  };
  taking = at.taking ∙ taking_same s every (cells_in c) c.sets (cells_are s c compiled) compiled.sets ∙ ap (taking_of s) (sym every_is);
  since = at.since ∙ ap since_behind same ∙ sym (since_is laws s is c.code compiled.code codes every rs file stands)
      ∙ ap (λ e. since_after e (run_of s stands.newest.steps).events at_first) (sym every_is) ∙ ap (λ t. since_after o.taking.every (run_of s t).events at_first) (sym ticks_is);
  output = at.output ∙ ap (λ (x : Fields). take x.output_length file) same ∙ ap (λ n. take n file) (output_is laws s is c.code compiled.code codes every rs file stands) ∙ stands.begins ∙ ap (output_of s) (sym ticks_is);
  records = subst (λ l. IsJoinedList l (images_of s o.taking.every o.state.ticks)) (sym at.records) (subst (λ t. IsJoinedList rs (images_of s o.taking.every t)) (sym ticks_is) (subst (λ e. IsJoinedList rs (images_of s e stands.newest.steps)) (sym every_is) stands.joined));
  spaced = ap s.spaced every_is ∙ stands.spaced;
}
  where
    same : at.newest ≡ stands.newest
    same = some_is (sym at.newest_is ∙ stands.newest_is)

    every_is : o.taking.every ≡ every
    every_is = ap (λ (t : Taking). t.every) at.taking

    place : ℕ
    place = at.place.0

    listed : has_checkpoint c.code stands.newest.node place ≡ true
    listed = subst (λ (x : Fields). has_checkpoint c.code x.node place ≡ true) same at.place.1

    state_is : o.state ≡ standing place stands.newest.steps
    state_is = at.place.2 ∙ ap (λ (x : Fields). standing place x.steps) same

    ticks_is : o.state.ticks ≡ stands.newest.steps
    ticks_is = ap (λ (x : machine.State). x.ticks) state_is

    long : length o.memory ≡ cell_count s.program
    long = at.size ∙ cells_are s c compiled

    words : (k : ℕ) → k < cell_count s.program → slice_index o.memory k ≡ unwrap_or (memory rs k) (fill_word fill)
    words k lt = at.words k (subst (λ n. k < n) (sym (cells_are s c compiled)) lt)

    goes : (n : ℕ) (r : Run) → CodeRun c.code (world_at place (own laws s is c.code compiled.code codes every rs file stands place fill o.memory listed long words)) n r → EndAlike (run_of s (stands.newest.steps + n)) r
    goes = own_alike laws s is c.code compiled.code codes every rs file stands place fill o.memory listed long words

    passes_on : (w : World) (node : ℕ) (more : List Event) → Reaches c.code (world_at place (own laws s is c.code compiled.code codes every rs file stands place fill o.memory listed long words)) w
        → w.events ≡ (run_of s stands.newest.steps).events ++ (more ++ Checkpoint node w.state.ticks ∷ []) → IsAsSource s node w
    passes_on = own_passes laws s is c.code compiled.code codes every rs file stands place fill o.memory listed long words

    world_is : origin_world o (events_before s o) ≡ world_at place (own laws s is c.code compiled.code codes every rs file stands place fill o.memory listed long words)
    world_is =
        let run = run_of s stands.newest.steps in
        world_same o.state (standing place run.ticks) o.memory o.memory o.input (drop (taken run.events) s.input) (events_before s o) run.events
        (state_is ∙ ap (standing place) (sym (ticks_are laws s is c.code compiled.code codes every rs file stands))) refl
        (at.input ∙ ap (λ (x : Fields). drop x.input_place s.input) same ∙ ap (λ n. drop n s.input) (input_is laws s is c.code compiled.code codes every rs file stands)) (ap (λ t. (run_of s t).events) ticks_is)
