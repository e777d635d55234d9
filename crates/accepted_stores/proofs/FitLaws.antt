-- The chain of a store that stands fits its program, its input and its output.
use Rattle.std.proofs.Common.{◌≡◌, ◌↔◌, refl, sym, ◌∙◌, ap, subst, ℕ, ◌+◌, ◌≤◌, Bool, true, false, cond, List, [], ◌∷◌, ◌++◌, length, take, Some, arith}
use Rattle.std.specs.Prelude.{slice_get}
use Rattle.std.specs.List.{Contains}
use Rattle.std.proofs.lemmas.List.{length-append, length-take}
use Rattle.ckpt_base.specs.Event.{Event, Wrote, Byte, Took, Excluded, Checkpoint}
use Rattle.ckpt_base.specs.Run.{Run, output}
use Rattle.c_tree.specs.declared.resolved.Resolved.{Resolved}
use Rattle.c_tree.specs.Checked.{IsChecked}
use Rattle.c_tree.specs.Excludes.{excludes}
use Rattle.c_tree.specs.Meaning.{meaning}
use Rattle.c_tree.specs.State.{first_state}
use Rattle.flow_graph.specs.declared.node.NodeWork.{NodeWork}
use Rattle.flow_graph.specs.declared.node.NodeWork.TheVariants as work
use Rattle.flow_graph.specs.Checkpoints.{checkpoints_of}
use Rattle.flow_graph.specs.Run.{graphs_of}
use Rattle.disk_model.specs.Store.{Store}
use Rattle.image_format.specs.declared.fields.Fields.{Fields}
use Rattle.image_chain.specs.Records.{Found}
use Rattle.machine_code.specs.declared.instr.Instr.TheVariants.{Excl}
use Rattle.machine_code.specs.Run.{CodeRun, next_row, unprotected}
use Rattle.machine_code.specs.Shown.{taken}
use Rattle.code_maker.specs.CheckpointPlaces.{IsCheckpoint, CheckpointsAreThere}
use Rattle.code_maker.specs.CodeMeaning.{world_at}
use Rattle.code_maker.specs.ProgramCode.{code_of}
use Rattle.run_images.specs.Since.{Since, at_first, is_due, with_event, since_after}
use Rattle.run_images.specs.Source.{Source, IsSource, run_of, output_of, taking_of}
use Rattle.run_images.specs.Stands.{Stands}
use Rattle.run_images.proofs.AlikeLaws.{cells_are}
use Rattle.run_images.proofs.CodeRuns.{stops_by}
use Rattle.run_images.proofs.LifeLaws.{output_both}
use Rattle.run_images.proofs.SinceLaws.{input_counted, output_counted}
use Rattle.ckpt_runner.specs.Opening.{Given, HasChain}
use Rattle.ckpt_runner.specs.Standing.{IsGivenSource}
use Rattle.ckpt_runner.specs.Unfit.{Fits}
use Rattle.accepted_stores.proofs.ListedCells.{none_from, not_in_memory}
use Rattle.accepted_stores.proofs.NewestLaws.{IsTakenBehind, StandsWith, newest_taken, found_stands}
use Rattle.accepted_stores.proofs.OwnEvents.{Marked, AreOwn, own_front, own_at, own_run, taken_both}

-- the laws of programs and their codes that are used here
pub record ProgramLaws : Type 0 where
  pub runs : (p : Resolved) (input : List ℕ) (n : ℕ) → IsChecked p → CodeRun (code_of p) (world_at 0 (first_state p input)) n (meaning p input n)
  pub there : (p : Resolved) → IsChecked p → CheckpointsAreThere p (code_of p)
  pub directives : (p : Resolved) (q k : ℕ) → IsChecked p → slice_get (code_of p).instrs q ≡ Some (Excl k) → (1 ≤ k) × (k ≤ length (excludes p.main.body))
  pub exact : (ws : List NodeWork) (n : ℕ) → Contains (checkpoints_of ws) n ↔ (slice_get ws n ≡ Some work.Checkpoint)

-- the checkpoints and the directives of a program
abbrev pub marked : Resolved → Marked
marked p = record { node = IsCheckpoint p; directives = length (excludes p.main.body) }

-- what the source's run shows is its program's, and it takes no more input than there is
pub record KeepsTo (s : Source) (n : ℕ) : Type 0 where
  pub own : AreOwn (marked s.program) (run_of s n).events
  pub input : taken (run_of s n).events ≤ length s.input

pub source_keeps : ProgramLaws → (s : Source) → IsSource s → (n : ℕ) → KeepsTo s n
source_keeps laws s is n =
    let p = s.program in
    let first = world_at 0 (first_state p s.input) in
    let run = laws.runs p s.input n is.checked in
    let v = run.0 in
    let at = stops_by v (0 + n) (run_of s n) (next_row (code_of p) unprotected v.state v.memory).event run.2 in
    let events : (run_of s n).events ≡ v.events = ap (λ (r : Run). r.events) at.is in
    let keeps = own_run (marked p) (code_of p) (record { nodes = (laws.there p is.checked).nodes; directives = λ q k here. (laws.directives p q k is.checked here).1 }) first v refl run.1 in
    record {
      own = subst (AreOwn (marked p)) (sym events) keeps.0;
      input = subst (λ es. taken es ≤ length s.input) (sym events) keeps.1;
    }

-- the directive in force is one of the program's
mark_directive : (every node tick : ℕ) (s : Since) → (with_event every (Checkpoint node tick) s).directive ≡ s.directive
mark_directive every node tick s = by_due (is_due every s tick)
  where
    by_due : (b : Bool) → (cond b (record s { number = s.number + 1; newest_tick = tick; written = []; included = true }) s).directive ≡ s.directive
    by_due true = refl
    by_due false = refl

own_directive : (p : Marked) (every : ℕ) (es : List Event) (s : Since) → s.directive ≤ p.directives → AreOwn p es → (since_after every es s).directive ≤ p.directives
own_directive p every [] s le own = le
own_directive p every (Wrote c ∷ es) s le own = own_directive p every es (with_event every (Wrote c) s) le own.1
own_directive p every (Byte b ∷ es) s le own = own_directive p every es (with_event every (Byte b) s) le own.1
own_directive p every (Took ∷ es) s le own = own_directive p every es (with_event every Took s) le own.1
own_directive p every (Excluded k ∷ es) s le own = own_directive p every es (with_event every (Excluded k) s) own.0 own.1
own_directive p every (Checkpoint m t ∷ es) s le own = own_directive p every es (with_event every (Checkpoint m t) s) (subst (λ n. n ≤ p.directives) (sym (mark_directive every m t s)) le) own.1

begun_length : (o file : List ℕ) → take (length o) file ≡ o → length o ≤ length file
begun_length o file e = omega (arith, ap length e, length-take (length o) file)

module _ (laws : ProgramLaws) (g : Given) (s : Source) (c : Store) (found : Found) (given : IsGivenSource g s) where
  abbrev every : ℕ
  every = found.header.every

  abbrev program : Marked
  program = marked s.program

  module _ (f : Fields) (with : StandsWith s found c.output f) where
    taken_behind : IsTakenBehind s every f
    taken_behind = subst (IsTakenBehind s every) with.same (newest_taken s every found.records c.output with.stands)

    abbrev before : List Event
    before = taken_behind.before

    abbrev rest : List Event
    rest = Checkpoint f.node taken_behind.tick ∷ taken_behind.behind

    keeps : KeepsTo s f.steps
    keeps = source_keeps laws s given.source f.steps

    own : AreOwn program (before ++ rest)
    own = subst (AreOwn program) taken_behind.split keeps.own

    node : Contains g.compiled.checkpoints f.node
    node =
        let is : IsCheckpoint s.program f.node = own_at program before (Checkpoint f.node taken_behind.tick) taken_behind.behind own in
        subst (λ (ns : List ℕ). Contains ns f.node) (sym given.compiled.checkpoints) ((laws.exact (graphs_of s.program).main.works f.node).1 is)

    directive : f.directive ≤ g.compiled.directives
    directive =
        let is : f.directive ≡ (since_after every before at_first).directive = ap (λ (x : Fields). x.directive) taken_behind.fields in
        let le : (since_after every before at_first).directive ≤ length (excludes s.program.main.body) = own_directive program every before at_first (omega arith) (own_front program before rest own) in
        omega (arith, is, le, given.compiled.directives)

    input_place : f.input_place ≤ length g.input
    input_place =
        let is : f.input_place ≡ (since_after every before at_first).input_place = ap (λ (x : Fields). x.input_place) taken_behind.fields in
        let all : taken (run_of s f.steps).events ≡ taken (before ++ rest) = ap taken taken_behind.split in
        omega (arith, is, input_counted every before at_first, all, taken_both before rest, keeps.input, ap length given.input)

    begins : length (output_of s f.steps) ≤ length c.output
    begins = subst (λ (x : Fields). length (output_of s x.steps) ≤ length c.output) with.same (begun_length (output_of s with.stands.newest.steps) c.output with.stands.begins)

    output_length : f.output_length ≤ length c.output
    output_length =
        let is : f.output_length ≡ (since_after every before at_first).output_length = ap (λ (x : Fields). x.output_length) taken_behind.fields in
        let all : output_of s f.steps ≡ output before ++ output rest = ap output taken_behind.split ∙ output_both before rest in
        omega (arith, is, output_counted every before at_first, ap length all, length-append (output before) (output rest), begins)

    fits_with : Fits g.compiled (length g.input) (length c.output) found f
    fits_with = record {
      cells = λ k le. not_in_memory found.records _ k with.stands.joined (none_from (taking_of s every) (run_of s with.stands.newest.steps).events at_first k (subst (λ n. n ≤ k) (cells_are s g.compiled given.compiled) le));
      node = node;
      input_place = input_place;
      output_length = output_length;
      directive = directive;
    }

  pub chain_fits : (f : Fields) → Stands s c → HasChain c found f → Fits g.compiled (length g.input) (length c.output) found f
  chain_fits f stands has = fits_with f (found_stands s c found f stands has.chain has.newest_is)
