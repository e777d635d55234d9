-- What a run of instructions over frames and pages comes to, where each write fault is served.
use Rattle.std.specs.Prelude.{◌≡◌, ℕ, ◌/◌, ◌<◌, Bool, true, false, ◌==◌, ◌||◌, List, ◌++◌, length, Option}
use Rattle.std.specs.List.{AllByRecursion, list_any}
use Rattle.ckpt_base.specs.Event.{Event, Wrote, Byte, Took, Excluded, Checkpoint}
use Rattle.dirty_pages.specs.Pages.{PageStates, is_dirty, in_snapshot}
use Rattle.machine_code.specs.declared.event.Event as machine
use Rattle.machine_code.specs.CodeView.{CodeView}
use Rattle.machine_code.specs.Run.{world, after}
use Rattle.machine_code.specs.State.{State}
use Rattle.paged_machine.specs.RunOn.{told_by}

-- the event is a store into some cell
abbrev pub IsStore : Event → Type 0
IsStore e = (cell : ℕ) × (e ≡ Wrote cell)

-- whether it is one into a cell of this page
abbrev pub writes_page : ℕ → Event → Bool
writes_page page (Wrote cell) = cell / 512 == page
writes_page page (Byte b) = false
writes_page page Took = false
writes_page page (Excluded k) = false
writes_page page (Checkpoint node tick) = false

-- The run goes on from one standing to another by so many instructions, with stores, and then what the answer shows. The dirty pages are those that were, and those that it wrote; in the snapshot is no page that was not.
pub record RunsOver (c : CodeView) (s : State) (m : List ℕ) (old : PageStates) (answer : Option machine.Event) (t : State) (n : List ℕ) (new : PageStates) : Type 0 where
  pub count : ℕ
  pub stores : List Event
  pub each : AllByRecursion IsStore stores
  pub comes : (input : List ℕ) (events : List Event) → after c count (world s m input events) ≡ world t n input (events ++ (stores ++ told_by t.ticks answer))
  pub pages : length new.dirty ≡ length old.dirty
  pub dirty : (page : ℕ) → page < length old.dirty → is_dirty new page ≡ (is_dirty old page || list_any (writes_page page) stores)
  pub marks : length new.in_snapshot ≡ length old.in_snapshot
  pub fewer : (page : ℕ) → in_snapshot new page ≡ true → in_snapshot old page ≡ true
