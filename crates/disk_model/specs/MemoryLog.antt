-- The changes that a disk in memory keeps.
use Rattle.std.specs.Prelude.{◌≡◌, ℕ, ◌≤◌, List, [], ◌∷◌, length, map, slice_range}
use Rattle.disk_model.specs.Change.{Change, Write, Cut, Sync, Start}
use Rattle.disk_model.specs.declared.memory_log.Kind.{Kind}
use Rattle.disk_model.specs.declared.memory_log.Kind.TheVariants as kinds
use Rattle.disk_model.specs.declared.memory_log.Entry.{Entry}
use Rattle.disk_model.specs.MemoryDisk.{Event}

-- the change of that kind, at that place or length and with these bytes
abbrev pub change_of : Kind → ℕ → List ℕ → Change
change_of kinds.Write at bytes = Write at bytes
change_of kinds.Cut at bytes = Cut at
change_of kinds.Sync at bytes = Sync
change_of kinds.Start at bytes = Start bytes

-- an entry of the log, whose bytes stand in the buffer of all of them
abbrev pub event_of : List ℕ → Entry → Event
event_of arena e = (e.file, change_of e.kind e.at (slice_range arena e.from e.to))

abbrev pub events_of : List ℕ → List Entry → List Event
events_of arena entries = map (event_of arena) entries

-- each entry's bytes stand in this front of the buffer
abbrev pub AreWithin : ℕ → List Entry → Type 0
AreWithin used [] = Unit {0}
AreWithin used (e ∷ entries) = (e.to ≤ used) × AreWithin used entries

-- the changes, and the room that is left for more
pub record LogState : Type 0 where
  pub events : List Event
  pub left : ℕ

-- the bytes that a change of that kind brings: none for a cut and a sync, 16 for a start
abbrev pub AreDataOf : Kind → List ℕ → Type 0
AreDataOf kinds.Write bytes = Unit {0}
AreDataOf kinds.Cut bytes = bytes ≡ []
AreDataOf kinds.Sync bytes = bytes ≡ []
AreDataOf kinds.Start bytes = length bytes ≡ 16
