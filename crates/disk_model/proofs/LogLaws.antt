-- A log that takes one entry more.
use Rattle.std.proofs.Common.{◌≡◌, refl, sym, ◌∙◌, ap, ℕ, ◌+◌, ◌-◌, ◌<◌, ◌≤◌, List, [], ◌∷◌, ◌++◌, length, take, drop, slice_range, slice_set, rules, arith, append_assoc, length-take}
use Rattle.std.proofs.lemmas.List.{take-append-le, take-take, take_at, drop_at, take_more_set, map-append}
use Rattle.std.proofs.lemmas.Slice.{between_is}
use Rattle.disk_model.specs.declared.memory_log.Entry.{Entry}
use Rattle.disk_model.specs.MemoryDisk.{Event}
use Rattle.disk_model.specs.MemoryLog.{change_of, event_of, events_of, AreWithin}
use Rattle.disk_model.proofs.Outcomes.{patch}

take_patch : (used n : ℕ) (bytes arena : List ℕ) → n ≤ used → used ≤ length arena → take n (patch used bytes arena) ≡ take n arena
take_patch used n bytes arena le fits =
    ap (λ (l : List ℕ). take n l) (append_assoc (take used arena) bytes (drop (used + length bytes) arena))
    ∙ take-append-le n (take used arena) (bytes ++ drop (used + length bytes) arena) (omega (arith, length-take used arena)) ∙ take-take n used arena le

same_slice : (used from to : ℕ) (bytes arena : List ℕ) → to ≤ used → used ≤ length arena → slice_range (patch used bytes arena) from to ≡ slice_range arena from to
same_slice used from to bytes arena le fits =
    let inner : (s : List ℕ) → take (to - from) (drop from s) ≡ drop from (take to s) = λ s. search (rules, between_is) in
    inner (patch used bytes arena) ∙ ap (λ (l : List ℕ). drop from l) (take_patch used to bytes arena le fits) ∙ sym (inner arena)

pub same_events : (used : ℕ) (bytes arena : List ℕ) (entries : List Entry) → AreWithin used entries → used ≤ length arena → events_of (patch used bytes arena) entries ≡ events_of arena entries
same_events used bytes arena [] within fits = refl
same_events used bytes arena (e ∷ entries) within fits = λ i. (e.file, change_of e.kind e.at (same_slice used e.from e.to bytes arena within.0 fits i)) ∷ same_events used bytes arena entries within.1 fits i

pub new_slice : (used to : ℕ) (bytes arena : List ℕ) → to ≡ used + length bytes → used ≤ length arena → slice_range (patch used bytes arena) used to ≡ bytes
new_slice used to bytes arena is fits =
    let front : length (take used arena) ≡ used = omega (arith, length-take used arena) in
    ap (λ (l : List ℕ). take (to - used) l) (ap (λ (l : List ℕ). drop used l) (append_assoc (take used arena) bytes (drop (used + length bytes) arena)) ∙ drop_at (take used arena) (bytes ++ drop (used + length bytes) arena) used front)
    ∙ take_at bytes (drop (used + length bytes) arena) (to - used) (omega arith)

pub within_push : (used more : ℕ) (entries : List Entry) (e : Entry) → AreWithin used entries → used ≤ more → e.to ≤ more → AreWithin more (entries ++ e ∷ [])
within_push used more [] e within le fits = (fits, tt)
within_push used more (d ∷ entries) e within le fits = (omega (arith, within.0), within_push used more entries e within.1 le fits)

pub noted : (used to count : ℕ) (bytes arena : List ℕ) (entries : List Entry) (e : Entry) → AreWithin used (take count entries) → used ≤ length arena → count < length entries → to ≡ used + length bytes → e.from ≡ used → e.to ≡ to
    → events_of (patch used bytes arena) (take (count + 1) (slice_set entries count e)) ≡ events_of arena (take count entries) ++ (e.file, change_of e.kind e.at bytes) ∷ []
noted used to count bytes arena entries e within fits room is from_is to_is =
    ap (events_of (patch used bytes arena)) (take_more_set entries count e room)
    ∙ map-append (event_of (patch used bytes arena)) (take count entries) (e ∷ [])
    ∙ ap (λ (l : List Event). l ++ event_of (patch used bytes arena) e ∷ []) (same_events used bytes arena (take count entries) within fits)
    ∙ ap (λ (b : List ℕ). events_of arena (take count entries) ++ (e.file, change_of e.kind e.at b) ∷ [])
    ((λ i. slice_range (patch used bytes arena) (from_is i) (to_is i)) ∙ new_slice used to bytes arena is fits)
