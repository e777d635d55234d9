use Rattle.std.proofs.Common.{arith, refl, ◌∙◌, ap, ◌≤◌, ◌<◌, ◌+◌, ◌*◌, ◌-◌, ◌++◌, [], ◌∷◌, ℕ, List, length, take, slice_set, length-set}
use Rattle.std.proofs.lemmas.List.{take_more_set}
use Rattle.disk_model.specs.declared.memory_log.Entry.{Entry}
use Rattle.disk_model.specs.MemoryLog.{LogState, change_of, events_of}
use Rattle.disk_model.specs.MemoryDisk.{Event}
use Rattle.disk_model.proofs.LogLaws.{noted, within_push}
use Rattle.disk_model.proofs.Outcomes.{length-patch}
use Rattle.disk_model.proofs.memory_log.Log.note.Goals as goal

pub invariant_of-self : goal.invariant_of-self
invariant_of-self c =
    let l = c.self.inside in
    let inv = c.self.invariant in
    let needs : 32 + length c.args.bytes.now ≤ length l.arena.items - (32 * l.count + l.used) = omega (arith, c.requires, ap (λ (x : LogState). x.left) c.self.view_is) in
    let size = ap length c.put.ensures ∙ length-patch l.used c.args.bytes.now l.arena.items (omega (arith, needs)) in
    let room : l.count < length l.entries.items = omega (arith, inv.entries, needs) in
    record {
      room = omega (arith, size, needs);
      entries = omega (arith, size, needs, inv.entries, length-set l.entries.items l.count (record { file = c.args.file; kind = c.args.kind; at = c.args.at; from = l.used; to = l.used + length c.args.bytes.now }));
      within = rw (take_more_set l.entries.items l.count _ room) (within_push l.used _ (take l.count l.entries.items) _ inv.within (omega arith) (omega arith));
    }

pub returns-clause-events : goal.returns-clause-events
returns-clause-events c =
    let l = c.self.inside in
    let inv = c.self.invariant in
    let needs : 32 + length c.args.bytes.now ≤ length l.arena.items - (32 * l.count + l.used) = omega (arith, c.requires, ap (λ (x : LogState). x.left) c.self.view_is) in
    let e : Entry = record { file = c.args.file; kind = c.args.kind; at = c.args.at; from = l.used; to = l.used + length c.args.bytes.now } in
    ap (λ (a : List ℕ). events_of a (take (l.count + 1) (slice_set l.entries.items l.count e))) c.put.ensures
    ∙ noted l.used _ l.count c.args.bytes.now l.arena.items l.entries.items _ inv.within (omega (arith, needs)) (omega (arith, inv.entries, needs)) refl refl refl
    ∙ ap (λ (es : List Event). es ++ (c.args.file, change_of c.args.kind c.args.at c.args.bytes.now) ∷ []) (ap (λ (x : LogState). x.events) c.self.view_is)
