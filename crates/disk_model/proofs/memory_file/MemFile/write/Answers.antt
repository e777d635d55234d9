use Rattle.std.proofs.Common.{arith, sym, ◌∙◌, ap, subst, ◌≤◌, ℕ, List, length, take, length-take}
use Rattle.disk_model.specs.Change.{Write}
use Rattle.disk_model.specs.MemoryFile.{FileState, IsFile, IsTaken, changed}
use Rattle.disk_model.proofs.Outcomes.{patch, patch_front, write_file, same_state, length-patch, length-marked}
use Rattle.disk_model.proofs.memory_file.MemFile.write.Goals as goal

pub invariant_of-self : goal.invariant_of-self
invariant_of-self c =
    let f = c.self.inside in
    let s : FileState = record { seen = take f.seen_len f.seen.items; lasting = take f.lasting_len f.lasting.items; dirty = f.dirty; low = f.low; high = f.high } in
    let taken : IsTaken (Write c.args.at c.args.bytes.now) s = subst (λ x. IsTaken (Write c.args.at c.args.bytes.now) x) (sym c.self.view_is) c.requires in
    let inv = c.self.invariant in
    let at_len : c.args.at ≤ f.seen_len = omega (arith, taken.0, length-take f.seen_len f.seen.items) in
    let room = taken.1 in
    let eq = same_state _ _ (take f.lasting_len f.lasting.items) _ _ f.low _ _ (ap (λ (l : List ℕ). take c.max-self-inside.result l) c.put.ensures ∙ ap (λ (k : ℕ). take k (patch c.args.at c.args.bytes.now f.seen.items)) c.max-self-inside.ensures ∙ patch_front f.seen.items c.args.bytes.now f.seen_len c.args.at at_len (inv.seen.0) (omega (arith, room, inv.seen.1))) c.mark.ensures.exact c.max-self-inside-2.ensures in
    record {
      seen = (omega (arith, ap length c.put.ensures, length-patch c.args.at c.args.bytes.now f.seen.items (omega (arith, room, inv.seen.1)), inv.seen.0, room, inv.seen.1), omega (arith, ap length c.put.ensures, length-patch c.args.at c.args.bytes.now f.seen.items (omega (arith, room, inv.seen.1)), ap length c.mark.ensures.exact, length-marked c.args.at (length c.args.bytes.now) f.dirty room, room, inv.seen.1));
      lasting = (inv.lasting.0, omega (arith, ap length c.mark.ensures.exact, length-marked c.args.at (length c.args.bytes.now) f.dirty room, inv.lasting.1));
      is_file = subst IsFile (sym eq) (write_file s inv.is_file c.args.at c.args.bytes.now taken.0 room);
    }

pub returns : goal.returns
returns c =
    let f = c.self.inside in
    let s : FileState = record { seen = take f.seen_len f.seen.items; lasting = take f.lasting_len f.lasting.items; dirty = f.dirty; low = f.low; high = f.high } in
    let taken : IsTaken (Write c.args.at c.args.bytes.now) s = subst (λ x. IsTaken (Write c.args.at c.args.bytes.now) x) (sym c.self.view_is) c.requires in
    let inv = c.self.invariant in
    let at_len : c.args.at ≤ f.seen_len = omega (arith, taken.0, length-take f.seen_len f.seen.items) in
    let room = taken.1 in
    same_state _ _ (take f.lasting_len f.lasting.items) _ _ f.low _ _ (ap (λ (l : List ℕ). take c.max-self-inside.result l) c.put.ensures ∙ ap (λ (k : ℕ). take k (patch c.args.at c.args.bytes.now f.seen.items)) c.max-self-inside.ensures ∙ patch_front f.seen.items c.args.bytes.now f.seen_len c.args.at at_len (inv.seen.0) (omega (arith, room, inv.seen.1))) c.mark.ensures.exact c.max-self-inside-2.ensures
    ∙ ap (λ x. changed (Write c.args.at c.args.bytes.now) x) c.self.view_is
