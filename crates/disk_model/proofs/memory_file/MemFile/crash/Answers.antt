use Rattle.std.proofs.Common.{rules, arith, sym, ◌∙◌, ap, subst, ◌≡◌, ℕ, List, Bool, false, length, take, replicate, length-take}
use Rattle.std.proofs.lemmas.List.{length-replicate}
use Rattle.disk_model.specs.MemoryFile.{FileState, IsFile, settled, crashed}
use Rattle.disk_model.proofs.Outcomes.{settled_file}
use Rattle.disk_model.proofs.memory_file.MemFile.crash.Goals as goal

record_of : (a b bytes : List ℕ) (d : List Bool) (len room : ℕ) → a ≡ bytes → b ≡ bytes → d ≡ replicate room false → len ≡ length bytes
    → (let x : FileState = record { seen = a; lasting = b; dirty = d; low = len; high = len } in x ≡ settled room bytes)
record_of a b bytes d len room p q r s = λ i. record { seen = p i; lasting = q i; dirty = r i; low = s i; high = s i }

pub returns : goal.returns
returns c =
    let f = c.self.inside in
    let len = c.leave-len.result in
    let bytes = crashed c.args.pick (record { seen = take f.seen_len f.seen.items; lasting = take f.lasting_len f.lasting.items; dirty = f.dirty; low = f.low; high = f.high }) in
    let p : take len c.leave-len.new.seen.items ≡ bytes = c.leave-len.ensures.bytes ∙ (λ i. crashed c.args.pick (record { seen = take f.seen_len f.seen.items; lasting = take f.lasting_len (c.deref.ensures.value i); dirty = f.dirty; low = 0; high = 0 })) in
    let q : take len c.copy_from_slice.new.self.items ≡ bytes = ap (λ (l : List ℕ). take len l) (c.copy_from_slice.ensures.items ∙ c.deref-2.ensures.value) ∙ p in
    let r : c.clear.new.self ≡ replicate (length f.dirty) false = c.clear.ensures.exact in
    let s : len ≡ length bytes = omega (arith, ap length p, length-take len c.leave-len.new.seen.items, c.leave-len.ensures.len.1) in
    record_of _ _ bytes _ len (length f.dirty) p q r s ∙ ap (λ (x : FileState). settled (length x.dirty) (crashed c.args.pick x)) c.self.view_is

pub invariant_of-self : goal.invariant_of-self
invariant_of-self c =
    let f = c.self.inside in
    let len = c.leave-len.result in
    let bytes = crashed c.args.pick (record { seen = take f.seen_len f.seen.items; lasting = take f.lasting_len f.lasting.items; dirty = f.dirty; low = f.low; high = f.high }) in
    let p : take len c.leave-len.new.seen.items ≡ bytes = c.leave-len.ensures.bytes ∙ (λ i. crashed c.args.pick (record { seen = take f.seen_len f.seen.items; lasting = take f.lasting_len (c.deref.ensures.value i); dirty = f.dirty; low = 0; high = 0 })) in
    let q : take len c.copy_from_slice.new.self.items ≡ bytes = ap (λ (l : List ℕ). take len l) (c.copy_from_slice.ensures.items ∙ c.deref-2.ensures.value) ∙ p in
    let r : c.clear.new.self ≡ replicate (length f.dirty) false = c.clear.ensures.exact in
    let s : len ≡ length bytes = omega (arith, ap length p, length-take len c.leave-len.new.seen.items, c.leave-len.ensures.len.1) in
    let room = length f.dirty in
    let inv = c.self.invariant in
    let cells : length c.clear.new.self ≡ room = ap length r ∙ length-replicate room false in
    let lasting : length c.copy_from_slice.new.self.items ≡ length c.leave-len.new.seen.items = ap length (c.copy_from_slice.ensures.items ∙ c.deref-2.ensures.value) in
    record {
      seen = (c.leave-len.ensures.len.1, omega (arith, cells, c.leave-len.ensures.len.0, inv.seen.1));
      lasting = (omega (arith, lasting, c.leave-len.ensures.len.1), omega (arith, lasting, cells, c.leave-len.ensures.len.0, inv.seen.1));
      is_file = subst IsFile (sym (record_of _ _ bytes _ len room p q r s)) (settled_file room bytes (omega (arith, s, c.leave-len.ensures.len.0, c.leave-len.ensures.len.1, inv.seen.1)));
    }
