use Rattle.std.proofs.Common.{rules, ◌≡◌, ◌≤◌, ◌∙◌, sym, ap, ◌++◌, ◌+◌, ◌-◌, ℕ, List, Bool, false, length, take, replicate, arith}
use Rattle.std.proofs.lemmas.List.{append_assoc, length-append, length-replicate, replicate-append-replicate, take_all}
use Rattle.disk_model.specs.MemoryFile.{padded}
use Rattle.disk_model.proofs.marks.reach.Goals as goal

-- places without a mark that are added to the front were none before
reached : (room end : ℕ) (front : List Bool) → end ≤ room → length front ≤ end → padded room (front ++ replicate (end - length front) false) ≡ padded room front
reached room end front within longer =
    let len : length (front ++ replicate (end - length front) false) ≡ end = omega (arith, length-append front (replicate (end - length front) false), length-replicate (end - length front) false, longer) in
    let rest : (end - length front) + (room - end) ≡ room - length front = omega (arith, within, longer) in
    append_assoc front (replicate (end - length front) false) (replicate (room - length (front ++ replicate (end - length front) false)) false)
    ∙ ap (λ (n : ℕ). front ++ (replicate (end - length front) false ++ replicate (room - n) false)) len
    ∙ ap (λ (l : List Bool). front ++ l) (replicate-append-replicate (end - length front) (room - end) false)
    ∙ ap (λ (n : ℕ). front ++ replicate n false) rest

pub returns-then-len-end-clause-same : goal.returns-then-len-end-clause-same
returns-then-len-end-clause-same c = λ room within fits.
    let front = c.args.front.now.items in
    let end = c.args.end in
    let items : c.resize.new.self.items ≡ take end front ++ replicate (end - length front) false = search rules in
    let whole : take end front ≡ front = take_all end front (omega (arith, c.if-len-end.true, c.len.ensures)) in
    ap (padded room) (items ∙ ap (λ (l : List Bool). l ++ replicate (end - length front) false) whole) ∙ reached room end front within (omega (arith, c.if-len-end.true, c.len.ensures))
