use Rattle.std.proofs.Common.{arith, ◌∙◌, ◌&&◌, not, nat_lt, false, cond, take, get_or, length-take}
use Rattle.std.proofs.lemmas.List.{get_or-take}
use Rattle.std.proofs.lemmas.List.FromFn.{fill_by_all}
use Rattle.disk_model.proofs.memory_file.spoil.Goals as goal

pub returns-clause-bytes : goal.returns-clause-bytes
returns-clause-bytes c =
    let n = c.args.len in
    let seen = c.loop-i.seen.items in
    fill_by_all (λ i. cond (nat_lt i c.args.lasting_len && not (get_or c.args.dirty.now i false)) (get_or c.args.seen.now.items i 0) c.args.pick) (take n seen) n 0
    (omega (arith, length-take n seen, c.loop-i.invariant.size, c.requires.0))
    (λ k less. get_or-take n seen k 0 less ∙ c.loop-i.invariant.done k (omega (arith, less, c.loop-i-test.false)))
