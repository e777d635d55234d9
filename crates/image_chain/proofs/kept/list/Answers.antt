use Rattle.std.proofs.Common.{◌≡◌, ◌∙◌, ap, arith, ℕ, cond, true, false}
use Rattle.std.specs.Prelude.{slice_index_or}
use Rattle.image_chain.proofs.KeptLaws.{among, one_more_marked, not_yet_marked}
use Rattle.image_chain.proofs.kept.list.Goals as goal

pub loop-i-init : goal.loop-i-init
loop-i-init c = λ cell. not_yet_marked c.args.listed.now c.args.first cell

pub loop-i-preserved : goal.loop-i-preserved
loop-i-preserved c = λ cell. one_more_marked c.loop-i.listed c.args.listed.now c.args.first c.loop-i.i cell (omega arith) (c.loop-i.invariant cell)

pub returns : goal.returns
returns c = λ cell.
    let all : c.loop-i.i ≡ c.args.count = omega arith in
    c.loop-i.invariant cell ∙ ap (λ (i : ℕ). cond (among c.args.first i cell) true (slice_index_or c.args.listed.now cell false)) all
