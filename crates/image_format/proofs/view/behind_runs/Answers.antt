use Rattle.std.proofs.Common.{arith}
use Rattle.std.proofs.lemmas.Result.{err_from_is_err_and}
use Rattle.image_format.proofs.RunLaws.{goes_on, fails, ends}
use Rattle.image_format.proofs.view.behind_runs.Goals as goal

pub returns-in_err-run-clause-exact : goal.returns-in_err-run-clause-exact
returns-in_err-run-clause-exact c =
    let p = err_from_is_err_and c.from_residual.result c.from_residual.ensures.1 in
    rw (p.1, p.2) (fails c.args.count c.loop.counter c.args.end c.loop.least c.loop.rest.now _ _ c.loop-test.true c.in_err-run.ensures.exact c.loop.invariant.read)

pub overflow_add-least : goal.overflow_add-least
overflow_add-least c =
    let b = c.in_ok-run.ensures.fits in
    omega (arith, b.within)

pub overflow_add-least-in-loop : goal.overflow_add-least-in-loop
overflow_add-least-in-loop c =
    let b = c.in_ok-run.ensures.fits in
    omega (arith, b.within)

pub loop-preserved : goal.loop-preserved
loop-preserved c =
    let b = c.in_ok-run.ensures.fits in
    record {
      within = omega (arith, b.size, c.loop.invariant.within);
      least = omega (arith, b.within);
      read = goes_on c.args.count c.loop.counter c.args.end c.loop.least _ _ _ _ _ _ c.loop-test.true c.in_ok-run.ensures.exact c.loop.invariant.read;
    }

pub returns-clause-exact : goal.returns-clause-exact
returns-clause-exact c = ends c.args.count c.loop.counter c.args.end c.loop.least c.loop.rest.now _ c.loop-test.false c.loop.invariant.read
