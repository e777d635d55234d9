use Rattle.std.proofs.Common.{arith, ap, Ok}
use Rattle.std.proofs.lemmas.Result.{err_from_is_err_and}
use Rattle.image_format.specs.Reading.{◌>>=◌, Front}
use Rattle.image_format.proofs.ViewLaws.{rest_ok, runs_begin, bad_head, bad_runs, bad_gate, bad_size, front_is, size_is, runs_are}
use Rattle.image_format.proofs.view.read_front.Goals as goal

pub behind_runs-requires : goal.behind_runs-requires
behind_runs-requires c =
    let all = runs_begin c.args.bytes.now _ _ (λ i. omega (arith, c.type_inv.bytes i)) c.in_ok-head.ensures.exact in
    record { within = omega arith }

pub returns-in_err-head-clause-exact : goal.returns-in_err-head-clause-exact
returns-in_err-head-clause-exact c =
    let p = err_from_is_err_and c.from_residual.result c.from_residual.ensures.1 in
    rw (p.1, p.2) (bad_head c.args.bytes.now _ c.in_err-head.ensures.exact)

pub returns-in_err-rest-clause-exact : goal.returns-in_err-rest-clause-exact
returns-in_err-rest-clause-exact c =
    let p = err_from_is_err_and c.from_residual-in_err-rest.result c.from_residual-in_err-rest.ensures.1 in
    rw (p.1, p.2) (bad_runs c.args.bytes.now _ _ _ c.in_ok-head.ensures.exact c.in_err-rest.ensures.exact)

pub returns-in_err-rest-2-clause-exact : goal.returns-in_err-rest-2-clause-exact
returns-in_err-rest-2-clause-exact c =
    let p = err_from_is_err_and c.from_residual-in_err-rest-2.result c.from_residual-in_err-rest-2.ensures.1 in
    rw (p.1, p.2) (bad_gate c.args.bytes.now _ _ _ _ c.in_ok-head.ensures.exact c.in_ok-rest.ensures.exact c.in_err-rest-2.ensures.exact)

pub overflow_sub-size : goal.overflow_sub-size
overflow_sub-size c = (size_is c.args.bytes.now _ _ _ _ _ (λ i. omega (arith, c.type_inv.bytes i)) c.in_ok-head.ensures.exact c.in_ok-rest.ensures.exact c.in_ok-rest-2.ensures.exact).1

pub returns-in_err-test-clause-exact : goal.returns-in_err-test-clause-exact
returns-in_err-test-clause-exact c =
    let p = err_from_is_err_and c.from_residual-in_err-test.result c.from_residual-in_err-test.ensures.1 in
    rw (p.1, p.2, c.in_err-test.ensures.err.1) (bad_size c.args.bytes.now _ _ _ _ _ c.in_ok-head.ensures.exact c.in_ok-rest.ensures.exact c.in_ok-rest-2.ensures.exact c.in_err-test.ensures.err.0)

pub invariant_of-result : goal.invariant_of-result
invariant_of-result c =
    let all = runs_begin c.args.bytes.now _ _ (λ i. omega (arith, c.type_inv.bytes i)) c.in_ok-head.ensures.exact in
    record {
      read = rest_ok _ _ c.in_ok-rest.ensures.exact;
      are = runs_are c.args.bytes.now _ _ _ (λ i. omega (arith, c.type_inv.bytes i)) c.in_ok-head.ensures.exact c.in_ok-rest.ensures.exact;
      few = c.in_ok-head.ensures.few;
      within = omega arith;
      size = (size_is c.args.bytes.now _ _ _ _ _ (λ i. omega (arith, c.type_inv.bytes i)) c.in_ok-head.ensures.exact c.in_ok-rest.ensures.exact c.in_ok-rest-2.ensures.exact).0;
    }

pub returns-clause-exact : goal.returns-clause-exact
returns-clause-exact c = ap (λ (r : _). r >>= λ (front : Front). Ok front.image) (front_is c.args.bytes.now _ _ _ _ _ c.in_ok-head.ensures.exact c.in_ok-rest.ensures.exact c.in_ok-rest-2.ensures.exact c.in_ok-test.ensures.answer)
