use Rattle.std.proofs.Common.{◌∙◌, ◌-◌, ap, sym, subst, arith, take, length, List, ℕ}
use Rattle.std.specs.Prelude.{slice_index}
use Rattle.std.proofs.lemmas.List.{length-take}
use Rattle.std.proofs.lemmas.Result.{err_from_is_err_and}
use Rattle.image_format.specs.Spelling.{is_open, image_length, IsFront}
use Rattle.image_format.specs.Reading.{image_at}
use Rattle.image_chain.proofs.WalkLaws.{walk_bad, walk_refused, walk_on, record_length_fits, record_inside, last_gate}
use Rattle.image_chain.specs.Sound.{HasNewest}
use Rattle.image_chain.proofs.open.read_next.Goals as goal

pub overflow_add-result : goal.overflow_add-result
overflow_add-result g c = let b = c.args.current.now.bounds.0 in let d = c.args.current.now.bounds in let p = c.in-Err.ensures.place in let n = c.in_ok-n.ensures.bound in omega (arith, b, d.1, d.2, p, n, length-take c.in_ok-n.n c.bytes-bytes.result.now)

pub returns-in-Err-clause-err : goal.returns-in-Err-clause-err
returns-in-Err-clause-err g c = λ tells rs walked opened.
    let bytes = c.bytes-bytes.ensures.answer in
    walk_bad c.args.current.now c.args.kept.now rs _ c.in-Err.bad.place walked opened (sym (c.in_ok-n.ensures.answer tells) ∙ ap (λ (l : List ℕ). image_at (take c.in_ok-n.n l)) (sym bytes) ∙ c.in-Err.ensures.exact)

pub accept-requires : goal.accept-requires
accept-requires g c = record { length = record_length_fits c.in-Ok.view c.in-Ok.ensures.found.0 }

pub returns-in_err-accept-clause-err : goal.returns-in_err-accept-clause-err
returns-in_err-accept-clause-err g c =
    let p = err_from_is_err_and c.from_residual-in_err-accept.result c.from_residual-in_err-accept.ensures.1 in
    rw (p.1, p.2) (λ tells rs walked opened.
    let bytes = c.bytes-bytes.ensures.answer in
    walk_refused c.args.current.now c.args.kept.now rs _ c.in-Ok.view _ walked opened (sym (c.in_ok-n.ensures.answer tells) ∙ ap (λ (l : List ℕ). image_at (take c.in_ok-n.n l)) (sym bytes) ∙ c.in-Ok.ensures.exact) c.in_err-accept.ensures.err)

pub bounds-bytes-length : goal.bounds-bytes-length
bounds-bytes-length g c =
    let short = record_length_fits c.in-Ok.view c.in-Ok.ensures.found.0 in
    let some = record_inside c.in-Ok.view _ c.in-Ok.ensures.found.0 c.in-Ok.ensures.found.1 in
    let n = c.length.ensures.answer in let size = c.bytes-bytes.ensures.size in let same = ap length c.bytes-bytes.ensures.answer in
    omega (arith, some.0)

pub returns-clause-answer : goal.returns-clause-answer
returns-clause-answer g c = λ tells rs walked opened.
    let bytes = c.bytes-bytes.ensures.answer in
    let view = c.in-Ok.view in
    let found = c.in-Ok.ensures.found in
    let is_front = subst (λ (l : List ℕ). IsFront view (take c.in_ok-n.n l)) bytes found.1 in
    let inside = record_inside view (take c.in_ok-n.n c.bytes-bytes.result.now) found.0 found.1 in
    let w = walk_on c.args.current.now c.accept.new.current c.args.kept.now c.accept.new.kept rs view _ c.fetch.new.room c.in_ok-n.n walked opened (c.in_ok-n.ensures.bytes tells) found.0 is_front (sym (c.in_ok-n.ensures.answer tells) ∙ ap (λ (l : List ℕ). image_at (take c.in_ok-n.n l)) (sym bytes) ∙ c.in-Ok.ensures.exact) c.in_ok-accept.ensures.answer in
    let size = length-take c.in_ok-n.n c.bytes-bytes.result.now in
    let last = last_gate c.fetch.new.room c.in_ok-n.n (image_length view - 1) (omega (arith, inside.0, inside.1)) in
    let there = w.1 ∙ last ∙ ap (λ (l : List ℕ). slice_index l (image_length view - 1)) (sym bytes) ∙ ap (λ (k : ℕ). slice_index c.bytes-bytes.result.now (k - 1)) (sym c.length.ensures.answer) in
    ((view, w.0), ap is_open there)

pub returns-clause-newest : goal.returns-clause-newest
returns-clause-newest g c = subst HasNewest (sym c.in_ok-accept.ensures.answer.newest) c.in-Ok.ensures.found.0.fields
