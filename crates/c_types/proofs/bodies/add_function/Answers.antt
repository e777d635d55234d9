use Rattle.std.proofs.Common.{length}
use Rattle.c_types.specs.FileNames as names
use Rattle.c_types.specs.Fitting.{seen}
use Rattle.c_types.specs.Bodies.{made}
use Rattle.c_types.proofs.BodyLaws.{function_kept, function_seen, bodies_function}
use Rattle.c_types.proofs.bodies.add_function.Goals as goal

pub returns-clause-kept : goal.returns-clause-kept
returns-clause-kept c ss b =
    let f = c.args.f.now in
    let k = rw (c.in_ok-declare_parameters.ensures.answer, c.as_slice.ensures, c.entry-scope.ensures.answer) at c.in_ok-resolved.ensures.kept in
    rw c.in_ok-push_function.ensures.answer (bodies_function c.args.file.now ss c.args.done.now (made f.name.text f.gives_pointer (length f.parameters) c.in_ok-resolved.resolved c.body.new.scope) (seen (names.signature f)) (function_kept c.args.file.now f.gives_pointer f.parameters c.body.new.scope c.in_ok-resolved.resolved f.name.text k) (function_seen c.args.file.now f.gives_pointer f.parameters c.body.new.scope c.in_ok-resolved.resolved f.name.text k) b)
