use Rattle.std.proofs.Common.{false, refl}
use Rattle.c_types.proofs.KeptLaws.{kept_declare}
use Rattle.c_types.proofs.heads.init_declare.Goals as goal

pub returns-clause-kept : goal.returns-clause-kept
returns-clause-kept c = rw c.in_ok-declare.ensures.answer (kept_declare c.args.file.now c.args.frame c.args.scope.now.locals c.args.scope.now.excludes (record { name = c.args.name.now.text; is_pointer = false }) _ _ (λ w f k. c.in_ok-first.ensures.kept w f k) refl)
