use Rattle.std.proofs.Common.{sym, subst, IsTrue}
use Rattle.machine_code.specs.CodeView.{CodeView}
use Rattle.machine_code.specs.Valid.{has_checkpoint}
use Rattle.ckpt_runner.proofs.resuming.stand_behind.Goals as goal

pub resume-requires-clause-there : goal.resume-requires-clause-there
resume-requires-clause-there c =
    let node = c.args.newest.now.node in
    let found = c.code.ensures.runs.places node c.requires.node in
    (found.0, subst (λ (k : CodeView). IsTrue (has_checkpoint k node found.0)) (sym c.code.ensures.answer) found.1)

pub returns-clause-state : goal.returns-clause-state
returns-clause-state c =
    let node = c.args.newest.now.node in
    let found = c.code.ensures.runs.places node c.requires.node in
    (found.0, found.1, c.resume.ensures.state found.0 (subst (λ (k : CodeView). IsTrue (has_checkpoint k node found.0)) (sym c.code.ensures.answer) found.1))
