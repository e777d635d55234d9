use Rattle.paged_machine.proofs.Stays.{any_ready}
use Rattle.paged_machine.proofs.OneTurn.{did_row, with_answer}
use Rattle.paged_machine.proofs.machine.Machine.turn.Goals as goal

pub act-requires-clause-ready : goal.act-requires-clause-ready
act-requires-clause-ready g c = any_ready c.args.code.now c.requires.stands.0 c.args.self.now _ c.requires.fit.cells c.requires.stands.1

pub returns-clause-did : goal.returns-clause-did
returns-clause-did g c =
    let code = c.args.code.now in
    let v = c.args.self.now in
    let ds = c.requires.stands.0 in
    let ready = any_ready code ds v _ c.requires.fit.cells c.requires.stands.1 in
    with_answer c.act.result c.act.ensures.row
    (λ e did. did_row code c.args.pages.now ds v c.act.new.self c.args.frames.now c.act.new.frames ready.0 e c.requires.stands.1 c.requires.live ready.1.here (did ready.0 ready.1.here))
