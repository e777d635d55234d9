use Rattle.std.proofs.Common.{◌∙◌, ap, sym, Bool}
use Rattle.image_chain.proofs.OpenLaws.{read_done, found_in_file, ahead_in_file, ahead_yes, ahead_no}
use Rattle.image_chain.proofs.open.read_chain.Goals as goal

pub returns-then-is_ahead-clause-err : goal.returns-then-is_ahead-clause-err
returns-then-is_ahead-clause-err g c = λ tells.
    let w = c.in_ok-walk.ensures.answer tells in
    let same = c.in_ok-walk.ensures.same in
    let h = c.args.header in
    let header = same.0 ∙ ap (λ (b : Bool). record { generation = h.generation; every = h.every; max = h.max; gate_open = b }) (sym c.requires.open) in
    ahead_in_file (g.D.Disk.view c.args.disk.now).seen c.walk.new.current c.walk.new.kept w.0 c.args.file h same.1 w.1 w.2 header (ahead_yes c.is_ahead.result _ _ c.is_ahead.ensures c.if-is_ahead.true)

pub returns-clause-answer : goal.returns-clause-answer
returns-clause-answer g c = λ tells.
    let w = c.in_ok-walk.ensures.answer tells in
    let same = c.in_ok-walk.ensures.same in
    let h = c.args.header in
    let header = same.0 ∙ ap (λ (b : Bool). record { generation = h.generation; every = h.every; max = h.max; gate_open = b }) (sym c.requires.open) in
    let number = ahead_no c.is_ahead.result _ _ c.is_ahead.ensures c.if-is_ahead.false in
    (w.0, read_done c.walk.new.current c.walk.new.kept w.0 _ h w.1 w.2 w.3 c.requires.held header (c.walk.new.current.bounds.1) number, found_in_file (g.D.Disk.view c.args.disk.now).seen c.walk.new.current c.walk.new.kept w.0 c.args.file h same.1 w.1 w.2 w.3 header number)
