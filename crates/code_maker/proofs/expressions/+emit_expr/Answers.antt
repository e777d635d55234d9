use Rattle.code_maker.proofs.Blocks.{makes_and, makes_or, makes_move, makes_fetch}
use Rattle.code_maker.proofs.expressions.+emit_expr.Goals as goal

pub returns-in_ok-emit_expr-in-And-2 : goal.returns-in_ok-emit_expr-in-And-2
returns-in_ok-emit_expr-in-And-2 t c = record {
  code = makes_and c.close_and.result c.args.code.now.items c.close_and.new.code.items c.in-And.is c.get-in-And.ensures c.get-in-And-2.ensures c.in_ok-emit_expr-in-And.ensures.code c.in_ok-test-in-And.ensures.at c.in_ok-test-in-And.ensures.code c.in_ok-emit_expr-in-And-2.ensures.code c.close_and.ensures.code;
}

pub returns-in_ok-emit_expr-in-Or-2 : goal.returns-in_ok-emit_expr-in-Or-2
returns-in_ok-emit_expr-in-Or-2 t c = record {
  code = makes_or c.close_or.result c.args.code.now.items c.close_or.new.code.items c.in-Or.is c.get-in-Or.ensures c.get-in-Or-2.ensures c.in_ok-emit_expr-in-Or.ensures.code c.in_ok-over-in-Or.ensures.at c.in_ok-over-in-Or.ensures.code c.in_ok-emit_expr-in-Or-2.ensures.code c.close_or.ensures.code;
}

pub returns-in_ok-emit_expr-in-Move-2 : goal.returns-in_ok-emit_expr-in-Move-2
returns-in_ok-emit_expr-in-Move-2 t c = record {
  code = makes_move c.put-in-Move.result c.args.code.now.items c.put-in-Move.new.code.items c.in-Move.direction c.in-Move.is c.get-in-Move.ensures c.get-in-Move-2.ensures c.move_instr.ensures.answer c.in_ok-emit_expr-in-Move.ensures.code c.in_ok-emit_expr-in-Move-2.ensures.code c.put-in-Move.ensures.code;
}

pub returns-in_ok-emit_expr-in-Fetch : goal.returns-in_ok-emit_expr-in-Fetch
returns-in_ok-emit_expr-in-Fetch t c = record { code = makes_fetch c.put-in-Fetch.result c.args.code.now.items c.put-in-Fetch.new.code.items c.in-Fetch.is c.get-in-Fetch.ensures c.in_ok-emit_expr-in-Fetch.ensures.code c.put-in-Fetch.ensures.code }
