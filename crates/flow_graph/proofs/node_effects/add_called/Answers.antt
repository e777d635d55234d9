use Rattle.std.proofs.Common.{◌≤◌, length, arith}
use Rattle.access_summary.specs.declared.touch.Access.TheVariants as access'
use Rattle.access_summary.specs.Summaries.{ReachesAccess, bodies}
use Rattle.flow_graph.proofs.Touching.{adds_none}
use Rattle.flow_graph.proofs.EffectLaws.{no_function, called_on_ok}
use Rattle.flow_graph.proofs.node_effects.add_called.Goals as goal

pub returns-then-callee-functions : goal.returns-then-callee-functions
returns-then-callee-functions c =
    let past : length c.args.program.now.functions ≤ c.args.callee = omega arith in record {
      answer = adds_none c.args.set.now (λ q. ReachesAccess c.args.program.now (bodies c.args.program.now) c.args.access c.args.callee q) (λ q l r. no_function c.args.program.now c.args.access c.args.callee q past r);
    }

pub returns-in-Read : goal.returns-in-Read
returns-in-Read c = record {
  answer = called_on_ok c.union_with.result c.args.program.now access'.Read c.args.access c.args.summaries.now.reads c.args.callee c.args.set.now c.reads.result.now c.union_with.new.self c.in-Read.is c.requires.summaries.reads (omega arith) c.reads.ensures.answer c.requires.universe c.union_with.ensures.universe c.union_with.ensures.answer;
}

pub returns-in-Write : goal.returns-in-Write
returns-in-Write c = record {
  answer = called_on_ok c.union_with-in-Write.result c.args.program.now access'.Write c.args.access c.args.summaries.now.writes c.args.callee c.args.set.now c.writes.result.now c.union_with-in-Write.new.self c.in-Write.is c.requires.summaries.writes (omega arith) c.writes.ensures.answer c.requires.universe c.union_with-in-Write.ensures.universe c.union_with-in-Write.ensures.answer;
}
