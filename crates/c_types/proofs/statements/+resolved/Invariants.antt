use Rattle.std.proofs.Common.{map}
use Rattle.std.specs.List.{list_all, concat}
use Rattle.c_tree.specs.Kinds.{keeps_rules}
use Rattle.c_tree.specs.Excludes.{excludes, arm_excludes}
use Rattle.c_types.specs.Statements as spec
use Rattle.c_types.specs.Kept.{Kept, marks, arm_keeps}
use Rattle.c_types.proofs.Making.{Making}
use Rattle.c_types.proofs.statements.+resolved.Given as goal

abbrev pub invariant-stmts-loop-s : goal.invariant-stmts-loop-s
invariant-stmts-loop-s l = record {
  made : Making (λ t. spec.stmt l.file l.frame t l.in_loop) l.stmts l.s-index l.done l.fn.scope l.scope;
  kept : Kept l.file l.frame (marks l.fn.scope) (marks l.scope) (λ w. list_all (λ r. keeps_rules w r l.in_loop) l.done) (concat (map excludes l.done));
}

abbrev pub invariant-each_arm-loop-a : goal.invariant-each_arm-loop-a
invariant-each_arm-loop-a l = record {
  made : Making (λ a. spec.arm_part l.file l.frame l.line l.in_loop (spec.arm l.file l.frame a)) l.arms l.a-index l.done l.fn.scope l.scope;
  kept : Kept l.file l.frame (marks l.fn.scope) (marks l.scope) (λ w. list_all (λ a. arm_keeps w a l.in_loop) l.done) (concat (map arm_excludes l.done));
}
