use Rattle.std.proofs.Common.{◌∙◌, map, sym}
use Rattle.std.specs.List.{list_all, concat}
use Rattle.c_tree.specs.Kinds.{keeps_rules}
use Rattle.c_tree.specs.Excludes.{excludes}
use Rattle.c_types.specs.Kept.{marks}
use Rattle.c_types.proofs.KeptLaws.{kept_as}
use Rattle.c_types.proofs.RuleLaws.{block_rules, block_excludes}
use Rattle.c_types.proofs.declarations.declared.Goals as goal

pub returns-clause-kept : goal.returns-clause-kept
returns-clause-kept c in_loop =
    kept_as c.args.file.now c.args.frame (marks c.args.scope.now) (marks c.decls.new.scope) (λ w. list_all (λ r. keeps_rules w r in_loop) c.in_ok-stmts.stmts) _ (concat (map excludes c.in_ok-stmts.stmts)) _
    (λ w h. block_rules w in_loop c.in_ok-stmts.stmts ∙ h) (sym (block_excludes c.in_ok-stmts.stmts)) (c.in_ok-stmts.ensures.kept in_loop)
