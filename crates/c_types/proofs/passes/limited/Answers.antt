use Rattle.std.proofs.Common.{◌≡◌, map, arith}
use Rattle.c_types.specs.Check.{resolved_object}
use Rattle.c_types.proofs.Stands.{lengths_within, sized_in_tree, firsts_in_tree}
use Rattle.c_types.proofs.TreeLaws.{within_limits, is_checked}
use Rattle.c_types.proofs.passes.limited.Goals as goal

pub resolved_objects-requires : goal.resolved_objects-requires
resolved_objects-requires c =
    let limits = within_limits c.args.file.now c.args.made.crowded c.in-Some.main (rw c.get.ensures at c.in_ok-limits.ensures.finds) in
    let few = limits.cells in record {
      few = rw c.objects.ensures.answer (lengths_within c.args.file.now.objects 0 c.args.file.now.cells c.objects.ensures.stand (omega arith));
    }

pub of-requires : goal.of-requires
of-requires c =
    let e : c.in_ok-objects.objects ≡ map resolved_object c.args.file.now.objects = cc (c.in_ok-objects.ensures.answer, c.objects.ensures.answer) in
    let limits = within_limits c.args.file.now c.args.made.crowded c.in-Some.main (rw c.get.ensures at c.in_ok-limits.ensures.finds) in
    let formed = c.objects.ensures.formed in
    record {
      checked = rw (e, c.into_inner-main.ensures) (is_checked c.args.file.now c.args.made c.in-Some.main c.objects.ensures.stand c.requires.kept c.in-Some.is (sized_in_tree c.args.file.now.objects formed.sized) (firsts_in_tree c.args.file.now.objects formed.firsts) (rw c.as_slice.ensures at c.in_ok-functions_fit.ensures.count) (rw c.as_slice.ensures at c.in_ok-functions_fit.ensures.nodes) limits);
    }
