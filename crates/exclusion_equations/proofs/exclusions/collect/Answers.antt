use Rattle.std.proofs.Common.{◌+◌, ◌∷◌, [], length, length-append, ap, arith, List}
use Rattle.cell_sets.specs.Sets.{Cells}
use Rattle.exclusion_equations.specs.Excluded.{IsDead, IsReadOnly}
use Rattle.exclusion_equations.proofs.ClassLaws.{exact_push, numbered_exactly}
use Rattle.exclusion_equations.proofs.exclusions.collect.Goals as goal

pub numbers-preserved : goal.numbers-preserved
numbers-preserved c =
    let g = c.args.graph.now in
    let k = c.numbers.k in
    let i = c.numbers.invariant in
    record {
      dead_len = omega (arith, ap (λ (x : List Cells). length x) c.in_ok-push.ensures.answer, length-append c.numbers.dead.items (c.in_ok-dead_cells.dead_cells ∷ []), i.dead_len);
      read_only_len = omega (arith, ap (λ (x : List Cells). length x) c.in_ok-push-2.ensures.answer, length-append c.numbers.read_only.items (c.in_ok-read_only_cells.read_only_cells ∷ []), i.read_only_len);
      dead_so_far = exact_push g.cells (IsDead g) k c.numbers.dead.items c.push.new.sets.items c.in_ok-dead_cells.dead_cells c.in_ok-push.ensures.answer i.dead_len i.dead_so_far
          (c.in_ok-dead_cells.ensures.exact (k + 1) c.node_of-n.ensures.answer);
      read_only_so_far = exact_push g.cells (IsReadOnly g) k c.numbers.read_only.items c.push-in-numbers.new.sets.items c.in_ok-read_only_cells.read_only_cells c.in_ok-push-2.ensures.answer i.read_only_len i.read_only_so_far
          (c.in_ok-read_only_cells.ensures.exact (k + 1) c.node_of-n.ensures.answer);
    }

pub returns : goal.returns
returns c =
    let g = c.args.graph.now in
    let k = c.numbers.k in
    let i = c.numbers.invariant in
    record {
      exact = record {
        dead_len = omega (arith, i.dead_len, c.excludes-k-end.ensures.answer);
        read_only_len = omega (arith, i.read_only_len, c.excludes-k-end.ensures.answer);
        dead = λ j low high. numbered_exactly g.cells (IsDead g) k c.numbers.dead.items i.dead_so_far j low (omega (arith, high, c.excludes-k-end.ensures.answer));
        read_only = λ j low high. numbered_exactly g.cells (IsReadOnly g) k c.numbers.read_only.items i.read_only_so_far j low (omega (arith, high, c.excludes-k-end.ensures.answer));
      };
    }
