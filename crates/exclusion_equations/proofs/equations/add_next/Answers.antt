use Rattle.std.proofs.Common.{◌||◌, length, [], sym, ap, ◌∙◌, refl}
use Rattle.std.proofs.lemmas.Bool.{eq-eqb}
use Rattle.std.proofs.lemmas.List.{get_or_read}
use Rattle.cell_sets.specs.Sets.{has}
use Rattle.path_laws.specs.Edge.{is_at}
use Rattle.exclusion_equations.specs.Rows.{next_has}
use Rattle.exclusion_equations.proofs.equations.add_next.Goals as goal

pub bounds-rows-m : goal.bounds-rows-m
bounds-rows-m c = c.requires.in_range c.in-Some.m (ap (λ o. is_at o c.in-Some.m) c.in-Some.is ∙ eq-eqb c.in-Some.m c.in-Some.m refl)

pub or_from-requires : goal.or_from-requires
or_from-requires c =
    let l = c.requires.in_range c.in-Some.m (ap (λ o. is_at o c.in-Some.m) c.in-Some.is ∙ eq-eqb c.in-Some.m c.in-Some.m refl) in
    record { equal = sym (ap (λ r. length r) (get_or_read c.args.rows.now c.in-Some.m c.index-rows-m.result l c.index-rows-m.is []) ∙ c.requires.wide c.in-Some.m l) }

pub returns-in-Some-clause-answer : goal.returns-in-Some-clause-answer
returns-in-Some-clause-answer c =
    let l = c.requires.in_range c.in-Some.m (ap (λ o. is_at o c.in-Some.m) c.in-Some.is ∙ eq-eqb c.in-Some.m c.in-Some.m refl) in
    λ k. c.or_from.ensures.answer k
    ∙ ap (λ r. has c.args.row.now k || has r k) (get_or_read c.args.rows.now c.in-Some.m c.index-rows-m.result l c.index-rows-m.is [])
    ∙ ap (λ o. has c.args.row.now k || next_has c.args.rows.now o k) (sym c.in-Some.is)
