use Rattle.std.proofs.Common.{◌≡◌, ℕ, [], sym, ap, ◌∙◌, get_or, arith}
use Rattle.std.proofs.lemmas.List.{get_or_read}
use Rattle.std.proofs.lemmas.Bool.{false≢true}
use Rattle.cell_sets.specs.Sets.{has}
use Rattle.path_laws.proofs.RowLaws.{IsPulled, is_pulled, pulled_more, pulled_none, wide-set}
use Rattle.path_laws.proofs.solver.pull.Goals as goal

pulled : (c : goal.After-drop-moved-inside) → IsPulled c.args.width c.args.rows.now.items c.args.n c.args.m c.args.stop.now c.minus.new.self c.or_from.new.self
pulled c =
    is_pulled c.args.width c.args.rows.now.items c.args.n c.args.m c.index_mut-row.result.now c.index.result.now c.in_ok-moved.moved c.args.stop.now c.minus.new.self c.or_from.new.self
    (omega (arith, c.args.rows.now.ok.0)) (omega (arith, c.args.rows.now.ok.0)) c.requires.wide
    (get_or_read c.args.rows.now.items c.args.n _ (omega (arith, c.args.rows.now.ok.0)) c.index_mut-row.ensures.value [])
    (get_or_read c.args.rows.now.items c.args.m _ (omega (arith, c.args.rows.now.ok.0)) c.index.ensures [])
    c.in_ok-moved.ensures.answer c.minus.ensures.universe c.minus.ensures.answer c.or_from.ensures.universe c.or_from.ensures.answer

target_has : (c : goal.After-drop-moved-inside) (q : ℕ) → has c.index_mut-row.result.now q ≡ has (get_or c.args.rows.now.items c.args.n []) q
target_has c q = ap (λ r. has r q) (get_or_read c.args.rows.now.items c.args.n _ (omega (arith, c.args.rows.now.ok.0)) c.index_mut-row.ensures.value [])

pub returns-clause-wide : goal.returns-clause-wide
returns-clause-wide c = wide-set c.args.width c.args.rows.now.items c.args.n c.or_from.new.self (pulled c).n_in c.requires.wide (pulled c).row_wide

pub returns-clause-more : goal.returns-clause-more
returns-clause-more c = λ t.
    let w = c.or_from.ensures.added.0 t in
    pulled_more c.args.width c.args.rows.now.items c.args.n c.args.m c.args.stop.now c.minus.new.self c.or_from.new.self (pulled c) (w.0, (w.1.0, sym (target_has c w.0) ∙ w.1.1))

pub returns-clause-no_more : goal.returns-clause-no_more
returns-clause-no_more c = λ f.
    pulled_none c.args.width c.args.rows.now.items c.args.n c.args.m c.args.stop.now c.minus.new.self c.or_from.new.self (pulled c)
    (λ q b x. false≢true (sym f ∙ c.or_from.ensures.added.1 (q, (b, target_has c q ∙ x))))
