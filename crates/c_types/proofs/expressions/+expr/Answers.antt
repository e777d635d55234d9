use Rattle.c_types.proofs.expressions.+expr.Goals as goal

pub expr-returns-in_ok-t-in-Unary-clause-kept : goal.expr-returns-in_ok-t-in-Unary-clause-kept
expr-returns-in_ok-t-in-Unary-clause-kept t c w f l = c.one_sided.ensures.kept w (c.in_ok-t-in-Unary.ensures.kept w f l)

pub expr-returns-in_ok-y-in-Binary-clause-kept : goal.expr-returns-in_ok-y-in-Binary-clause-kept
expr-returns-in_ok-y-in-Binary-clause-kept t c w f l = c.binary.ensures.kept w (c.in_ok-x-in-Binary.ensures.kept w f l) (c.in_ok-y-in-Binary.ensures.kept w f l)
