use Rattle.std.proofs.Common.{ℕ, sym, ap, ◌∙◌, arith, length}
use Rattle.cell_sets.specs.Bits.{bit_of}
use Rattle.cell_sets.proofs.SetLaws.{universe_seen}
use Rattle.cell_sets.proofs.RowLaws.{in_words, has_seen_row}
use Rattle.cell_sets.proofs.bit_row.BitRow.stretch.Goals as goal

pub same_count-requires : goal.same_count-requires
same_count-requires c =
    let l = in_words c.args.self.now c.self.inside.width c.self.inside.words.items c.args.from c.self.view_is c.self.invariant c.requires.below in
    omega (arith, l, ap length c.deref.ensures.value)

pub overflow_sub-self-inside : goal.overflow_sub-self-inside
overflow_sub-self-inside c = omega (arith, c.requires.below, universe_seen c.args.self.now (bit_of c.self.inside.words.items) c.self.inside.width c.self.view_is)

pub returns-clause-further : goal.returns-clause-further
returns-clause-further c =
    omega (arith, c.requires.below, universe_seen c.args.self.now (bit_of c.self.inside.words.items) c.self.inside.width c.self.view_is, c.same_count.ensures.some, c.min-count.ensures)

pub returns-clause-within : goal.returns-clause-within
returns-clause-within c =
    omega (arith, c.requires.below, universe_seen c.args.self.now (bit_of c.self.inside.words.items) c.self.inside.width c.self.view_is, c.min-count.ensures)

pub returns-clause-same : goal.returns-clause-same
returns-clause-same c =
    let bits = (λ (q : ℕ). has_seen_row c.args.self.now c.self.inside.width c.self.inside.words.items q c.self.view_is c.self.invariant ∙ sym (ap (λ ws. bit_of ws q) c.deref.ensures.value)) in
    λ q l h. bits q ∙ c.same_count.ensures.same q l (omega (arith, c.min-count.ensures)) ∙ sym (bits c.args.from) ∙ sym c.get.ensures.answer
