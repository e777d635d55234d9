use Rattle.std.proofs.Common.{◌&&◌, not, ℕ, List, sym, ap, ◌∙◌, length, subst}
use Rattle.std.proofs.lemmas.List.{with_items_is}
use Rattle.cell_sets.specs.Sets.{has, passing}
use Rattle.cell_sets.specs.Bits.{bit_of, IsRow}
use Rattle.cell_sets.proofs.SetLaws.{length-passing, universe_seen}
use Rattle.cell_sets.proofs.RowLaws.{same_words, has-row, has_seen_row, row_minus}
use Rattle.cell_sets.proofs.bit_row.BitRow.minus.Goals as goal

pub minus_words-requires : goal.minus_words-requires
minus_words-requires c =
    ap length c.deref_mut.ensures.value
    ∙ (same_words c.args.self.now c.args.other.now c.self.inside.width c.other.inside.width c.self.inside.words.items c.other.inside.words.items c.self.view_is c.other.view_is c.self.invariant c.other.invariant c.requires.equal).1
    ∙ sym (ap length c.deref.ensures.value)

pub invariant_of-self : goal.invariant_of-self
invariant_of-self c =
    subst (λ (ws : List ℕ). IsRow c.self.inside.width ws) (sym (with_items_is c.self.inside.words c.minus_words.new.words (c.minus_words.auto.words ∙ c.deref_mut.ensures.len)))
    (row_minus c.self.inside.width c.self.inside.words.items c.minus_words.new.words c.other.inside.words.items
    c.self.invariant (c.minus_words.auto.words ∙ ap length c.deref_mut.ensures.value)
    (λ q. c.minus_words.ensures.all q ∙ (λ i. bit_of (c.deref_mut.ensures.value i) q && not (bit_of (c.deref.ensures.value i) q))))

pub returns-clause-universe : goal.returns-clause-universe
returns-clause-universe c = length-passing _ c.self.inside.width ∙ sym (universe_seen c.args.self.now (bit_of c.self.inside.words.items) c.self.inside.width c.self.view_is)

pub returns-clause-answer : goal.returns-clause-answer
returns-clause-answer c =
    let row = row_minus c.self.inside.width c.self.inside.words.items c.minus_words.new.words c.other.inside.words.items
    c.self.invariant (c.minus_words.auto.words ∙ ap length c.deref_mut.ensures.value)
    (λ q. c.minus_words.ensures.all q ∙ (λ i. bit_of (c.deref_mut.ensures.value i) q && not (bit_of (c.deref.ensures.value i) q))) in
    λ q. ap (λ ws. has (passing (bit_of ws) c.self.inside.width) q) (with_items_is c.self.inside.words c.minus_words.new.words (c.minus_words.auto.words ∙ c.deref_mut.ensures.len))
    ∙ has-row c.self.inside.width c.minus_words.new.words q row
    ∙ c.minus_words.ensures.all q ∙ (λ i. bit_of (c.deref_mut.ensures.value i) q && not (bit_of (c.deref.ensures.value i) q))
    ∙ (λ i. sym (has_seen_row c.args.self.now c.self.inside.width c.self.inside.words.items q c.self.view_is c.self.invariant) i
    && not (sym (has_seen_row c.args.other.now c.other.inside.width c.other.inside.words.items q c.other.view_is c.other.invariant) i))
