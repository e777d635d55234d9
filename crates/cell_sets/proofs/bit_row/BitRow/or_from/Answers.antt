use Rattle.std.proofs.Common.{◌||◌, ℕ, List, sym, ap, ◌∙◌, length, subst}
use Rattle.std.proofs.lemmas.List.{with_items_is}
use Rattle.cell_sets.specs.Sets.{has, passing}
use Rattle.cell_sets.specs.Bits.{bit_of, IsRow}
use Rattle.cell_sets.proofs.SetLaws.{length-passing, universe_seen}
use Rattle.cell_sets.proofs.RowLaws.{same_words, has-row, has_seen_row, row_or}
use Rattle.cell_sets.proofs.bit_row.BitRow.or_from.Goals as goal

pub or_words-requires : goal.or_words-requires
or_words-requires c =
    ap length c.deref_mut.ensures.value
    ∙ (same_words c.args.self.now c.args.other.now c.self.inside.width c.other.inside.width c.self.inside.words.items c.other.inside.words.items c.self.view_is c.other.view_is c.self.invariant c.other.invariant c.requires.equal).1
    ∙ sym (ap length c.deref.ensures.value)

pub invariant_of-self : goal.invariant_of-self
invariant_of-self c =
    subst (λ (ws : List ℕ). IsRow c.self.inside.width ws) (sym (with_items_is c.self.inside.words c.or_words.new.words (c.or_words.auto.words ∙ c.deref_mut.ensures.len)))
    (row_or c.self.inside.width c.other.inside.width c.self.inside.words.items c.or_words.new.words c.other.inside.words.items
    (same_words c.args.self.now c.args.other.now c.self.inside.width c.other.inside.width c.self.inside.words.items c.other.inside.words.items c.self.view_is c.other.view_is c.self.invariant c.other.invariant c.requires.equal).0
    c.self.invariant c.other.invariant (c.or_words.auto.words ∙ ap length c.deref_mut.ensures.value)
    (λ q. c.or_words.ensures.all q ∙ (λ i. bit_of (c.deref_mut.ensures.value i) q || bit_of (c.deref.ensures.value i) q)))

pub returns-clause-universe : goal.returns-clause-universe
returns-clause-universe c = length-passing _ c.self.inside.width ∙ sym (universe_seen c.args.self.now (bit_of c.self.inside.words.items) c.self.inside.width c.self.view_is)

pub returns-clause-answer : goal.returns-clause-answer
returns-clause-answer c =
    let row = row_or c.self.inside.width c.other.inside.width c.self.inside.words.items c.or_words.new.words c.other.inside.words.items
    (same_words c.args.self.now c.args.other.now c.self.inside.width c.other.inside.width c.self.inside.words.items c.other.inside.words.items c.self.view_is c.other.view_is c.self.invariant c.other.invariant c.requires.equal).0
    c.self.invariant c.other.invariant (c.or_words.auto.words ∙ ap length c.deref_mut.ensures.value)
    (λ q. c.or_words.ensures.all q ∙ (λ i. bit_of (c.deref_mut.ensures.value i) q || bit_of (c.deref.ensures.value i) q)) in
    λ q. ap (λ ws. has (passing (bit_of ws) c.self.inside.width) q) (with_items_is c.self.inside.words c.or_words.new.words (c.or_words.auto.words ∙ c.deref_mut.ensures.len))
    ∙ has-row c.self.inside.width c.or_words.new.words q row
    ∙ c.or_words.ensures.all q ∙ (λ i. bit_of (c.deref_mut.ensures.value i) q || (bit_of (c.deref.ensures.value i) q))
    ∙ (λ i. sym (has_seen_row c.args.self.now c.self.inside.width c.self.inside.words.items q c.self.view_is c.self.invariant) i
    || (sym (has_seen_row c.args.other.now c.other.inside.width c.other.inside.words.items q c.other.view_is c.other.invariant) i))

pub returns-clause-added : goal.returns-clause-added
returns-clause-added c =
    let mine = (λ (q : ℕ). ap (λ ws. bit_of ws q) c.deref_mut.ensures.value ∙ sym (has_seen_row c.args.self.now c.self.inside.width c.self.inside.words.items q c.self.view_is c.self.invariant)) in
    let others = (λ (q : ℕ). ap (λ ws. bit_of ws q) c.deref.ensures.value ∙ sym (has_seen_row c.args.other.now c.other.inside.width c.other.inside.words.items q c.other.view_is c.other.invariant)) in (
      (λ t. let w = c.or_words.ensures.added.0 t in (w.0, (sym (others w.0) ∙ w.1.0, sym (mine w.0) ∙ w.1.1))),
      (λ w. c.or_words.ensures.added.1 (w.0, (others w.0 ∙ w.1.0, mine w.0 ∙ w.1.1))),
    )
