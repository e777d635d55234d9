use Rattle.std.proofs.Common.{◌≡◌, ◌||◌, ℕ, List, sym, ap, ◌∙◌, arith, length, subst, eqb}
use Rattle.std.proofs.lemmas.List.{with_items_is}
use Rattle.cell_sets.specs.Sets.{has, passing}
use Rattle.cell_sets.specs.Bits.{bit_of, IsRow}
use Rattle.cell_sets.proofs.SetLaws.{length-passing, universe_seen, or_one}
use Rattle.cell_sets.proofs.RowLaws.{in_words, has-row, has_seen_row, row_set}
use Rattle.cell_sets.proofs.bit_row.BitRow.set.Goals as goal

pub set_bit-requires : goal.set_bit-requires
set_bit-requires c =
    let l = in_words c.args.self.now c.self.inside.width c.self.inside.words.items c.args.b c.self.view_is c.self.invariant c.requires.within in
    omega (arith, l, ap length c.deref_mut.ensures.value)

pub invariant_of-self : goal.invariant_of-self
invariant_of-self c =
    let u = universe_seen c.args.self.now (bit_of c.self.inside.words.items) c.self.inside.width c.self.view_is in
    subst (λ (ws : List ℕ). IsRow c.self.inside.width ws) (sym (with_items_is c.self.inside.words c.set_bit.new.words (c.set_bit.auto.words ∙ c.deref_mut.ensures.len)))
    (row_set c.self.inside.width c.self.inside.words.items c.set_bit.new.words c.args.b (omega (arith, u, c.requires.within)) c.self.invariant
    (c.set_bit.auto.words ∙ ap length c.deref_mut.ensures.value) (λ q ne. c.set_bit.ensures.others q ne ∙ ap (λ ws. bit_of ws q) c.deref_mut.ensures.value))

pub returns-clause-universe : goal.returns-clause-universe
returns-clause-universe c = length-passing _ c.self.inside.width ∙ sym (universe_seen c.args.self.now (bit_of c.self.inside.words.items) c.self.inside.width c.self.view_is)

pub returns-clause-answer : goal.returns-clause-answer
returns-clause-answer c =
    let u = universe_seen c.args.self.now (bit_of c.self.inside.words.items) c.self.inside.width c.self.view_is in
    let says = (λ (q : ℕ) (ne : q ≡ c.args.b → ⊥). c.set_bit.ensures.others q ne ∙ ap (λ ws. bit_of ws q) c.deref_mut.ensures.value) in
    let row = row_set c.self.inside.width c.self.inside.words.items c.set_bit.new.words c.args.b (omega (arith, u, c.requires.within)) c.self.invariant
    (c.set_bit.auto.words ∙ ap length c.deref_mut.ensures.value) says in
    λ q. ap (λ ws. has (passing (bit_of ws) c.self.inside.width) q) (with_items_is c.self.inside.words c.set_bit.new.words (c.set_bit.auto.words ∙ c.deref_mut.ensures.len))
    ∙ has-row c.self.inside.width c.set_bit.new.words q row
    ∙ or_one (bit_of c.set_bit.new.words) (bit_of c.self.inside.words.items) c.args.b q c.set_bit.ensures.same says
    ∙ ap (λ x. x || eqb q c.args.b) (sym (has_seen_row c.args.self.now c.self.inside.width c.self.inside.words.items q c.self.view_is c.self.invariant))
