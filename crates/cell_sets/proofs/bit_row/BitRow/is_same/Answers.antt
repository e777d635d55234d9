use Rattle.std.proofs.Common.{ℕ, sym, ap, ◌∙◌, length}
use Rattle.cell_sets.specs.Bits.{bit_of}
use Rattle.cell_sets.proofs.RowLaws.{same_words, has_seen_row}
use Rattle.cell_sets.proofs.bit_row.BitRow.is_same.Goals as goal

pub same_words-requires : goal.same_words-requires
same_words-requires c =
    ap length c.deref.ensures.value
    ∙ (same_words c.args.self.now c.args.other.now c.self.inside.width c.other.inside.width c.self.inside.words.items c.other.inside.words.items c.self.view_is c.other.view_is c.self.invariant c.other.invariant c.requires.equal).1
    ∙ sym (ap length c.deref-2.ensures.value)

pub returns : goal.returns
returns c =
    let mine = (λ (q : ℕ). ap (λ ws. bit_of ws q) c.deref.ensures.value ∙ sym (has_seen_row c.args.self.now c.self.inside.width c.self.inside.words.items q c.self.view_is c.self.invariant)) in
    let others = (λ (q : ℕ). ap (λ ws. bit_of ws q) c.deref-2.ensures.value ∙ sym (has_seen_row c.args.other.now c.other.inside.width c.other.inside.words.items q c.other.view_is c.other.invariant)) in
    record {
      answer = (
        (λ t q. sym (mine q) ∙ c.same_words.ensures.0 t q ∙ others q),
        (λ h. c.same_words.ensures.1 (λ q. mine q ∙ h q ∙ sym (others q))),
      );
    }
