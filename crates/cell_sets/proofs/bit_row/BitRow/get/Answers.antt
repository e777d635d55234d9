use Rattle.std.proofs.Common.{sym, ap, ◌∙◌, arith, length}
use Rattle.cell_sets.specs.Bits.{bit_of}
use Rattle.cell_sets.proofs.RowLaws.{in_words, has_seen_row}
use Rattle.cell_sets.proofs.bit_row.BitRow.get.Goals as goal

pub bit-requires : goal.bit-requires
bit-requires c =
    let l = in_words c.args.self.now c.self.inside.width c.self.inside.words.items c.args.b c.self.view_is c.self.invariant c.requires.within in
    omega (arith, l, ap length c.deref.ensures.value)

pub returns : goal.returns
returns c = record {
  answer = c.bit.ensures ∙ ap (λ ws. bit_of ws c.args.b) c.deref.ensures.value ∙ sym (has_seen_row c.args.self.now c.self.inside.width c.self.inside.words.items c.args.b c.self.view_is c.self.invariant);
}
