use Rattle.std.proofs.Common.{sym}
use Rattle.cell_sets.specs.Bits.{bit_of}
use Rattle.cell_sets.proofs.SetLaws.{universe_seen}
use Rattle.cell_sets.proofs.bit_row.BitRow.width.Goals as goal

pub returns : goal.returns
returns c = record { answer = sym (universe_seen c.args.self.now (bit_of c.self.inside.words.items) c.self.inside.width c.self.view_is) }
