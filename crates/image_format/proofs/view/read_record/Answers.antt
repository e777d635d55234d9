use Rattle.std.proofs.Common.{arith}
use Rattle.image_format.proofs.ViewLaws.{found_of, only_of}
use Rattle.image_format.proofs.view.read_record.Goals as goal

pub returns-clause-found : goal.returns-clause-found
returns-clause-found c = found_of c.args.bytes.now c.read_front.result (λ i. omega (arith, c.type_inv.bytes i)) c.read_front.ensures.exact

pub returns-clause-only : goal.returns-clause-only
returns-clause-only c = only_of c.args.bytes.now c.read_front.result c.read_front.ensures.exact
