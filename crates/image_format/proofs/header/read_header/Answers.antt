use Rattle.image_format.proofs.HeaderLaws.{header_found_of, header_only_of}
use Rattle.image_format.proofs.header.read_header.Goals as goal

pub returns-clause-found : goal.returns-clause-found
returns-clause-found c = header_found_of c.args.bytes.now c.read_fields.result c.read_fields.ensures.bytes c.read_fields.ensures.size c.read_fields.ensures.exact

pub returns-clause-only : goal.returns-clause-only
returns-clause-only c = header_only_of c.args.bytes.now c.read_fields.result c.read_fields.ensures.exact
