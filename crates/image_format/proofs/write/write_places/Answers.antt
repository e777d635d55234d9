use Rattle.image_format.proofs.WriteLaws.{four_more}
use Rattle.image_format.proofs.write.write_places.Goals as goal

pub returns-clause-list : goal.returns-clause-list
returns-clause-list c =
    four_more c.args.out.now.list _ _ _ _ _ _ _ _ _ _ _ _ c.to_be_bytes.ensures c.to_be_bytes-2.ensures c.to_be_bytes-3.ensures c.to_be_bytes-4.ensures
    c.append.ensures.list c.append-2.ensures.list c.append-3.ensures.list c.append-4.ensures.list
