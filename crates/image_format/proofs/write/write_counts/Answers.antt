use Rattle.std.proofs.Common.{ap, ℕ, [], ◌∷◌}
use Rattle.image_format.proofs.WriteLaws.{four_more}
use Rattle.image_format.proofs.write.write_counts.Goals as goal

pub returns-clause-list : goal.returns-clause-list
returns-clause-list c =
    four_more c.args.out.now.list _ _ _ _ _ _ _ _ _ _ _ _ c.to_be_bytes.ensures (ap (λ (b : ℕ). b ∷ []) c.flag.ensures) c.to_be_bytes-2.ensures c.to_be_bytes-3.ensures
    c.append.ensures.list c.push.ensures.list c.append-2.ensures.list c.append-3.ensures.list
