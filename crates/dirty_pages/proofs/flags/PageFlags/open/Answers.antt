use Rattle.std.proofs.Common.{◌≡◌, ap, ◌∙◌}
use Rattle.bitflags.specs.Sets.{without}
use Rattle.dirty_pages.proofs.Bits.{opened, small_page, left}
use Rattle.dirty_pages.proofs.flags.PageFlags.open.Goals as goal

pub returns : goal.returns
returns c =
    let bits = c.remove.ensures tt ∙ ap (λ b. without 8 b 1) (c.insert.ensures tt) in
    let l = left c.remove.new.self _ _ _ bits (opened c.args.self.now.0 (small_page c.args.self.now c.requires)) in
    record { page = l.0; dirty = l.1; marked = l.2 }
