use Rattle.std.proofs.Common.{◌≡◌, ap, ◌∙◌, bit_or}
use Rattle.dirty_pages.proofs.Bits.{protected, small_page, left}
use Rattle.dirty_pages.proofs.flags.PageFlags.protect.Goals as goal

pub returns : goal.returns
returns c =
    let bits = c.insert.ensures tt ∙ ap (λ b. bit_or b 1) (c.remove.ensures tt) in
    let l = left c.insert.new.self _ _ _ bits (protected c.args.self.now.0 (small_page c.args.self.now c.requires)) in
    record { page = l.0; dirty = l.1; marked = l.2 }
