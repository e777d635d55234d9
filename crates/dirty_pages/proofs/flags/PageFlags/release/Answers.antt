use Rattle.dirty_pages.proofs.Bits.{released, small_page, one_kind, left}
use Rattle.dirty_pages.proofs.flags.PageFlags.release.Goals as goal

pub returns : goal.returns
returns c =
    let l = left c.remove.new.self _ _ _ (c.remove.ensures tt) (released c.args.self.now.0 (small_page c.args.self.now c.requires) (one_kind c.args.self.now c.requires)) in
    record { page = l.0; dirty = l.1; marked = l.2 }
