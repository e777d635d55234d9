use Rattle.dirty_pages.proofs.Bits.{marked, small_page, one_kind, left}
use Rattle.dirty_pages.proofs.flags.PageFlags.mark.Goals as goal

pub returns-clause-page : goal.returns-clause-page
returns-clause-page c =
    (left c.insert.new.self _ _ _ (c.insert.ensures tt) (marked c.args.self.now.0 (small_page c.args.self.now c.requires.page) (one_kind c.args.self.now c.requires.page))).0
