use Rattle.dirty_pages.proofs.States.{copied_states}
use Rattle.dirty_pages.proofs.pages.Pages.copied.Goals as goal

pub returns : goal.returns
returns c = record { exact = copied_states c.self.inside.flags.items _ c.args.p c.index_mut.result.now c.release.new.self c.self.view_is c.index_mut.ensures.value c.release.ensures.dirty c.release.ensures.marked }
