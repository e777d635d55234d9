use Rattle.dirty_pages.proofs.States.{served_states}
use Rattle.dirty_pages.proofs.pages.Pages.serve_fault.Goals as goal

pub returns : goal.returns
returns c = record { exact = served_states c.self.inside.flags.items _ c.args.p c.index_mut.result.now c.open.new.self c.self.view_is c.index_mut.ensures.value c.open.ensures.dirty c.open.ensures.marked }
