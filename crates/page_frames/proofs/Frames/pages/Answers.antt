use Rattle.std.proofs.Common.{sym}
use Rattle.page_frames.proofs.Words.{length_view}
use Rattle.page_frames.proofs.Frames.pages.Goals as goal

pub returns : goal.returns
returns c = record { answer = sym (length_view _ _ _ c.self.view_is) }
