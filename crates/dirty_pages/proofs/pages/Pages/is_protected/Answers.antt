use Rattle.std.proofs.Common.{◌∙◌, arith}
use Rattle.dirty_pages.proofs.States.{length_states, protected_at}
use Rattle.dirty_pages.proofs.pages.Pages.is_protected.Goals as goal

pub returns : goal.returns
returns c =
    let l = length_states c.self.inside.flags.items _ c.self.view_is in
    record { answer = c.contains.ensures tt ∙ protected_at c.self.inside.flags.items _ c.args.p c.index.result.now c.self.view_is c.self.invariant (omega arith) c.index.ensures }
