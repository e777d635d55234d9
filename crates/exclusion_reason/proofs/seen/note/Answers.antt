use Rattle.std.proofs.Common.{◌≡◌, ◌⊎◌, true, subst}
use Rattle.std.proofs.lemmas.List.{get_or_read}
use Rattle.exclusion_reason.specs.declared.seen.Met.{Met}
use Rattle.exclusion_reason.specs.Seen.{holds, no_state}
use Rattle.exclusion_reason.proofs.SeenLaws.{noted}
use Rattle.exclusion_reason.proofs.seen.note.Goals as goal

pub returns-clause-only : goal.returns-clause-only
returns-clause-only c =
    let met = get_or_read c.args.seen.now.items c.args.state.node c.index-met.result.now c.requires.node c.index-met.ensures no_state in
    noted c.args.seen.now.items c.args.state c.with.result c.requires.node
    (λ f b h. subst (λ (x : Met). (holds x f b ≡ true) ⊎ ((f ≡ c.args.state.free) × (b ≡ c.args.state.behind))) met (c.with.ensures.only f b h))
