use Rattle.std.proofs.Common.{◌∙◌, ap, subst, sym}
use Rattle.disk_model.specs.Store.{file_of}
use Rattle.image_chain.specs.declared.chain.Span.{Span}
use Rattle.image_chain.specs.ChainView.{ChainView}
use Rattle.image_chain.specs.Shown.{StandsAt, span_at}
use Rattle.image_chain.proofs.ShownLaws.{stands}
use Rattle.image_chain.proofs.chain.Chain.record_at.Goals as goal

pub returns-clause-told : goal.returns-clause-told
returns-clause-told g c = rw (← c.self.view_is) (λ tells before r after place rests.
    let chain : ChainView = record { current = c.self.inside.current; due = c.self.inside.due } in
    let span = sym (c.span_of-span.ensures ∙ ap (λ (v : ChainView). span_at v c.args.i) (sym c.self.view_is)) in
    c.read_span.ensures.told tells r (subst (λ (s : Span). StandsAt s r (file_of c.self.inside.current.file (g.D.Disk.view c.args.disk.now).seen)) span (stands chain (g.D.Disk.view c.args.disk.now) c.args.i before r after place rests)))
