use Rattle.std.proofs.Common.{refl, sym, subst}
use Rattle.life_journal.specs.JournalView.{JournalView}
use Rattle.life_journal.specs.Holding.{HoldsJournal}
use Rattle.life_journal.specs.contracts.journal.Journal.{the_view}
use Rattle.life_journal.proofs.HoldLaws.{output_grows}
use Rattle.life_journal.specs.Writing.{KeepsJournal}
use Rattle.life_journal.proofs.WritingLaws.{keeps_beside}
use Rattle.life_journal.proofs.journal.Journal.write.Goals as goal

pub returns-clause-holds : goal.returns-clause-holds
returns-clause-holds g c = λ tells rs w h.
    let u = g.D.Disk.view c.args.disk.now in
    output_grows (the_view c.self.inside) _ u (g.D.Disk.view c.push_all.new.disk) c.args.bytes.now refl refl c.push_all.ensures.same c.in_ok-push_all.ensures.answer tells rs w
    (subst (λ (j : JournalView). HoldsJournal j u rs w) (sym c.self.view_is) h)

pub returns-clause-keeps : goal.returns-clause-keeps
returns-clause-keeps g c = λ tells rs r w h.
    let u = g.D.Disk.view c.args.disk.now in
    let was = subst (λ (j : JournalView). KeepsJournal j u rs r w) (sym c.self.view_is) h in
    keeps_beside (the_view c.self.inside) _ u (g.D.Disk.view c.push_all.new.disk) rs r w _ refl refl refl (c.push_all.ensures.same tells) (c.in_ok-push_all.ensures.answer tells w was.output) was
