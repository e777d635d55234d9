use Rattle.std.proofs.Common.{refl, sym, subst}
use Rattle.life_journal.specs.JournalView.{JournalView}
use Rattle.life_journal.specs.Holding.{HoldsJournal}
use Rattle.life_journal.specs.contracts.journal.Journal.{the_view}
use Rattle.life_journal.proofs.WritingLaws.{prepared_keeps}
use Rattle.life_journal.proofs.journal.Journal.prepare.Goals as goal

pub returns-clause-keeps : goal.returns-clause-keeps
returns-clause-keeps g c = λ rs w h.
    let v = g.D.Disk.view c.args.disk.now in
    prepared_keeps (the_view c.self.inside) _ v rs _ w refl refl refl c.make_record.ensures.spelled (subst (λ (j : JournalView). HoldsJournal j v rs w) (sym c.self.view_is) h)
