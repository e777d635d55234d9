use Rattle.std.proofs.Common.{◌≡◌, ◌≢◌, IsTrue, List, ℕ}
use Rattle.disk_model.specs.View.{Steady}
use Rattle.image_format.specs.Image.{Image}
use Rattle.image_chain.specs.declared.chain.Step.TheVariants.{Done}
use Rattle.life_journal.specs.declared.journal.JournalState.TheVariants.{Appending}
use Rattle.life_journal.specs.Writing.{KeepsJournal}
use Rattle.life_journal.proofs.WritingLaws.{WrittenSoFar, calls_left}
use Rattle.life_journal.proofs.journal.Journal.write_all.Given as goal

abbrev pub invariant-calls : goal.invariant-calls
invariant-calls g l = record {
  state : l.self.state ≡ Appending;
  more : l.self.chain.due ≢ Done;
  output : l.self.output ≡ l.fn.self.output;
  prepared : l.self.prepared ≡ l.fn.self.prepared;
  current : l.self.chain.current ≡ l.fn.self.chain.current;
  steady : Steady (g.D.Disk.view l.fn.disk) (g.D.Disk.view l.disk);
  counts : (g.D.Disk.view l.disk).faults ≡ (g.D.Disk.view l.fn.disk).faults;
  so_far : IsTrue (g.D.Disk.view l.fn.disk).tells → (rs : List Image) (r : Image) (w : List ℕ) → KeepsJournal l.fn.self (g.D.Disk.view l.fn.disk) rs r w → WrittenSoFar l.fn.self l.self (g.D.Disk.view l.fn.disk) (g.D.Disk.view l.disk) rs r w;
}

abbrev pub decreases-calls : goal.decreases-calls
decreases-calls g l = calls_left l.self
