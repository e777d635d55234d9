use Rattle.std.proofs.Common.{◌≡◌, ◌≢◌, IsTrue, List, ℕ, length}
use Rattle.disk_model.specs.View.{Steady}
use Rattle.image_format.specs.Image.{Image}
use Rattle.image_chain.specs.declared.chain.Step.TheVariants.{Done}
use Rattle.image_chain.specs.Append.{IsAtRest, Spells, TakesOver, due_after}
use Rattle.image_chain.proofs.LoopWords.{IsInsideOrDone, left_to_do, SoFar}
use Rattle.image_chain.proofs.chain.Chain.append.Given as goal

abbrev pub invariant-loop-at : goal.invariant-loop-at
invariant-loop-at g l = record {
  inside : IsInsideOrDone l.at (length l.image);
  due : l.self.due ≡ due_after l.at;
  same : l.at ≢ Done → l.self.current ≡ l.fn.self.current;
  took : l.at ≡ Done → TakesOver l.fn.self.current l.self.current l.image;
  steady : Steady (g.D.Disk.view l.fn.disk) (g.D.Disk.view l.disk);
  counts : (g.D.Disk.view l.disk).faults ≡ (g.D.Disk.view l.fn.disk).faults;
  so_far : IsTrue (g.D.Disk.view l.fn.disk).tells → (rs : List Image) (r : Image) (behind : List ℕ) → Spells r l.image → IsAtRest l.fn.self.current (g.D.Disk.view l.fn.disk) rs behind → SoFar l.fn.self.current l.self.current r l.image l.at (g.D.Disk.view l.fn.disk) (g.D.Disk.view l.disk) rs;
}

abbrev pub decreases-loop-at : goal.decreases-loop-at
decreases-loop-at g l = left_to_do l.at (length l.image)
