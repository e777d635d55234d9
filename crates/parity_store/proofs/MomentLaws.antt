-- How what is told of a disk goes on over looks.
use Rattle.std.proofs.Common.{refl, sym, ◌∙◌, ap, subst, IsTrue, arith}
use Rattle.disk_model.specs.declared.disk_file.DiskFile.{DiskFile}
use Rattle.disk_model.specs.Store.{Store, file_of}
use Rattle.disk_model.specs.View.{View, SameFile}
use Rattle.disk_model.specs.Keeps.{Untouched}
use Rattle.disk_model.specs.Moments.{LeavesOnly}

pub moments_looked : (old mid new : View) (P : Store → Type 0) → LeavesOnly old mid P → Untouched mid new → LeavesOnly old new P
moments_looked old mid new P so_far looked = record {
  tells = looked.tells ∙ so_far.tells;
  tells_past = looked.tells_past ∙ so_far.tells_past;
  now = λ t c left. so_far.now t c ((looked.crash (subst IsTrue (sym so_far.tells) t) c).0 left);
  later = λ p. let a = so_far.later p in let b = looked.later (q p) in omega (arith, a, b);
  each = λ p c left. so_far.each p c ((looked.past (q p) old.moment c (so_far.later p)).0 left);
  before = λ p t c le left. let a = so_far.later p in so_far.before p t c le ((looked.past (q p) t c (omega (arith, le, a))).0 left);
}
  where
    q : IsTrue old.tells_past → IsTrue mid.tells_past
    q p = subst IsTrue (sym so_far.tells_past) p

pub untouched_file : (g : DiskFile) (old new : View) → IsTrue old.tells → Untouched old new → SameFile g old new
untouched_file g old new tells looked = record { seen = ap (file_of g) (looked.seen tells); only = λ c left. (c, (looked.crash tells c).0 left, refl); still = λ c left. (c, (looked.crash tells c).1 left, refl) }

pub same_file : (g : DiskFile) (v : View) → SameFile g v v
same_file g v = record { seen = refl; only = λ c left. (c, left, refl); still = λ c left. (c, left, refl) }
