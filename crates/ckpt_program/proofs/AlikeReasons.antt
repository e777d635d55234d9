-- Graphs whose nodes do the same have the same reasons for a cell.
use Rattle.std.proofs.Common.{ℕ, List, [], ◌∷◌, ◌++◌, sym, ap, ◌∙◌}
use Rattle.path_laws.specs.Graph.{Graph, mark_is_checkpoint, mark_is_directive}
use Rattle.path_laws.specs.Walks.{IsWalk}
use Rattle.exclusion_reason.specs.Least.{IsLeast}
use Rattle.exclusion_reason.specs.Reasons.{IsReason}
use Rattle.exclusion_reason.specs.WalksThatKeep.{NoKill, IsNeedWalk, IsWriteWalk}
use Rattle.exclusion_reason.specs.declared.reason.Reason.{Reason}
use Rattle.exclusion_reason.specs.declared.reason.Reason.TheVariants.{Dead, ReadOnly, Kept}
use Rattle.ckpt_program.proofs.AlikeGraphs.{AreJoinedAlike, TreatAlike, back, back_at, walk, free, dead, read_only}

module _ (g h : Graph) (k c : ℕ) (a : AreJoinedAlike g h) (t : TreatAlike g h c) where
  no_kill : (w : List ℕ) → NoKill g c w → NoKill h c w
  no_kill [] p = tt
  no_kill (n ∷ w) p = (sym (t.kills n) ∙ p.0, no_kill w p.1)

  whole_walk : (w : List ℕ) → IsWalk g w → IsWalk h w
  whole_walk [] p = p
  whole_walk (n ∷ w) p = walk g h a n w p

  need_walk : (w : List ℕ) → IsNeedWalk g k c w → IsNeedWalk h k c w
  need_walk w i = record {
    exclude = i.exclude;
    before = i.before;
    checkpoint = i.checkpoint;
    between = i.between;
    read = i.read;
    parts = i.parts;
    joined = whole_walk w i.joined;
    leaves = ap (mark_is_directive k) (sym (a.marked i.exclude)) ∙ i.leaves;
    free = free g h a (i.before ++ (i.checkpoint ∷ [])) i.free;
    reaches = ap mark_is_checkpoint (sym (a.marked i.checkpoint)) ∙ i.reaches;
    unkilled = no_kill i.between i.unkilled;
    reads = sym (t.reads i.read) ∙ i.reads;
  }

  write_walk : (w : List ℕ) → IsWriteWalk g k c w → IsWriteWalk h k c w
  write_walk w i = record {
    exclude = i.exclude;
    before = i.before;
    write = i.write;
    between = i.between;
    checkpoint = i.checkpoint;
    parts = i.parts;
    joined = whole_walk w i.joined;
    leaves = ap (mark_is_directive k) (sym (a.marked i.exclude)) ∙ i.leaves;
    free = free g h a (i.before ++ (i.write ∷ (i.between ++ (i.checkpoint ∷ [])))) i.free;
    writes = sym (t.writes i.write) ∙ i.writes;
    reaches = ap mark_is_checkpoint (sym (a.marked i.checkpoint)) ∙ i.reaches;
  }

least_alike : (P Q : List ℕ → Type 0) (w : List ℕ) → ((v : List ℕ) → P v → Q v) → ((v : List ℕ) → Q v → P v) → IsLeast P w → IsLeast Q w
least_alike P Q w to from l = record { is_one = to w l.is_one; least = λ v is. l.least v (from v is) }

least_need : (g h : Graph) (k c : ℕ) (w : List ℕ) → AreJoinedAlike g h → TreatAlike g h c → IsLeast (IsNeedWalk g k c) w → IsLeast (IsNeedWalk h k c) w
least_need g h k c w a t = least_alike (IsNeedWalk g k c) (IsNeedWalk h k c) w (need_walk g h k c a t) (need_walk h g k c (back g h a) (back_at g h c t))

least_write : (g h : Graph) (k c : ℕ) (w : List ℕ) → AreJoinedAlike g h → TreatAlike g h c → IsLeast (IsWriteWalk g k c) w → IsLeast (IsWriteWalk h k c) w
least_write g h k c w a t = least_alike (IsWriteWalk g k c) (IsWriteWalk h k c) w (write_walk g h k c a t) (write_walk h g k c (back g h a) (back_at g h c t))

-- what is the reason in one is the reason in the other
pub reason_alike : (g h : Graph) (k c : ℕ) (r : Reason) → AreJoinedAlike g h → TreatAlike g h c → IsReason g k c r → IsReason h k c r
reason_alike g h k c Dead a t is = dead g h k c a t is
reason_alike g h k c (ReadOnly need) a t is = (read_only g h k c a t is.0, least_need g h k c need a t is.1)
reason_alike g h k c (Kept need write) a t is =
    (λ d. is.0 (dead h g k c (back g h a) (back_at g h c t) d), λ r. is.1 (read_only h g k c (back g h a) (back_at g h c t) r), least_need g h k c need a t is.2, least_write g h k c write a t is.3)
