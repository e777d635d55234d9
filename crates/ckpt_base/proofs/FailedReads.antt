-- A read that fails leaves what is left of the file.
use Rattle.std.proofs.Common.{◌≡◌, ap, [], unwrap_or, refl, sym, subst, ◌≤◌, ℕ, List, IsTrue, is_some, Err, arith}
use Rattle.ckpt_base.specs.Faults.{counted}
use Rattle.ckpt_base.specs.Shelf.{MemoryShelf, Reads, shelf_view, after_failure}

pub fails : {E : Type 0} (s t : MemoryShelf) (buffer filled : List ℕ) (e : E) → IsTrue (is_some s.rest) → t ≡ after_failure s s.rest → s.faults ≤ t.faults → Reads buffer (Err e) (shelf_view s) (shelf_view t) filled
fails s t buffer filled e opened is le = record {
  same = record { tells = refl; files = ap (λ (u : MemoryShelf). u.files) is };
  counts = (let k : t.faults ≡ counted s.faults = ap (λ (u : MemoryShelf). u.faults) is in omega arith, le);
  is_open = subst (λ (u : MemoryShelf). IsTrue (is_some u.rest)) (sym is) opened;
  number = tt;
  bytes = λ _. tt;
  at_end = λ _. tt;
  failed = λ _. ap (λ (u : MemoryShelf). unwrap_or u.rest []) is;
}
