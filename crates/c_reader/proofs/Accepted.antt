-- A text that was read, or not, spells just that.
use Rattle.std.proofs.Common.{◌≡◌, ◌<◌, ◌≤◌, List, ℕ, length, Some, None, Ok, sym, ap, ◌∙◌, refl, arith}
use Rattle.c_tree.specs.declared.token.Token.{Token}
use Rattle.c_tree.specs.declared.tree.Constant.{Constant}
use Rattle.c_tree.specs.declared.tree.Item.{Item}
use Rattle.c_tree.specs.declared.tree.Program.{Program}
use Rattle.c_tree.specs.Scan.{Scanned, scan}
use Rattle.c_tree.specs.Programs.{longest, IsTextOf}
use Rattle.c_reader.specs.declared.fault.ReadFault.{ReadFault}
use Rattle.c_reader.specs.declared.fault.ReadFault.TheVariants as fault
use Rattle.c_reader.specs.Scanning.{FailsScan}
use Rattle.c_reader.specs.ReadFaults.{IsReadFault}
use Rattle.c_reader.specs.ReadingItems.{program}
use Rattle.c_reader.proofs.ItemForms.{program_reads, program_sound}

abbrev pub scanned : List Token → List Constant → Scanned
scanned ts cs = record { tokens = ts; constants = cs }

same_scan : (text : List ℕ) (s r : Scanned) → scan text ≡ Ok s → scan text ≡ Ok r → r ≡ s
same_scan text s r a b = let q : Ok r ≡ Ok s = sym b ∙ a in cc

abbrev pub with_items : List Constant → List Item → Program
with_items cs xs = record { constants = cs; items = xs }

some_is : (xs ys : List Item) → Some xs ≡ Some ys → xs ≡ ys
some_is xs ys e = cc

module _ (text : List ℕ) (ts : List Token) (cs : List Constant) (s : scan text ≡ Ok (scanned ts cs)) where
  -- what was read is spelled
  pub is_text : (xs : List Item) → length text ≤ longest → program ts ≡ Some xs → IsTextOf (with_items cs xs) text
  is_text xs l r = (l, scanned ts cs, s, refl, program_sound ts xs r)

  -- the items of a program that the text spells are read
  reads_text : (p : Program) → IsTextOf p text → program ts ≡ Some p.items
  reads_text p t = ap (λ (r : Scanned). program r.tokens) (sym (same_scan text (scanned ts cs) t.1 s t.2)) ∙ program_reads p.items t.1.tokens t.4

  pub only_this : (xs : List Item) (p : Program) → program ts ≡ Some xs → IsTextOf p text → with_items cs xs ≡ p
  only_this xs p r t =
      let e : xs ≡ p.items = some_is xs p.items (sym r ∙ reads_text p t) in
      let c : cs ≡ p.constants = sym (ap (λ (q : Scanned). q.constants) (same_scan text (scanned ts cs) t.1 s t.2)) ∙ t.3 in
      ap (λ q. with_items q xs) c ∙ ap (with_items p.constants) e

  pub not_this : (p : Program) → program ts ≡ None → IsTextOf p text → ⊥
  not_this p r t = let e : None ≡ Some p.items = sym r ∙ reads_text p t in cc

-- a fault of the scan is the text's
pub scan_fault : (text : List ℕ) (e : ReadFault) → length text ≤ longest → FailsScan e (scan text) → IsReadFault text e
scan_fault text fault.Memory l h = tt
scan_fault text (fault.TooLong n) l h = absurd h
scan_fault text (fault.BadByte n) l h = (l, h)
scan_fault text (fault.BadNumber n) l h = (l, h)
scan_fault text fault.UnendedComment l h = (l, h)
scan_fault text (fault.Syntax n) l h = absurd h

err_not_ok : (e : ReadFault) (text : List ℕ) (s : Scanned) → FailsScan e (scan text) → scan text ≡ Ok s → e ≡ fault.Memory
err_not_ok fault.Memory text s h k = refl
err_not_ok (fault.TooLong n) text s h k = absurd h
err_not_ok (fault.BadByte n) text s h k = absurd cc
err_not_ok (fault.BadNumber n) text s h k = absurd cc
err_not_ok fault.UnendedComment text s h k = absurd cc
err_not_ok (fault.Syntax n) text s h k = absurd h

-- a text that the scan spoils spells nothing
pub scan_only : (text : List ℕ) (e : ReadFault) (p : Program) → FailsScan e (scan text) → IsTextOf p text → e ≡ fault.Memory
scan_only text e p h t = err_not_ok e text t.1 h t.2

pub no_text : (text : List ℕ) (p : Program) → longest < length text → IsTextOf p text → ⊥
no_text text p l t = omega (arith, l, t.0)

-- two programs that a text spells are one
pub one_program : (text : List ℕ) (p q : Program) → IsTextOf p text → IsTextOf q text → p ≡ q
one_program text p q t u =
    let found : with_items t.1.constants p.items ≡ q = only_this text t.1.tokens t.1.constants t.2 p.items q (program_reads p.items t.1.tokens t.4) u in
    sym (ap (λ cs. with_items cs p.items) t.3) ∙ found
