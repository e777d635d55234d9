-- Passes one after the other.
use Rattle.std.proofs.Common.{◌≡◌, false, List, [], ◌∷◌, Some, Result, Ok, Err, IfOk, IfErr, refl, sym, ap, ◌∙◌}
use Rattle.c_tree.specs.declared.tree.Constant.{Constant}
use Rattle.c_tree.specs.declared.tree.Item.{Item}
use Rattle.c_tree.specs.declared.tree.Program.{Program}
use Rattle.c_tree.specs.declared.resolved.Resolved.{Resolved}
use Rattle.c_types.specs.declared.fault.CheckFault.{CheckFault}
use Rattle.c_types.specs.declared.known.Known.{Known}
use Rattle.c_types.specs.Faults.{Faults, first, is_memory, IsFirst}
use Rattle.c_types.specs.File.{File}
use Rattle.c_types.specs.FileNames.{items_step, start}
use Rattle.c_types.specs.Places.{◌>>=◌, Gets}
use Rattle.c_types.specs.Check.{passes, named, resolved, checked}

-- a pass with no fault
pub passes_none : {A : Type 0} (fs : Faults) (next : Result A CheckFault) → fs ≡ [] → passes fs next ≡ next
passes_none [] next h = refl
passes_none (f ∷ fs) next h = cc

-- a pass with faults
pub passes_first : {A : Type 0} (fs : Faults) (next : Result A CheckFault) (f : CheckFault) → first fs ≡ Some f → passes fs next ≡ Err f
passes_first [] next f h = cc
passes_first (g ∷ fs) next f h = cc

-- ---- the passes of a program

module _ (p : Program) where
  pub first_fails : (f : CheckFault) → (is_memory f ≡ false → named p.constants p.items ≡ Err f) → is_memory f ≡ false → checked p ≡ Err f
  first_fails f h m = ap (λ r. r >>= (λ file. resolved file p.items)) (h m)

  pub then_tree : (file : File) (result : Result Resolved CheckFault) → named p.constants p.items ≡ Ok file → Gets (resolved file p.items) result → IfOk result (λ t. checked p ≡ Ok t)
  then_tree file (Ok t) h g = ap (λ r. r >>= (λ file. resolved file p.items)) h ∙ g
  then_tree file (Err f) h g = tt

  pub then_fault : (file : File) (result : Result Resolved CheckFault) → named p.constants p.items ≡ Ok file → Gets (resolved file p.items) result → IfErr result (λ f. is_memory f ≡ false → checked p ≡ Err f)
  then_fault file (Ok t) h g = tt
  then_fault file (Err f) h g = λ m. ap (λ r. r >>= (λ file. resolved file p.items)) h ∙ g m

pub named_fails : (constants : List Constant) (is : List Item) (known : Known) (f : CheckFault) → known ≡ start is → IsFirst f ((items_step constants is).faults known) → is_memory f ≡ false → named constants is ≡ Err f
named_fails constants is known f e h m = passes_first ((items_step constants is).faults (start is)) _ f (ap (λ k. first ((items_step constants is).faults k)) (sym e) ∙ h m)
