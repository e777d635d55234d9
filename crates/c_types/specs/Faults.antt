-- The faults of a part of a text, in the order of the text, and what a call answers that looks for the first one.
use Rattle.std.specs.Prelude.{◌≡◌, Bool, true, false, if◌then◌else◌, List, [], ◌∷◌, ◌++◌, Option, Some, None, Result, Ok, Err}
use Rattle.c_types.specs.declared.fault.CheckFault.{CheckFault}
use Rattle.c_types.specs.declared.fault.CheckFault.TheVariants.{Memory}

abbrev pub Faults : Type 0
Faults = List CheckFault

abbrev pub unless : Bool → CheckFault → Faults
unless b f = if b then [] else f ∷ []

abbrev pub first : Faults → Option CheckFault
first [] = None
first (f ∷ fs) = Some f

-- the faults of each part of a list
abbrev pub faults_of : {X : Type 0} → (X → Faults) → List X → Faults
faults_of f [] = []
faults_of f (x ∷ xs) = f x ++ faults_of f xs

abbrev pub is_memory : CheckFault → Bool
is_memory Memory = true
is_memory f = false

-- the fault is the first. Want of memory may come at any place
abbrev pub IsFirst : CheckFault → Faults → Type 0
IsFirst f fs = is_memory f ≡ false → first fs ≡ Some f

-- Ok comes where there is no fault
abbrev pub Finds : {A : Type 0} → Result A CheckFault → Faults → Type 0
Finds (Ok a) fs = fs ≡ []
Finds (Err f) fs = IsFirst f fs
