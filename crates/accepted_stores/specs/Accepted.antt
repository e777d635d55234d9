-- Which chain is accepted of a store that stands for what was given, and how opening it may still be refused.
use Rattle.std.specs.Prelude.{◌≡◌, ℕ, ◌<◌, length}
use Rattle.disk_model.specs.Store.{Store}
use Rattle.image_format.specs.declared.fields.Fields.{Fields}
use Rattle.image_chain.specs.Records.{Found}
use Rattle.ckpt_runner.specs.declared.how.Mode.TheVariants.{Run, Restart}
use Rattle.ckpt_runner.specs.declared.started.OpenFault.{OpenFault}
use Rattle.ckpt_runner.specs.declared.started.OpenFault.TheVariants.{Memory, Failed, Damaged, Occupied, OtherSource, OtherInput, Behind}
use Rattle.ckpt_runner.specs.Opening.{Given, HasChain}
use Rattle.ckpt_runner.specs.Unfit.{Fits}

-- the chain fits the program and the input that are given, and the output file
abbrev pub FitsGiven : Given → Store → Found → Fields → Type 0
FitsGiven g c found newest = Fits g.compiled (length g.input) (length c.output) found newest

-- the store has a chain, and the life is to begin
abbrev pub IsOccupied : ℕ → ℕ → Given → Store → Type 0
IsOccupied image step g c = (found : Found) × (newest : Fields) × HasChain c found newest × (g.mode ≡ Run) × (image ≡ newest.number) × (step ≡ newest.steps)

-- the life is to be resumed, to a bound below the steps of the newest image
abbrev pub IsBehindChain : ℕ → ℕ → Given → Store → Type 0
IsBehindChain bound step g c = (found : Found) × (newest : Fields) × HasChain c found newest × (g.mode ≡ Restart) × (bound ≡ g.until) × (step ≡ newest.steps) × (bound < step)

-- a store that stands for what was given may be refused for want of memory, for a call on the disk that failed, as occupied, and for a bound below its newest image: for nothing else
abbrev pub MayRefuse : OpenFault → Given → Store → Type 0
MayRefuse Memory g c = Unit {0}
MayRefuse Failed g c = Unit {0}
MayRefuse (Occupied image step) g c = IsOccupied image step g c
MayRefuse (Behind bound step) g c = IsBehindChain bound step g c
MayRefuse (Damaged file place) g c = ⊥
MayRefuse (OtherSource kept given) g c = ⊥
MayRefuse (OtherInput kept given) g c = ⊥
