-- What `compile` prints: the instructions of the code of a program.
use Rattle.std.specs.Prelude.{◌≡◌, ℕ, List}
use Rattle.c_tree.specs.declared.resolved.Resolved.{Resolved}
use Rattle.machine_code.specs.CodeView.{CodeView}
use Rattle.machine_code.specs.Valid.{IsValid}
use Rattle.machine_code.specs.Listing.{listing}
use Rattle.code_maker.specs.ProgramCode.{code_of}
use Rattle.code_maker.specs.CodeMeaning.{MeansGraphs}

-- the text lists the code that is made of the program: a valid one, which does what the program's graphs do
pub record IsListing (p : Resolved) (text : List ℕ) : Type 0 where
  pub code : CodeView
  pub is : code ≡ code_of p
  pub valid : IsValid code
  pub means : MeansGraphs p code
  pub told : text ≡ listing code.instrs
