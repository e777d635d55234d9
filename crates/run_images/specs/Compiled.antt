-- What a life takes from a compiled program.
use Rattle.std.specs.Prelude.{◌≡◌, ℕ, List, length}
use Rattle.c_tree.specs.Layout.{first_words}
use Rattle.c_tree.specs.Excludes.{excludes}
use Rattle.flow_graph.specs.Checkpoints.{checkpoints_of}
use Rattle.flow_graph.specs.Run.{graphs_of}
use Rattle.exclusion_equations.specs.Excluded.{Sets}
use Rattle.machine_code.specs.CodeView.{CodeView}
use Rattle.code_maker.specs.CodeMeaning.{MeansGraphs}
use Rattle.run_images.specs.Source.{Source}

pub record CompiledView : Type 0 where
  pub code : CodeView
  pub sets : Sets
  -- the word with which each cell starts
  pub words : List ℕ
  -- the nodes that are CHECKPOINT_HERE, and how many EXCLUDE_HERE there are
  pub checkpoints : List ℕ
  pub directives : ℕ

-- how many cells the program has
abbrev pub cells_in : CompiledView → ℕ
cells_in c = length c.words

-- it is that of the source's program: the code means what the program's graphs mean, and the rest is the program's own
pub record IsCompiled (s : Source) (c : CompiledView) : Type 0 where
  pub code : MeansGraphs s.program c.code
  pub sets : c.sets ≡ s.sets
  pub words : c.words ≡ first_words s.program
  pub checkpoints : c.checkpoints ≡ checkpoints_of (graphs_of s.program).main.works
  pub directives : c.directives ≡ length (excludes s.program.main.body)
