-- A program with its input, and its run.
use Rattle.std.specs.Prelude.{ℕ, ◌≤◌, Bool, List, length}
use Rattle.ckpt_base.specs.Run.{Run, output}
use Rattle.c_tree.specs.declared.resolved.Resolved.{Resolved}
use Rattle.c_tree.specs.Layout.{cell_count}
use Rattle.c_tree.specs.Checked.{IsChecked}
use Rattle.c_tree.specs.Meaning.{meaning}
use Rattle.path_laws.specs.Graph as effects
use Rattle.flow_graph.specs.MainGraph.{IsMainGraph}
use Rattle.exclusion_equations.specs.Excluded.{Sets, AreExact}
use Rattle.image_format.specs.declared.fields.Marks.{Marks}
use Rattle.run_images.specs.Images.{Taking, TakenImage, images}

pub record Source : Type 0 where
  pub program : Resolved
  pub input : List ℕ
  -- the digests of the text and of the input
  pub marks : Marks
  -- the effect graph of `main`, and its excluded sets
  pub graph : effects.Graph
  pub sets : Sets
  -- how many steps may lie between two images of a store for it, at least
  pub spaced : ℕ → Bool

-- the program is checked, the graph and the sets are its own, and the input is no longer than an image can tell
pub record IsSource (s : Source) : Type 0 where
  pub checked : IsChecked s.program
  pub graph : IsMainGraph s.program s.graph
  pub sets : AreExact s.graph s.sets
  pub short : length s.input ≤ 16777216

-- its run, with at most n ticks
abbrev pub run_of : Source → ℕ → Run
run_of s n = meaning s.program s.input n

-- the bytes that this run writes
abbrev pub output_of : Source → ℕ → List ℕ
output_of s n = output (run_of s n).events

abbrev pub taking_of : Source → ℕ → Taking
taking_of s every = record { marks = s.marks; cells = cell_count s.program; sets = s.sets; every = every }

-- the images of this run, at least `every` steps apart
abbrev pub images_of : Source → ℕ → ℕ → List TakenImage
images_of s every n = images (taking_of s every) (run_of s n).events
