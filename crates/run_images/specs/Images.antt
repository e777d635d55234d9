-- The images of a run, made from its events and the excluded sets alone.
use Rattle.std.specs.Prelude.{ℕ, ◌+◌, ◌/◌, Bool, true, ◌==◌, ◌&&◌, ◌||◌, not, nat_lt, if◌then◌else◌, List, [], ◌∷◌, ◌++◌}
use Rattle.ckpt_base.specs.Event.{Event, Wrote, Byte, Took, Excluded, Checkpoint}
use Rattle.cell_sets.specs.Sets.{has}
use Rattle.exclusion_equations.specs.Excluded.{Sets, dead_of, read_only_of}
use Rattle.image_format.specs.declared.fields.Fields.{Fields}
use Rattle.image_format.specs.declared.fields.Marks.{Marks}
use Rattle.run_images.specs.Since.{Since, at_first, is_due, with_event, is_page_fresh}

-- what the images of a run are taken with: the digests of text and input, how many cells the program has, its excluded sets, and how many steps lie between two images at least
pub record Taking : Type 0 where
  pub marks : Marks
  pub cells : ℕ
  pub sets : Sets
  pub every : ℕ

-- an image of a run: what it says of its checkpoint, and which cells it lists
pub record TakenImage : Type 0 where
  pub fields : Fields
  pub lists : ℕ → Bool

-- the directive leaves this cell out: it is dead, or it is read-only and an image behind the directive has it
abbrev pub is_excluded : Sets → ℕ → Bool → ℕ → Bool
is_excluded sets directive included c = not (directive == 0) && (has (dead_of sets directive) c || (included && has (read_only_of sets directive) c))

-- an image that is taken now lists this cell: its page was written since the image before, and the directive in force does not leave it out
abbrev pub lists_at : Taking → Since → ℕ → Bool
lists_at t s c = nat_lt c t.cells && (is_page_fresh s (c / 512) && not (is_excluded t.sets s.directive s.included c))

-- what an image says that is taken at this node and tick
abbrev pub fields_at : Marks → ℕ → ℕ → Since → Fields
fields_at marks node tick s = record {
  marks = marks;
  node = node;
  steps = tick;
  input_place = s.input_place;
  output_length = s.output_length;
  directive = s.directive;
  left_out = s.included && not (s.directive == 0);
  number = s.number + 1;
}

abbrev pub taken_at : Taking → ℕ → ℕ → Since → TakenImage
taken_at t node tick s = record { fields = fields_at t.marks node tick s; lists = lists_at t s }

-- the image that is taken with an event, if any
abbrev pub taken_with : Taking → Event → Since → List TakenImage
taken_with t (Wrote c) s = []
taken_with t (Byte b) s = []
taken_with t Took s = []
taken_with t (Excluded k) s = []
taken_with t (Checkpoint node tick) s = if is_due t.every s tick then taken_at t node tick s ∷ [] else []

-- those that are taken with these events, in order
abbrev pub images_from : Taking → List Event → Since → List TakenImage
images_from t [] s = []
images_from t (e ∷ es) s = taken_with t e s ++ images_from t es (with_event t.every e s)

-- the images of a run with these events
abbrev pub images : Taking → List Event → List TakenImage
images t events = images_from t events at_first

-- what an image leaves for the next one
abbrev pub since_behind : Fields → Since
since_behind f = record { number = f.number; newest_tick = f.steps; written = []; directive = f.directive; included = true; input_place = f.input_place; output_length = f.output_length }
