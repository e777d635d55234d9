-- What a life is opened with, as contracts see it.
use Rattle.std.specs.Prelude.{ℕ, List}
use Rattle.image_format.specs.declared.fields.Marks.{Marks}
use Rattle.run_images.specs.Compiled.{CompiledView}
use Rattle.ckpt_runner.specs.declared.how.How.{How}
use Rattle.ckpt_runner.specs.declared.rooms.Given.{Given as Arguments}
use Rattle.ckpt_runner.specs.Opening.{Given}

-- by these arguments of the call
abbrev pub given_by : CompiledView → Marks → List ℕ → How → Given
given_by compiled marks input how = record {
  compiled = compiled;
  marks = marks;
  input = input;
  mode = how.mode;
  until = how.until;
  every = how.every;
  fill = how.fill;
}

abbrev pub given_as : Arguments → Given
given_as g = given_by g.compiled.now g.marks g.input.now g.how
