-- The lines that tell of the lives of a drill.
use Rattle.std.specs.Prelude.{ℕ, List, [], ◌∷◌, ◌++◌, codes}
use Rattle.ckpt_runner.specs.declared.started.Started.{Started}
use Rattle.ckpt_runner.specs.declared.started.Started.TheVariants.{Begun, Resumed}
use Rattle.life_lines.specs.Lines.{resumed_line, ending_line}
use Rattle.drilled_lives.specs.declared.course.Course.{Course}
use Rattle.drilled_lives.specs.declared.course.Course.TheVariants as course

-- how a life started
abbrev pub start_line : Started → List ℕ
start_line Begun = codes "begun\n"
start_line (Resumed image step) = resumed_line image step

-- how it started, and that it was left or how it ended
abbrev pub course_lines : Course → List ℕ
course_lines course.Opening = codes "opening\nleft\n"
course_lines (course.Left started) = start_line started ++ codes "left\n"
course_lines (course.Lived l) = start_line l.started ++ ending_line l.ending l.steps

-- those of each life, in order
abbrev pub courses_lines : List Course → List ℕ
courses_lines [] = []
courses_lines (c ∷ cs) = course_lines c ++ courses_lines cs
