use Rattle.std.proofs.Common.{◌≡◌, ◌++◌, drop}
use Rattle.std.specs.Prelude.{string_bytes}
use Rattle.drilled_lives.specs.Lines.{courses_lines}
use Rattle.drilled_lives.proofs.lines.add_courses.Given as goal

abbrev pub invariant-courses : goal.invariant-courses
invariant-courses l = string_bytes l.text ++ courses_lines (drop l.course-index l.courses) ≡ string_bytes l.fn.text ++ courses_lines l.courses
