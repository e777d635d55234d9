use Rattle.std.proofs.Common.{subst, sym, IsTrue}
use Rattle.output_file.proofs.ImageLaws.{images_twice}
use Rattle.output_file.proofs.MomentLaws.{then_leaves}
use Rattle.output_file.proofs.output.Output.flush.Goals as goal

pub returns-clause-answer : goal.returns-clause-answer
returns-clause-answer g c = λ tells bytes on.
    let mid_tells = subst IsTrue (sym c.in_ok-write_waiting.ensures.steady.tells) tells in
    (c.in_ok-make_lasting.ensures.answer mid_tells bytes (c.in_ok-write_waiting.ensures.answer tells bytes on)).0

pub returns-clause-durable : goal.returns-clause-durable
returns-clause-durable g c = λ tells bytes on.
    let mid_tells = subst IsTrue (sym c.in_ok-write_waiting.ensures.steady.tells) tells in
    (c.in_ok-make_lasting.ensures.answer mid_tells bytes (c.in_ok-write_waiting.ensures.answer tells bytes on)).1

pub returns-in_err-make_lasting-clause-same : goal.returns-in_err-make_lasting-clause-same
returns-in_err-make_lasting-clause-same g c = λ tells.
    let mid_tells = subst IsTrue (sym c.in_ok-write_waiting.ensures.steady.tells) tells in
    images_twice _ _ _ (c.in_ok-write_waiting.ensures.same tells) (c.make_lasting.ensures.same mid_tells)

pub returns-clause-same : goal.returns-clause-same
returns-clause-same g c = λ tells.
    let mid_tells = subst IsTrue (sym c.in_ok-write_waiting.ensures.steady.tells) tells in
    images_twice _ _ _ (c.in_ok-write_waiting.ensures.same tells) (c.make_lasting.ensures.same mid_tells)

pub returns-clause-any_moment : goal.returns-clause-any_moment
returns-clause-any_moment g c = λ tells.
    let mid_tells = subst IsTrue (sym c.in_ok-write_waiting.ensures.steady.tells) tells in
    then_leaves _ _ _ _ tells (c.in_ok-write_waiting.ensures.any_moment tells) (c.make_lasting.ensures.any_moment mid_tells)
