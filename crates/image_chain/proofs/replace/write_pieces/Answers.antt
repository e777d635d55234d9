use Rattle.std.proofs.Common.{arith, refl, subst, sym, ◌∙◌, IsTrue, []}
use Rattle.std.proofs.lemmas.List.{take_all}
use Rattle.disk_model.specs.declared.disk_file.DiskFile.TheVariants.{Output}
use Rattle.disk_model.proofs.Calls.{steady_twice, stays_twice}
use Rattle.image_chain.specs.Replace.{IsWritten}
use Rattle.image_chain.proofs.ReplaceLaws.{written_still, kept_twice}
use Rattle.image_chain.proofs.OutputLaws.{same_output}
use Rattle.image_chain.proofs.replace.write_pieces.Goals as goal

pub loop-from-init : goal.loop-from-init
loop-from-init g c = record {
  inside = omega arith;
  steady = record { tells = refl; tells_past = refl; faults = omega arith };
  counts = refl;
  output = λ _. same_output _;
  so_far = λ tells rs written. (written, written_still c.args.chain.now _ rs [] tells (g.met.D.Disk.lawful c.args.disk.now tells) written);
}

pub write_piece-requires-clause-stands : goal.write_piece-requires-clause-stands
write_piece-requires-clause-stands g c = λ mid.
    let tells = subst IsTrue c.loop-from.invariant.steady.tells mid in
    let s = c.requires.stands tells in
    (s.0, (c.loop-from.invariant.so_far tells s.0 s.1).0)

pub returns-in_err-from-clause-any_moment : goal.returns-in_err-from-clause-any_moment
returns-in_err-from-clause-any_moment g c = λ tells rs written.
    let mid = subst IsTrue (sym c.loop-from.invariant.steady.tells) tells in
    let was = c.loop-from.invariant.so_far tells rs written in
    kept_twice c.args.chain.now rs _ _ _ tells was.1 (c.write_piece.ensures.any_moment mid rs was.0)

pub loop-from-preserved : goal.loop-from-preserved
loop-from-preserved g c = record {
  inside = (let order = c.in_ok-from.ensures.order in omega (arith, order));
  steady = steady_twice _ _ _ c.loop-from.invariant.steady c.write_piece.ensures.steady;
  counts = c.in_ok-from.ensures.counts ∙ c.loop-from.invariant.counts;
  output = λ tells. stays_twice Output _ _ _ (c.loop-from.invariant.output tells) (c.write_piece.ensures.output (subst IsTrue (sym c.loop-from.invariant.steady.tells) tells));
  so_far = λ tells rs written.
      let mid = subst IsTrue (sym c.loop-from.invariant.steady.tells) tells in
      let was = c.loop-from.invariant.so_far tells rs written in
      (c.in_ok-from.ensures.answer mid rs was.0, kept_twice c.args.chain.now rs _ _ _ tells was.1 (c.write_piece.ensures.any_moment mid rs was.0));
}

pub returns-clause-answer : goal.returns-clause-answer
returns-clause-answer g c = λ tells rs written.
    subst (IsWritten c.args.chain.now (g.D.Disk.view c.loop-from.disk) rs) (take_all c.loop-from.from c.args.image.now (omega arith)) (c.loop-from.invariant.so_far tells rs written).0

pub returns-clause-any_moment : goal.returns-clause-any_moment
returns-clause-any_moment g c = λ tells rs written. (c.loop-from.invariant.so_far tells rs written).1

pub returns-in_err-from-clause-output : goal.returns-in_err-from-clause-output
returns-in_err-from-clause-output g c = λ tells. stays_twice Output _ _ _ (c.loop-from.invariant.output tells) (c.write_piece.ensures.output (subst IsTrue (sym c.loop-from.invariant.steady.tells) tells))
