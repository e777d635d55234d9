use Rattle.std.proofs.Common.{rules, arith, subst, sym, refl, IsTrue, ◌≡◌, ◌*◌, ◌+◌}
use Rattle.image_chain.proofs.StepLaws.{piece_inside, piece_moments, piece_due, last_piece_due, reads_list, spells_short}
use Rattle.image_chain.proofs.LoopLaws.{piece_no_gate}
use Rattle.image_chain.proofs.OutputLaws.{step_output}
use Rattle.image_chain.proofs.append.write_piece.Goals as goal

pub write_at-requires : goal.write_at-requires
write_at-requires g c = record { within = λ tells. let s = c.requires.stands tells in piece_inside c.args.chain.now _ s.0 c.args.image.now c.args.i c.requires.inside s.1 }

pub overflow_add-result : goal.overflow_add-result
overflow_add-result g c = let short = spells_short c.requires.image.0 c.args.image.now c.requires.image.1 in omega arith

pub returns-in_err-write_at-clause-makes : goal.returns-in_err-write_at-clause-makes
returns-in_err-write_at-clause-makes g c = λ tells rs r spells due. record {
  due = search rules;
  reads = search rules;
  opened = λ e. absurd (piece_no_gate c.args.i e);
  moments = piece_moments c.args.chain.now _ _ rs c.args.image.now c.args.i _ _ c.write_at.result tells (g.met.D.Disk.lawful c.args.disk.now tells) c.write_at.ensures.answer due (omega arith);
  output = step_output c.args.chain.now _ _ rs _ c.write_at.result tells due.alone c.write_at.ensures.answer;
}

pub returns-then-to-image-clause-makes : goal.returns-then-to-image-clause-makes
returns-then-to-image-clause-makes g c = λ tells rs r spells due.
    let next : c.min-to.result ≡ 4096 * (c.args.i + 1) = omega arith in
    let then = piece_due c.args.chain.now _ _ rs c.args.image.now c.args.i _ c.min-to.result (c.args.i + 1) _ c.write_at.result tells c.write_at.ensures.answer (c.in_ok-write_at.ensures.answer.does tells) due (omega arith) (omega arith) (omega arith) next refl in
    record {
      due = then;
      reads = reads_list c.args.chain.now _ rs then.gate _ then.keeps then.alone (g.met.D.Disk.lawful c.write_at.new.self (subst IsTrue (sym c.write_at.ensures.answer.tells) tells)) then.closed then.reads;
      opened = λ e. absurd (piece_no_gate c.args.i e);
      moments = piece_moments c.args.chain.now _ _ rs c.args.image.now c.args.i _ _ c.write_at.result tells (g.met.D.Disk.lawful c.args.disk.now tells) c.write_at.ensures.answer due (omega arith);
      output = step_output c.args.chain.now _ _ rs _ c.write_at.result tells due.alone c.write_at.ensures.answer;
    }

pub returns-clause-makes : goal.returns-clause-makes
returns-clause-makes g c = λ tells rs r spells due.
    let then = last_piece_due c.args.chain.now _ _ rs c.args.image.now c.args.i _ c.min-to.result _ c.write_at.result tells c.write_at.ensures.answer (c.in_ok-write_at.ensures.answer.does tells) due (omega arith) (omega arith) (omega arith) (omega arith) refl in
    record {
      due = then;
      reads = reads_list c.args.chain.now _ rs then.gate _ then.keeps then.alone (g.met.D.Disk.lawful c.write_at.new.self (subst IsTrue (sym c.write_at.ensures.answer.tells) tells)) then.closed then.reads;
      opened = λ e. absurd (piece_no_gate c.args.i e);
      moments = piece_moments c.args.chain.now _ _ rs c.args.image.now c.args.i _ _ c.write_at.result tells (g.met.D.Disk.lawful c.args.disk.now tells) c.write_at.ensures.answer due (omega arith);
      output = step_output c.args.chain.now _ _ rs _ c.write_at.result tells due.alone c.write_at.ensures.answer;
    }
