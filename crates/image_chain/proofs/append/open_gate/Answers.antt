use Rattle.std.proofs.Common.{rules, subst, sym, IsTrue}
use Rattle.image_chain.proofs.StepLaws.{gate_inside, due_holds, open_gate_moments, open_gate_due, reads_more}
use Rattle.image_chain.proofs.LoopLaws.{open_no_gate}
use Rattle.image_chain.proofs.OutputLaws.{step_output}
use Rattle.image_chain.proofs.append.open_gate.Goals as goal

pub write_at-requires : goal.write_at-requires
write_at-requires g c = record { within = λ tells. let s = c.requires.stands tells in gate_inside c.args.chain.now _ s.0 c.args.image.now s.1 }

pub returns-in_err-write_at-clause-makes : goal.returns-in_err-write_at-clause-makes
returns-in_err-write_at-clause-makes g c = λ tells rs r spells due.
    let holds = due_holds c.args.chain.now rs r c.args.image.now due.keeps spells c.requires.room (c.requires.follows r spells) in
    record {
      due = search rules;
      reads = search rules;
      opened = λ e. absurd (open_no_gate e);
      moments = open_gate_moments c.args.chain.now _ _ rs r c.args.image.now c.write_at.result tells (g.met.D.Disk.lawful c.args.disk.now tells) c.write_at.ensures.answer due spells holds;
      output = step_output c.args.chain.now _ _ rs _ c.write_at.result tells due.alone c.write_at.ensures.answer;
    }

pub returns-clause-makes : goal.returns-clause-makes
returns-clause-makes g c = λ tells rs r spells due.
    let holds = due_holds c.args.chain.now rs r c.args.image.now due.keeps spells c.requires.room (c.requires.follows r spells) in
    let next = open_gate_due c.args.chain.now _ _ rs c.args.image.now c.write_at.result tells c.write_at.ensures.answer (c.in_ok-write_at.ensures.answer.does tells) due in
    record {
      due = next;
      reads = reads_more c.args.chain.now _ rs r c.args.image.now next.behind holds next.alone (g.met.D.Disk.lawful c.write_at.new.self (subst IsTrue (sym c.write_at.ensures.answer.tells) tells)) spells next.reads;
      opened = λ e. absurd (open_no_gate e);
      moments = open_gate_moments c.args.chain.now _ _ rs r c.args.image.now c.write_at.result tells (g.met.D.Disk.lawful c.args.disk.now tells) c.write_at.ensures.answer due spells holds;
      output = step_output c.args.chain.now _ _ rs _ c.write_at.result tells due.alone c.write_at.ensures.answer;
    }
