use Rattle.std.proofs.Common.{rules, subst, sym, IsTrue}
use Rattle.image_chain.proofs.StepLaws.{sync_record_moments, sync_record_due, reads_list}
use Rattle.image_chain.proofs.LoopLaws.{record_no_gate}
use Rattle.image_chain.proofs.OutputLaws.{step_output}
use Rattle.image_chain.proofs.append.sync_record.Goals as goal

pub returns-in_err-sync-clause-makes : goal.returns-in_err-sync-clause-makes
returns-in_err-sync-clause-makes g c = λ tells rs r spells due. record {
  due = search rules;
  reads = search rules;
  opened = λ e. absurd (record_no_gate e);
  moments = sync_record_moments c.args.chain.now _ _ rs c.args.image.now c.sync.result tells (g.met.D.Disk.lawful c.args.disk.now tells) c.sync.ensures.answer due;
  output = step_output c.args.chain.now _ _ rs _ c.sync.result tells due.alone c.sync.ensures.answer;
}

pub returns-clause-makes : goal.returns-clause-makes
returns-clause-makes g c = λ tells rs r spells due.
    let next = sync_record_due c.args.chain.now _ _ rs c.args.image.now c.sync.result tells c.sync.ensures.answer (c.in_ok-sync.ensures.answer.does tells) due in
    record {
      due = next;
      reads = reads_list c.args.chain.now _ rs next.gate _ next.keeps next.alone (g.met.D.Disk.lawful c.sync.new.self (subst IsTrue (sym c.sync.ensures.answer.tells) tells)) next.closed next.reads;
      opened = λ e. absurd (record_no_gate e);
      moments = sync_record_moments c.args.chain.now _ _ rs c.args.image.now c.sync.result tells (g.met.D.Disk.lawful c.args.disk.now tells) c.sync.ensures.answer due;
      output = step_output c.args.chain.now _ _ rs _ c.sync.result tells due.alone c.sync.ensures.answer;
    }
