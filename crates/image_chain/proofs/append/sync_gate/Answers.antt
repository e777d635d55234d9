use Rattle.std.proofs.Common.{rules, subst, sym, IsTrue}
use Rattle.image_chain.proofs.StepLaws.{due_holds, sync_gate_moments, sync_gate_rest, sync_gate_keeps, sync_gate_reads}
use Rattle.image_chain.proofs.SoundLaws.{sound_push}
use Rattle.image_chain.proofs.LoopLaws.{synced_reads}
use Rattle.image_chain.proofs.OutputLaws.{step_output}
use Rattle.image_chain.proofs.append.sync_gate.Goals as goal

pub returns-in_err-sync-clause-makes : goal.returns-in_err-sync-clause-makes
returns-in_err-sync-clause-makes g c = λ tells rs r spells due.
    let holds = due_holds c.args.chain.now rs r c.args.image.now due.keeps spells c.requires.room (c.requires.follows r spells) in
    record {
      due = search rules;
      reads = search rules;
      opened = λ e. synced_reads c.args.chain.now _ _ rs r c.args.image.now (g.met.D.Disk.lawful c.args.disk.now tells) (c.sync.ensures.only tells) spells holds due;
      moments = sync_gate_moments c.args.chain.now _ _ rs r c.args.image.now c.sync.result tells (g.met.D.Disk.lawful c.args.disk.now tells) c.sync.ensures.answer due spells holds;
      output = step_output c.args.chain.now _ _ rs _ c.sync.result tells due.alone c.sync.ensures.answer;
    }

pub returns-clause-makes : goal.returns-clause-makes
returns-clause-makes g c = λ tells rs r spells due.
    let holds = due_holds c.args.chain.now rs r c.args.image.now due.keeps spells c.requires.room (c.requires.follows r spells) in
    let made = c.in_ok-sync.ensures.answer.does tells in
    let o = c.take_over.ensures in
    let keeps = sync_gate_keeps c.args.chain.now c.take_over.new.chain rs r c.args.image.now due.keeps spells c.requires.room (c.requires.follows r spells) o.header o.count o.gate (o.newest r spells) o.newest_at o.spans in
    let rest = sync_gate_rest c.args.chain.now c.take_over.new.chain _ _ rs r c.args.image.now c.sync.result tells c.sync.ensures.answer made due spells o.file o.header keeps in
    record {
      due = (due.behind, rest);
      reads = sync_gate_reads c.args.chain.now _ _ rs r c.args.image.now c.sync.result tells c.sync.ensures.answer made due spells holds (g.met.D.Disk.lawful c.sync.new.self (subst IsTrue (sym c.sync.ensures.answer.tells) tells));
      opened = λ e. synced_reads c.args.chain.now _ _ rs r c.args.image.now (g.met.D.Disk.lawful c.args.disk.now tells) (c.sync.ensures.only tells) spells holds due;
      moments = sync_gate_moments c.args.chain.now _ _ rs r c.args.image.now c.sync.result tells (g.met.D.Disk.lawful c.args.disk.now tells) c.sync.ensures.answer due spells holds;
      output = step_output c.args.chain.now _ _ rs _ c.sync.result tells due.alone c.sync.ensures.answer;
    }

pub returns-clause-took : goal.returns-clause-took
returns-clause-took g c = let o = c.take_over.ensures in record { file = o.file; header = o.header; count = o.count; newest = o.newest }

pub returns-clause-sound : goal.returns-clause-sound
returns-clause-sound g c =
    let o = c.take_over.ensures in
    let r = c.requires.image.0 in
    let spells = c.requires.image.1 in
    sound_push c.args.chain.now c.take_over.new.chain r spells.is_image (c.requires.follows r spells) o.header o.count (o.newest r spells)
