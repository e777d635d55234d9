use Rattle.image_chain.proofs.LoopLaws.{due_reads, due_leaves, open_reads, open_leaves}
use Rattle.image_chain.proofs.StepLaws.{due_holds}
use Rattle.image_chain.proofs.chain.Chain.tells_due.Goals as goal

pub returns-clause-reads : goal.returns-clause-reads
returns-clause-reads g c = λ told rs at not due. due_reads c.args.self.now.current _ rs c.args.image.now at (g.met.D.Disk.lawful c.args.disk.now told) not due

pub returns-clause-lasting : goal.returns-clause-lasting
returns-clause-lasting g c = λ told rs at not due. due_leaves c.args.self.now.current _ rs c.args.image.now at not due

pub returns-clause-opened : goal.returns-clause-opened
returns-clause-opened g c = λ told rs r spells due. open_reads c.args.self.now.current _ rs r c.args.image.now (g.met.D.Disk.lawful c.args.disk.now told) spells
    (due_holds c.args.self.now.current rs r c.args.image.now due.keeps spells c.requires.room (c.requires.follows r spells)) due

pub returns-clause-either : goal.returns-clause-either
returns-clause-either g c = λ told rs r spells due. open_leaves c.args.self.now.current _ rs r c.args.image.now spells
    (due_holds c.args.self.now.current rs r c.args.image.now due.keeps spells c.requires.room (c.requires.follows r spells)) due
