use Rattle.disk_model.specs.MemoryDisk.{view_of, lawful}
use Rattle.disk_model.proofs.DiskLaws.{sync_law}
use Rattle.disk_model.proofs.memory_disk.MemDiskDisk.sync.Goals as goal

pub returns-clause-only : goal.returns-clause-only
returns-clause-only c = λ tells. sync_law (view_of c.args.self.now) (view_of c.run.new.self) c.args.file c.run.result (lawful c.args.self.now) tells c.run.ensures.answer
