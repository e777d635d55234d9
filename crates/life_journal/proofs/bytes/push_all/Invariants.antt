use Rattle.std.proofs.Common.{take}
use Rattle.life_journal.proofs.PushLaws.{Pushes}
use Rattle.life_journal.proofs.bytes.push_all.Given as goal

abbrev pub invariant-bytes : goal.invariant-bytes
invariant-bytes g l = record { pushes : Pushes (g.D.Disk.view l.fn.disk) (g.D.Disk.view l.disk) l.fn.output l.output (take l.byte-index l.bytes) }
