use Rattle.std.proofs.Common.{arith, refl}
use Rattle.image_format.proofs.WriteLaws.{sizes_short}
use Rattle.image_format.proofs.write.record_length.Goals as goal

pub loop-run-init : goal.loop-run-init
loop-run-init c = let s = sizes_short 0 c.args.runs.now c.requires.rising in record { so_far = refl; most = omega arith }
