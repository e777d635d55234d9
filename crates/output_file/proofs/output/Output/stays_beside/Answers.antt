use Rattle.output_file.proofs.BesideLaws.{output_beside, on_disk_beside}
use Rattle.output_file.proofs.output.Output.stays_beside.Goals as goal

pub returns-clause-fits : goal.returns-clause-fits
returns-clause-fits g c = λ before bytes same is. output_beside c.args.self.now _ _ bytes same is

pub returns-clause-durable : goal.returns-clause-durable
returns-clause-durable g c = λ before bytes same is. on_disk_beside bytes _ _ same is
