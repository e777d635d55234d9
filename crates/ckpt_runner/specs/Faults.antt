-- What the refusals of the crates below are for a life that is opened.
use Rattle.image_chain.specs.declared.fault.ChainFault.{ChainFault}
use Rattle.image_chain.specs.declared.fault.ChainFault.TheVariants as chain
use Rattle.recovery.specs.declared.fault.RecoverFault.{RecoverFault}
use Rattle.recovery.specs.declared.fault.RecoverFault.TheVariants as recovery
use Rattle.ckpt_runner.specs.declared.started.OpenFault.{OpenFault}
use Rattle.ckpt_runner.specs.declared.started.OpenFault.TheVariants as open_fault

abbrev pub of_chain : ChainFault → OpenFault
of_chain chain.Failed = open_fault.Failed
of_chain (chain.Damaged file place) = open_fault.Damaged file place

abbrev pub of_recovery : RecoverFault → OpenFault
of_recovery (recovery.OtherSource kept given) = open_fault.OtherSource kept given
of_recovery (recovery.OtherInput kept given) = open_fault.OtherInput kept given
of_recovery (recovery.Damaged file place) = open_fault.Damaged file place
