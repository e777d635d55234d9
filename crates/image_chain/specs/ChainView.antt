-- What contracts see of a chain.
use Rattle.image_chain.specs.declared.chain.Current.{Current}
use Rattle.image_chain.specs.declared.chain.Step.{Step}

-- what is kept of the current file, and the step of an append that is due
pub record ChainView : Type 0 where
  pub current : Current
  pub due : Step
