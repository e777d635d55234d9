use Rattle.std.proofs.Common.{None}
use Rattle.image_chain.proofs.StepLaws.{newest_push}
use Rattle.image_chain.proofs.KeptLaws.{memory_push}
use Rattle.image_chain.proofs.LastLaws.{last_of}
use Rattle.image_chain.proofs.laws.records_grow.Goals as goal

pub returns-clause-newest : goal.returns-clause-newest
returns-clause-newest c = newest_push None

pub returns-clause-words : goal.returns-clause-words
returns-clause-words c = memory_push

pub returns-clause-last : goal.returns-clause-last
returns-clause-last c = last_of
