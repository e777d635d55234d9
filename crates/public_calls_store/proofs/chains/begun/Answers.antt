use Rattle.std.proofs.Common.{refl, []}
use Rattle.public_calls_store.proofs.EmptyStore.{none_left, if_ok}
use Rattle.public_calls_store.proofs.chains.begun.Goals as goal

pub returns-clause-rests : goal.returns-clause-rests
returns-clause-rests c = if_ok c.start.result c.start.ensures.answer (λ chain told. told refl (none_left 64 4096 0 [] c.args.disk.now c.requires.empty))
