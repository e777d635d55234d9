-- The stages that read the files of a command, each with its causes.
use Rattle.std.specs.Prelude.{◌≡◌, ◌⊎◌, ℕ, List, Ok, Err}
use Rattle.ckpt_base.specs.Buffer.{Buffer}
use Rattle.c_tree.specs.declared.resolved.Resolved.{Resolved}
use Rattle.ckpt_program.specs.Sight.{Sight}
use Rattle.ckpt_program.specs.Fetched.{limit_of, IsWhole, IsTooLong, ShelfFails}
use Rattle.ckpt_program.specs.Stage.{Stage}
use Rattle.ckpt_program.specs.Accepted.{Accepted, IsAccepted}
use Rattle.ckpt_program.specs.declared.stop.Document.{Document}
use Rattle.ckpt_program.specs.declared.stop.Document.TheVariants as document
use Rattle.ckpt_program.specs.declared.stop.Cause.{Cause}
use Rattle.ckpt_program.specs.declared.stop.Cause.TheVariants as cause

-- why a file is not read whole
unfoldable pub FailsFile : Document → (name : List ℕ) (old new : Sight) → Cause → Type 0
FailsFile d name old new cause.ShelfFault = ShelfFails old new name
FailsFile d name old new (cause.TooLarge e) = (e ≡ d) × IsTooLong old name (limit_of d)
FailsFile d name old new c = ⊥

-- a file is read whole
abbrev pub File : Document → (name : List ℕ) (old new : Sight) → Stage Buffer
File d name old new (Ok bytes) = IsWhole old name (limit_of d) bytes.list
File d name old new (Err c) = FailsFile d name old new c

-- the shelf has an accepted source under the name, with this tree
unfoldable pub HasSource : (name : List ℕ) → Sight → Resolved → Type 0
HasSource name shelf tree = (text : List ℕ) × IsWhole shelf name (limit_of document.Source) text × IsAccepted text tree

-- why it has none
unfoldable pub FailsSource : (name : List ℕ) (old new : Sight) → Cause → Type 0
FailsSource name old new c = FailsFile document.Source name old new c ⊎ ((text : List ℕ) × IsWhole old name (limit_of document.Source) text × Accepted text (Err c))

-- a source is read and accepted
abbrev pub Source : (name : List ℕ) (old new : Sight) → Stage Resolved
Source name old new (Ok tree) = HasSource name old tree
Source name old new (Err c) = FailsSource name old new c
