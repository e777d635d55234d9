-- A source that was read, and then accepted or not.
use Rattle.std.proofs.Common.{◌≡◌, sym, ◌∙◌, subst, inr, ℕ, List, Result, Ok, Err}
use Rattle.c_types.specs.Check.{checked}
use Rattle.c_tree.specs.declared.resolved.Resolved.{Resolved}
use Rattle.ckpt_program.specs.Sight.{Sight}
use Rattle.ckpt_program.specs.Fetched.{limit_of, IsWhole}
use Rattle.ckpt_program.specs.Stage.{Comes}
use Rattle.ckpt_program.specs.Accepted.{Accepted, IsAccepted}
use Rattle.ckpt_program.specs.Stages.{HasSource, FailsSource, Source}
use Rattle.ckpt_program.specs.declared.stop.Cause.{Cause}
use Rattle.ckpt_program.specs.declared.stop.Document.TheVariants as document
use Rattle.ckpt_program.specs.declared.stop.Stop.{Stop}
use Rattle.ckpt_program.specs.declared.stop.Stop.TheVariants.{NoMemory, Because}

has_source : (name : List ℕ) (shelf : Sight) (text : List ℕ) (tree : Resolved) → IsWhole shelf name (limit_of document.Source) text → IsAccepted text tree → HasSource name shelf tree
unfolding HasSource
has_source name shelf text tree whole accepted = (text, whole, accepted)

fails_source : (name : List ℕ) (old new : Sight) (text : List ℕ) (c : Cause) → IsWhole old name (limit_of document.Source) text → Accepted text (Err c) → FailsSource name old new c
unfolding FailsSource
fails_source name old new text c whole refused = inr (text, whole, refused)

pub source_read : (name : List ℕ) (old new : Sight) (text : List ℕ) (r : Result Resolved Stop) → IsWhole old name (limit_of document.Source) text → Comes (Accepted text) r → Comes (Source name old new) r
source_read name old new text (Ok tree) whole came = has_source name old text tree whole came
source_read name old new text (Err NoMemory) whole came = tt
source_read name old new text (Err (Because c)) whole came = fails_source name old new text c whole came

-- a text has one accepted tree
pub one_tree : (text : List ℕ) (s t : Resolved) → IsAccepted text s → IsAccepted text t → s ≡ t
one_tree text s t a b =
    let same = a.1.only b.0 b.1.spelled in
    let is_s : checked b.0 ≡ Ok s = subst (λ p. checked p ≡ Ok s) same a.2 in
    cc (sym is_s ∙ b.2)
