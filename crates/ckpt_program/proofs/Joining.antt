-- Stages one after the other, and what a fault of a layer below is told as.
use Rattle.std.proofs.Common.{◌≡◌, refl, sym, ◌∙◌, ap, inr, false, ℕ, List, Result, Ok, Err}
use Rattle.c_tree.specs.declared.tree.Program.{Program}
use Rattle.c_tree.specs.declared.resolved.Resolved.{Resolved}
use Rattle.c_tree.specs.Programs.{IsTextOf}
use Rattle.c_reader.specs.declared.fault.ReadFault.{ReadFault}
use Rattle.c_reader.specs.declared.fault.ReadFault.TheVariants as text
use Rattle.c_reader.specs.ReadFaults.{IsReadFault}
use Rattle.c_types.specs.declared.fault.CheckFault.{CheckFault}
use Rattle.c_types.specs.declared.fault.CheckFault.TheVariants as rule
use Rattle.c_types.specs.Check.{checked}
use Rattle.c_types.specs.Faults.{is_memory}
use Rattle.ckpt_program.specs.declared.stop.Stop.{Stop}
use Rattle.ckpt_program.specs.declared.stop.Stop.TheVariants.{NoMemory, Because}
use Rattle.ckpt_program.specs.Reasons.{stop_of_text, stop_of_rule}
use Rattle.ckpt_program.specs.Stage.{Stage, ◌>>=◌, Comes, Told}
use Rattle.ckpt_program.specs.Accepted.{Spelled, KeepsRules, IsProgramOf, IsUnspelled}

-- one stage gave a value, and the next has answered
pub went : {A B : Type 0} (s : Stage A) (f : A → Stage B) (x : A) (answer : Result B Stop) → s (Ok x) → Comes (f x) answer → Comes (s >>= f) answer
went s f x (Ok y) first next = (x, first, next)
went s f x (Err NoMemory) first next = tt
went s f x (Err (Because c)) first next = inr (x, first, next)

-- The layer below failed, for a reason that is known but where it found no memory.
pub faulted : {A F : Type 0} (of : F → Stop) (P : A → Type 0) (why : F → Type 0) (e : Stop) (f : F) → e ≡ of f → ((of f ≡ NoMemory → ⊥) → why f) → Comes (Told of P why) (Err e)
faulted of P why NoMemory f is h = tt
faulted of P why (Because c) f is h = (f, sym is, h (λ none. let both : Because c ≡ NoMemory = is ∙ none in absurd (cc both)))

pub unspelled : (bytes : List ℕ) (e : Stop) (f : ReadFault) → e ≡ stop_of_text f → IsReadFault bytes f → ((p : Program) → IsTextOf p bytes → f ≡ text.Memory) → Comes (Spelled bytes) (Err e)
unspelled bytes e f is fault only = faulted {A = Program} stop_of_text (IsProgramOf bytes) (IsUnspelled bytes) e f is (λ other. record { fault = fault; none = λ q spelled. other (ap stop_of_text (only q spelled)) })

not_memory : (f : CheckFault) → (stop_of_rule f ≡ NoMemory → ⊥) → is_memory f ≡ false
not_memory rule.Memory other = absurd (other refl)
not_memory (rule.Unknown name) other = refl
not_memory (rule.Twice name) other = refl
not_memory rule.NoMain other = refl
not_memory (rule.WrongType line) other = refl
not_memory (rule.WrongCount line) other = refl
not_memory (rule.DirectiveOutsideMain line) other = refl
not_memory (rule.CallsMain line) other = refl
not_memory (rule.TooManyCells n) other = refl
not_memory (rule.TooManyLocals name) other = refl
not_memory (rule.TooManyNodes n) other = refl
not_memory (rule.TooManyDirectives n) other = refl

pub breaks_rule : (p : Program) (e : Stop) (f : CheckFault) → e ≡ stop_of_rule f → (is_memory f ≡ false → checked p ≡ Err f) → Comes (KeepsRules p) (Err e)
breaks_rule p e f is fault = faulted {A = Resolved} stop_of_rule (λ tree. checked p ≡ Ok tree) (λ g. checked p ≡ Err g) e f is (λ other. fault (not_memory f other))
