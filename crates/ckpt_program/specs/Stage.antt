-- A stage is what its answer may be: a value with which the next stage goes on, or the cause for which the command stops.
use Rattle.std.specs.Prelude.{◌≡◌, ◌⊎◌, Result, Ok, Err}
use Rattle.ckpt_program.specs.declared.stop.Stop.{Stop}
use Rattle.ckpt_program.specs.declared.stop.Stop.TheVariants.{NoMemory, Because}
use Rattle.ckpt_program.specs.declared.stop.Cause.{Cause}

abbrev pub Stage : Type 0 → Type 1
Stage A = Result A Cause → Type 0

infixl 10 ◌>>=◌
-- one stage and then, with the value that it gave, the next
abbrev pub ◌>>=◌ : {A B : Type 0} → Stage A → (A → Stage B) → Stage B
◌>>=◌ {A} s f (Ok y) = (x : A) × s (Ok x) × f x (Ok y)
◌>>=◌ {A} s f (Err e) = s (Err e) ⊎ ((x : A) × s (Ok x) × f x (Err e))

-- a stage that stops for no cause
abbrev pub only : {A : Type 0} → (A → Type 0) → Stage A
only P (Ok x) = P x
only P (Err c) = ⊥

-- Want of memory may come in place of anything.
abbrev pub Comes : {A : Type 0} → Stage A → Result A Stop → Type 0
Comes s (Ok x) = s (Ok x)
Comes s (Err NoMemory) = Unit {0}
Comes s (Err (Because c)) = s (Err c)

-- a call of a layer below, whose fault f is told as the stop `of f`
abbrev pub Told : {A F : Type 0} → (F → Stop) → (A → Type 0) → (F → Type 0) → Stage A
Told of P why (Ok x) = P x
Told {A} {F} of P why (Err c) = (f : F) × (of f ≡ Because c) × why f
