-- Single statements that were done.
use Rattle.std.proofs.Common.{◌≡◌, ℕ, List, [], ◌∷◌, ◌++◌, map, Option, Result, Ok, Err, ◌⊎◌, refl, sym, ap, ◌∙◌, ⊎_elim}
use Rattle.std.specs.Prelude.{slice_set}
use Rattle.ckpt_base.specs.declared.trap.Trap.{Trap}
use Rattle.ckpt_base.specs.Pointer.{Object, cell_of}
use Rattle.ckpt_base.specs.Word.{word_low_byte}
use Rattle.ckpt_base.specs.Event.{Event, Wrote, Byte, Took, Excluded, Checkpoint}
use Rattle.ckpt_base.specs.Run as run
use Rattle.c_tree.specs.declared.tree.PrintPiece.{PrintPiece}
use Rattle.c_tree.specs.declared.resolved.RExpr.{RExpr}
use Rattle.c_tree.specs.declared.resolved.RPlace.{RPlace}
use Rattle.c_tree.specs.State.{State, ◌>>=◌, value, values, written, write, store, put, printed, write_out, take_from, input, with_event}
use Rattle.c_meaning.specs.declared.progress.Progress.{Progress}
use Rattle.c_meaning.specs.declared.progress.Target as working'
use Rattle.c_meaning.specs.declared.progress.Target.TheVariants as to
use Rattle.c_meaning.specs.declared.work.Single.{Single}
use Rattle.c_meaning.specs.declared.work.Single.TheVariants as single'
use Rattle.c_meaning.specs.Memory.{variables, target_of}
use Rattle.c_meaning.specs.Working as working
use Rattle.c_meaning.specs.Working.{state, action, Did}

output-append : (es fs : List Event) → run.output (es ++ fs) ≡ run.output es ++ run.output fs
output-append [] fs = refl
output-append (Wrote c ∷ es) fs = output-append es fs
output-append (Byte a ∷ es) fs = ap (λ (bs : List ℕ). a ∷ bs) (output-append es fs)
output-append (Took ∷ es) fs = output-append es fs
output-append (Excluded k ∷ es) fs = output-append es fs
output-append (Checkpoint m t ∷ es) fs = output-append es fs

append_none : (bs : List ℕ) → bs ++ [] ≡ bs
append_none [] = refl
append_none (b ∷ bs) = ap (λ (x : List ℕ). b ∷ x) (append_none bs)

-- one more event, which writes no byte
output-silent : (es : List Event) (e : Event) → run.output (e ∷ []) ≡ [] → run.output (es ++ e ∷ []) ≡ run.output es
output-silent es e h = output-append es (e ∷ []) ∙ ap (λ (bs : List ℕ). run.output es ++ bs) h ∙ append_none (run.output es)

output-bytes : (bs : List ℕ) → run.output (map Byte bs) ≡ bs
output-bytes [] = refl
output-bytes (b ∷ bs) = ap (λ (x : List ℕ). b ∷ x) (output-bytes bs)

-- ---- stores

module _ (p : Progress) (c a : ℕ) (ws : List ℕ) where
  cell_stored : ws ≡ slice_set p.memory.cells c a → (es : List Event) → p.output ≡ run.output es
      → (es' : List Event) × (p.output ≡ run.output es') × (written c a (state p es) ≡ state (record p { memory = record p.memory { cells = ws } }) es')
  cell_stored h es shown = (es ++ Wrote c ∷ [], shown ∙ sym (output-silent es (Wrote c) refl), ap (λ (v : List ℕ). state (record p { memory = record p.memory { cells = v } }) (es ++ Wrote c ∷ [])) (sym h))

  pub cell_did : (t : working'.Target) → t ≡ to.Cell c → ws ≡ slice_set p.memory.cells c a → Did (write (target_of t) a) p (record p { memory = record p.memory { cells = ws } }) (Ok tt)
  cell_did t is h es shown = let x = cell_stored h es shown in (x.0, x.1, ap (λ (t : working'.Target). write (target_of t) a (state p es)) is ∙ ap Ok x.2)

  pub through_did : (t : working'.Target) (q : ℕ) (os : List Object) → t ≡ to.Through q → Ok c ≡ cell_of os q → os ≡ p.memory.objects → ws ≡ slice_set p.memory.cells c a → Did (write (target_of t) a) p (record p { memory = record p.memory { cells = ws } }) (Ok tt)
  through_did t q os is found same h es shown =
      let x = cell_stored h es shown in (
        x.0,
        x.1,
        ap (λ (t : working'.Target). write (target_of t) a (state p es)) is
            ∙ ap (λ (os : List Object). cell_of os q >>= (λ c. Ok (written c a (state p es)))) (sym same)
            ∙ ap (λ (r : Result ℕ Trap). r >>= (λ c. Ok (written c a (state p es)))) (sym found) ∙ ap Ok x.2,
      )

-- ---- statements

pub put_did : (x : RExpr) (a b : ℕ) (p : Progress) (bytes : List ℕ) → Ok a ≡ value x (variables p.memory) → b ≡ word_low_byte a → bytes ≡ p.output ++ b ∷ [] → Did (put x) p (record p { output = bytes }) (Ok tt)
put_did x a b p bytes h low grown es shown = (
  es ++ Byte (word_low_byte a) ∷ [],
  grown ∙ ap (λ (b : ℕ). p.output ++ b ∷ []) low ∙ ap (λ (bs : List ℕ). bs ++ word_low_byte a ∷ []) shown ∙ sym (output-append es (Byte (word_low_byte a) ∷ [])),
  ap (λ (r : Result ℕ Trap). r >>= (λ a. Ok (with_event (Byte (word_low_byte a)) (state p es)))) (sym h),
)

pub print_did : (ps : List PrintPiece) (xs : List RExpr) (as' ns : List ℕ) (r : Result (List ℕ) Trap) (p : Progress) (bytes : List ℕ) → r ≡ values xs (variables p.memory) → r ≡ Ok as' → ns ≡ as' → bytes ≡ p.output ++ printed ps ns → Did (write_out ps xs) p (record p { output = bytes }) (Ok tt)
print_did ps xs as' ns r p bytes h is same grown es shown = (
  es ++ map Byte (printed ps as'),
  grown ∙ ap (λ (ns : List ℕ). p.output ++ printed ps ns) same ∙ ap (λ (bs : List ℕ). bs ++ printed ps as') shown ∙ ap (λ (bs : List ℕ). run.output es ++ bs) (sym (output-bytes (printed ps as'))) ∙ sym (output-append es (map Byte (printed ps as'))),
  ap (λ (r : Result (List ℕ) Trap). r >>= (λ as'. Ok (record (state p es) { events = es ++ map Byte (printed ps as') }))) (sym h ∙ is),
)

-- ---- input

pub nothing_took : (p : Progress) → p.input.now ≡ [] → working.Took 18446744073709551615 p p
nothing_took p is = record { output = refl; took = λ es. (es, refl, ap (λ (bs : List ℕ). take_from bs (state p es)) is) }

pub byte_took : (p p' : Progress) (b : ℕ) (bs : List ℕ) → p.input.now ≡ b ∷ bs → p'.input.now ≡ bs → p'.memory ≡ p.memory → p'.output ≡ p.output → p'.ticks ≡ p.ticks → working.Took b p p'
byte_took p p' b bs is rest same out ticks = record {
  output = out;
  took = λ es. (es ++ Took ∷ [], output-silent es Took refl, ap (λ (bs : List ℕ). take_from bs (state p es)) is ∙ ap (λ (s : State). (b, s)) (taken es));
}
  where
    taken : (es : List Event) → record { variables = variables p.memory; input = bs; events = es ++ Took ∷ []; ticks = p.ticks } ≡ state p' (es ++ Took ∷ [])
    taken es = rw (rest, same, ticks) refl

pub input_did : (d : Option RPlace) (a : ℕ) (p q p' : Progress) (r : Result (Unit {0}) Trap) → working.Took a p q → Did (store d a) q p' r → Did (input d) p p' r
input_did d a p q p' (Ok u) k x = λ es shown.
    let y = k.took es in
    let z = x y.0 (k.output ∙ shown ∙ sym y.1) in
    (z.0, z.1, ap (λ (v : ℕ × State). store d v.0 v.1) y.2 ∙ z.2)
input_did d a p q p' (Err e) k x = (x.0 ∙ k.output, λ es. let y = k.took es in ap (λ (v : ℕ × State). store d v.0 v.1) y.2 ∙ x.1 y.0)

-- a checkpoint or a directive was passed
pub passed_did : (x : Single) (p : Progress) → (x ≡ single'.Checkpoint) ⊎ ((k : ℕ) × (x ≡ single'.Exclude k)) → (m : ℕ) → Did (action x m) p p (Ok tt)
passed_did x p is m es shown = ⊎_elim
    (λ h. let e = Checkpoint m p.ticks in (es ++ e ∷ [], shown ∙ sym (output-silent es e refl), ap (λ (x : Single). action x m (state p es)) h))
    (λ h. let e = Excluded h.0 in (es ++ e ∷ [], shown ∙ sym (output-silent es e refl), ap (λ (x : Single). action x m (state p es)) h.1))
    is
