-- Where the files are as they should be and the shelf does not fail, a command that reads them is carried out.
use Rattle.std.proofs.Common.{◌≡◌, ◌<◌, ◌⊎◌, ◌∙◌, refl, sym, subst, inl, inr, ⊎_elim, ℕ, List, length, IsTrue, Result, Ok, Err, arith}
use Rattle.ckpt_base.specs.Faults.{Rose}
use Rattle.ckpt_base.specs.Shelf.{ShelfView}
use Rattle.c_tree.specs.declared.resolved.Resolved.{Resolved}
use Rattle.c_types.specs.Check.{checked}
use Rattle.ckpt_program.specs.declared.done.Done.{Done}
use Rattle.ckpt_program.specs.declared.stop.Document.{Document}
use Rattle.ckpt_program.specs.declared.stop.Document.TheVariants as document
use Rattle.ckpt_program.specs.declared.stop.Cause.{Cause}
use Rattle.ckpt_program.specs.declared.stop.Cause.TheVariants as cause
use Rattle.ckpt_program.specs.declared.stop.Stop.{Stop}
use Rattle.ckpt_program.specs.declared.stop.Stop.TheVariants.{NoMemory, Because}
use Rattle.ckpt_program.specs.Sight.{sight}
use Rattle.ckpt_program.specs.Fetched.{limit_of, IsWhole}
use Rattle.ckpt_program.specs.Stage.{◌>>=◌, only, Comes}
use Rattle.ckpt_program.specs.Accepted.{Spelled, Accepted, IsAccepted}
use Rattle.ckpt_program.specs.Stages.{FailsFile, File, HasSource, FailsSource, Source}
use Rattle.ckpt_program.specs.Top.{HasFile, HasProgram, Job}
use Rattle.ckpt_program.proofs.SourceRead.{one_tree}

-- ---- texts

-- an accepted text is not refused
pub not_refused : (text : List ℕ) (tree : Resolved) (c : Cause) → IsAccepted text tree → Accepted text (Err c) → ⊥
not_refused text tree c a refused =
    ⊎_elim (λ (unspelled : Spelled text (Err c)). unspelled.2.none a.0 a.1.spelled) (λ breaks.
    let same = breaks.1.only a.0 a.1.spelled in
    let fault = breaks.2.2 in
    let both = sym (subst (λ p. checked p ≡ Err breaks.2.0) same fault) ∙ a.2 in
    absurd (cc both)) refused

-- ---- files

pub file_found : (d : Document) (name : List ℕ) (v : ShelfView) (got bytes : List ℕ) → IsWhole (sight v) name (limit_of d) got → IsTrue v.tells → HasFile d name v bytes → got ≡ bytes
file_found d name v got bytes whole tells has = cc (whole.0 tells, has.found)

pub file_not_failing : (d : Document) (name : List ℕ) (v w : ShelfView) (c : Cause) (bytes : List ℕ) → IsTrue v.tells → (Rose v.faults w.faults → ⊥) → HasFile d name v bytes → FailsFile d name (sight v) (sight w) c → ⊥
unfolding FailsFile
file_not_failing d name v w cause.ShelfFault bytes tells calm has fails = ⊎_elim (λ rose. calm rose) (λ lacks. absurd (cc (lacks.1, has.found))) fails
file_not_failing d name v w (cause.TooLarge e) bytes tells calm has fails =
    let long = fails.1 tells in
    let same : long.0 ≡ bytes = cc (long.1, has.found) in
    let short = has.short in
    let more : limit_of d < length bytes = subst (λ (b : List ℕ). limit_of d < length b) same long.2 in
    absurd (omega (arith, more, short))
file_not_failing d name v w cause.Usage bytes tells calm has fails = absurd fails
file_not_failing d name v w (cause.Refused r) bytes tells calm has fails = absurd fails
file_not_failing d name v w cause.DiskFault bytes tells calm has fails = absurd fails
file_not_failing d name v w (cause.Damaged file place) bytes tells calm has fails = absurd fails
file_not_failing d name v w (cause.Occupied image step) bytes tells calm has fails = absurd fails
file_not_failing d name v w (cause.OtherSource kept given) bytes tells calm has fails = absurd fails
file_not_failing d name v w (cause.OtherInput kept given) bytes tells calm has fails = absurd fails
file_not_failing d name v w (cause.Behind bound step) bytes tells calm has fails = absurd fails
file_not_failing d name v w (cause.NotAnExclude n) bytes tells calm has fails = absurd fails
file_not_failing d name v w (cause.NotACell n) bytes tells calm has fails = absurd fails

-- ---- sources

pub source_found : (name : List ℕ) (v : ShelfView) (got tree : Resolved) → IsTrue v.tells → HasProgram name v tree → HasSource name (sight v) got → got ≡ tree
unfolding HasSource
source_found name v got tree tells has found =
    let same = file_found document.Source name v found.0 has.0 found.1 tells has.1 in
    one_tree has.0 got tree (subst (λ (t : List ℕ). IsAccepted t got) same found.2) has.2

pub source_not_failing : (name : List ℕ) (v w : ShelfView) (c : Cause) (tree : Resolved) → IsTrue v.tells → (Rose v.faults w.faults → ⊥) → HasProgram name v tree → FailsSource name (sight v) (sight w) c → ⊥
unfolding FailsSource
source_not_failing name v w c tree tells calm has fails =
    ⊎_elim (λ file. file_not_failing document.Source name v w c has.0 tells calm has.1 file) (λ refused.
    let same = file_found document.Source name v refused.0 has.0 refused.1 tells has.1 in
    not_refused has.0 tree c has.2 (subst (λ (t : List ℕ). Accepted t (Err c)) same refused.2)) fails

-- ---- rows

-- the command is carried out, or there is no memory
abbrev pub IsCarriedOut : (Done → Type 0) → Result Done Stop → Type 0
IsCarriedOut Q o = (o ≡ Err NoMemory) ⊎ ((d : Done) × (o ≡ Ok d) × Q d)

pub with_source : (Q : Resolved → Done → Type 0) (name : List ℕ) (v w : ShelfView) (tree : Resolved) (o : Result Done Stop) → IsTrue v.tells → (Rose v.faults w.faults → ⊥) → HasProgram name v tree
    → Comes (Source name (sight v) (sight w) >>= (λ t. only (Q t))) o → IsCarriedOut (Q tree) o
with_source Q name v w tree (Ok d) tells calm has came = inr (d, refl, subst (λ t. Q t d) (source_found name v came.0 tree tells has came.1) came.2)
with_source Q name v w tree (Err NoMemory) tells calm has came = inl refl
with_source Q name v w tree (Err (Because c)) tells calm has came = ⊎_elim (λ fails. absurd (source_not_failing name v w c tree tells calm has fails)) (λ found. absurd found.2) came

pub with_both : (Q : Resolved → List ℕ → Done → Type 0) (source input : List ℕ) (v w : ShelfView) (job : Job) (o : Result Done Stop) → IsTrue v.tells → (Rose v.faults w.faults → ⊥) → HasProgram source v job.tree → HasFile document.Input input v job.input
    → Comes (Source source (sight v) (sight w) >>= (λ t. File document.Input input (sight v) (sight w) >>= (λ b. only (Q t b.list)))) o → IsCarriedOut (Q job.tree job.input) o
with_both Q source input v w job (Ok d) tells calm has given came =
    let tree_is = source_found source v came.0 job.tree tells has came.1 in
    let bytes_are = file_found document.Input input v came.2.0.list job.input came.2.1 tells given in
    inr (d, refl, subst (λ t. Q t job.input d) tree_is (subst (λ (b : List ℕ). Q came.0 b d) bytes_are came.2.2))
with_both Q source input v w job (Err NoMemory) tells calm has given came = inl refl
with_both Q source input v w job (Err (Because c)) tells calm has given came =
    ⊎_elim (λ fails. absurd (source_not_failing source v w c job.tree tells calm has fails)) (λ found.
    ⊎_elim (λ fails. absurd (file_not_failing document.Input input v w c job.input tells calm given fails)) (λ read. absurd read.2) found.2) came
