-- What the stages of a life come to, one after the other.
use Rattle.std.proofs.Common.{◌≡◌, ◌≤◌, sym, ◌∙◌, ap, subst, IsTrue, ℕ, List, length, Some, Result, Ok, Err, IfOk}
use Rattle.ckpt_base.specs.Buffer.{Buffer}
use Rattle.ckpt_base.specs.Shelf.{file_named}
use Rattle.c_tree.specs.declared.resolved.Resolved.{Resolved}
use Rattle.disk_model.specs.Plate.{Plate}
use Rattle.disk_model.specs.View.{View}
use Rattle.image_format.specs.declared.fields.Marks.{Marks}
use Rattle.run_images.specs.Compiled.{CompiledView}
use Rattle.run_images.specs.Source.{Source as RunSource}
use Rattle.run_marks.specs.Digests.{digests_of}
use Rattle.ckpt_runner.specs.Standing.{IsGivenSource}
use Rattle.ckpt_program.specs.Accepted.{IsAccepted}
use Rattle.ckpt_program.specs.Fetched.{Gives}
use Rattle.ckpt_program.specs.Headline.{IsSourceIn, IsSourceOf, StandThroughout, ToldAsSource, ToldBy}
use Rattle.ckpt_program.specs.declared.done.Done.{Done}
use Rattle.ckpt_program.specs.declared.life_stages.Asked.{Asked}
use Rattle.ckpt_program.specs.declared.lives.Job.{Job}
use Rattle.ckpt_program.specs.declared.stop.Stop.{Stop}
use Rattle.command_words.specs.declared.command.Command.TheVariants.{Run, Restart}
use Rattle.command_words.specs.declared.command.Settings.{Settings}
use Rattle.ckpt_program.specs.Carries.{word_at}
use Rattle.ckpt_program.specs.LifeStages.{given_with, to_begin, to_go_on, Compiles, IsCodeOf}
use Rattle.ckpt_program.specs.LifeRow.{InStore, OfJob, ReadsJob}
use Rattle.ckpt_program.specs.Sight.{Sight}
use Rattle.ckpt_program.specs.Stage.{Comes}
use Rattle.ckpt_program.proofs.Joining.{went}
use Rattle.ckpt_program.proofs.SourceRead.{one_tree}

-- an input that was read is within its limit
pub short_input : (source input : List ℕ) (old new : Sight) (j : Job) → ReadsJob source input old new (Ok j) → length j.input.list ≤ 16777216
short_input source input old new j read = let got = read.2.2 in subst (λ (k : Job). length k.input.list ≤ 16777216) (sym got.2) got.1.1

-- ---- the source of what was read

only_file : (name : List ℕ) (shelf : Sight) (a b : List ℕ) → IsTrue shelf.tells → Gives shelf name a → file_named shelf.files name ≡ Some b → b ≡ a
only_file name shelf a b told gives found = cc (sym (gives told) ∙ found)

-- a job that was read is of the source of its files
pub source_read : (source input : List ℕ) (old new : Sight) (j : Job) (s : RunSource) → ReadsJob source input old new (Ok j) → IsSourceIn source input old s → IsSourceOf j s
source_read source input old new j s read is =
    let text : Buffer = read.0 in
    let text_is : is.text ≡ text.list = only_file source old text.list is.text is.tells read.1.0 is.found in
    let tree : Resolved = read.2.0 in
    let got = read.2.2 in
    let input_is : s.input ≡ got.0.list = only_file input old got.0.list s.input is.tells got.1.0 is.given in
    let job_is : j ≡ record { text = text; program = tree; input = got.0 } = got.2 in
    let tree_is : s.program ≡ tree = one_tree text.list s.program tree (subst (λ (t : List ℕ). IsAccepted t s.program) text_is is.accepted) read.2.1 in
    record {
      program = tree_is ∙ ap (λ (k : Job). k.program) (sym job_is);
      input = input_is ∙ ap (λ (k : Job). k.input.list) (sym job_is);
      marks = is.marks ∙ ap (λ (t : List ℕ). digests_of t s.input) (text_is ∙ ap (λ (k : Job). k.text.list) (sym job_is)) ∙ ap (λ (i : List ℕ). digests_of j.text.list i) (input_is ∙ ap (λ (k : Job). k.input.list) (sym job_is));
      spaced = is.spaced;
      is = is.is;
    }

-- .. and its code is that of this source
pub source_given : (j : Job) (a : Asked) (c : CompiledView) (m : Marks) (bytes text : List ℕ) (s : RunSource) → m ≡ digests_of text bytes → text ≡ j.text.list → bytes ≡ j.input.list → IsCodeOf j.program c → IsSourceOf j s → IsGivenSource (given_with c m bytes a) s
unfolding IsCodeOf
source_given j a c m bytes text s is text_is input_is code of = record {
  source = of.is;
  compiled = code s of.is of.program;
  marks = of.marks ∙ ap (λ (t : List ℕ). digests_of t j.input.list) (sym text_is) ∙ ap (λ (i : List ℕ). digests_of text i) (sym input_is) ∙ sym is;
  input = of.input ∙ sym input_is;
  spaced = of.spaced a.settings.every;
}

-- what is said of all such sources is said of these
pub fewer_stand : (P Q : RunSource → Type 0) (v w : View) → ((s : RunSource) → Q s → P s) → StandThroughout P v w → StandThroughout Q v w
fewer_stand P Q v w few all told s q stand = all told s (few s q) stand

pub fewer_told : (P Q : RunSource → Type 0) (a : Asked) (v w : View) (r : Result Done Stop) → ((s : RunSource) → Q s → P s) → IfOk r (λ d. ToldAsSource P a v d w) → IfOk r (λ d. ToldAsSource Q a v d w)
fewer_told P Q a v w (Ok d) few all = λ told s q stand. all told s (few s q) stand
fewer_told P Q a v w (Err e) few all = tt

-- ---- the names of the files are words

pub named_stand : (shelf : Sight) (v w : View) (a b source input : List ℕ) → a ≡ source → b ≡ input → StandThroughout (IsSourceIn a b shelf) v w → StandThroughout (IsSourceIn source input shelf) v w
named_stand shelf v w a b source input is are all =
    subst (λ (n : List ℕ). StandThroughout (IsSourceIn n input shelf) v w) is (subst (λ (n : List ℕ). StandThroughout (IsSourceIn a n shelf) v w) are all)

named_told : (shelf : Sight) (asked : Asked) (v w : View) (r : Result Done Stop) (a b source input : List ℕ) → a ≡ source → b ≡ input → IfOk r (λ d. ToldAsSource (IsSourceIn a b shelf) asked v d w) → IfOk r (λ d. ToldAsSource (IsSourceIn source input shelf) asked v d w)
named_told shelf asked v w r a b source input is are all =
    subst (λ (n : List ℕ). IfOk r (λ d. ToldAsSource (IsSourceIn n input shelf) asked v d w)) is (subst (λ (n : List ℕ). IfOk r (λ d. ToldAsSource (IsSourceIn a n shelf) asked v d w)) are all)

pub told_run : (words : List (List ℕ)) (shelf : Sight) (v w : View) (r : Result Done Stop) (source input dir : ℕ) (settings : Settings) (a b : List ℕ) → a ≡ word_at words source → b ≡ word_at words input
    → IfOk r (λ d. ToldAsSource (IsSourceIn a b shelf) (to_begin settings) v d w) → ToldBy words (Some (Run source input dir settings)) shelf v r w
told_run words shelf v w (Ok d) source input dir settings a b is are all = named_told shelf (to_begin settings) v w (Ok d) a b (word_at words source) (word_at words input) is are all
told_run words shelf v w (Err e) source input dir settings a b is are all = tt

pub told_restart : (words : List (List ℕ)) (shelf : Sight) (v w : View) (r : Result Done Stop) (source input dir : ℕ) (settings : Settings) (fill : ℕ) (a b : List ℕ) → a ≡ word_at words source → b ≡ word_at words input
    → IfOk r (λ d. ToldAsSource (IsSourceIn a b shelf) (to_go_on settings fill) v d w) → ToldBy words (Some (Restart source input dir settings fill)) shelf v r w
told_restart words shelf v w (Ok d) source input dir settings fill a b is are all = named_told shelf (to_go_on settings fill) v w (Ok d) a b (word_at words source) (word_at words input) is are all
told_restart words shelf v w (Err e) source input dir settings fill a b is are all = tt

-- ---- the row

-- the code is that of the job's program, and the digests are those of its text and its input
pub in_store_with : (asked : Asked) (job : Job) (compiled : CompiledView) (old new : Plate) (r : Result Done Stop) (m : Marks) (a b : List ℕ) → m ≡ digests_of b a → b ≡ job.text.list → a ≡ job.input.list
    → IsCodeOf job.program compiled → Comes (InStore (given_with compiled m a asked) old new) r → Comes (OfJob asked job old new) r
in_store_with asked job compiled old new r m a b is text input code came =
    let with_marks = subst (λ (n : Marks). Comes (InStore (given_with compiled n a asked) old new) r) (is ∙ ap (λ (t : List ℕ). digests_of t a) text) came in
    let whole = subst (λ (i : List ℕ). Comes (InStore (given_with compiled (digests_of job.text.list i) i asked) old new) r) input with_marks in
    went (Compiles job.program) (λ c. InStore (given_with c (digests_of job.text.list job.input.list) job.input.list asked) old new) compiled r code whole
