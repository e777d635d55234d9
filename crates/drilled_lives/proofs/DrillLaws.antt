-- The lives of a drill, one after another.
use Rattle.std.proofs.Common.{◌≡◌, refl, sym, ◌∙◌, ap, subst, ℕ, zero, suc, ◌+◌, ◌<◌, List, [], ◌∷◌, ◌++◌, length, drop, get_or, append_assoc, Option, Some, None, Ok, arith}
use Rattle.disk_model.specs.Store.{Store}
use Rattle.disk_model.specs.View.{View}
use Rattle.disk_model.specs.MemoryDisk.{MemoryDisk, view_of, empty_disk}
use Rattle.image_chain.specs.Records.{chain_in, header_in}
use Rattle.run_images.specs.Source.{Source, output_of}
use Rattle.run_images.specs.Stands.{Stands}
use Rattle.ckpt_runner.specs.declared.how.Mode.{Mode}
use Rattle.ckpt_runner.specs.declared.started.Started.{Started}
use Rattle.ckpt_runner.specs.declared.started.Started.TheVariants.{Begun}
use Rattle.ckpt_runner.specs.Opening.{Given}
use Rattle.ckpt_runner.specs.Standing.{IsGivenSource}
use Rattle.command_words.specs.declared.stops.Stop.{Stop}
use Rattle.drilled_lives.specs.declared.course.Course.{Course}
use Rattle.drilled_lives.specs.declared.course.Course.TheVariants as course
use Rattle.drilled_lives.specs.Courses.{Known, Fresh, AreCourses, MeetsStop, latest_of, known_of}
use Rattle.drilled_lives.specs.Between.{IsSpacedBy, IsBetween}
use Rattle.drilled_lives.specs.Next.{IsNext, Follows}
use Rattle.drilled_lives.proofs.CrashLaws.{empty_is_lasting}

-- the same for a life that begins, and for one that restarts
pub other_mode : (g : Given) (mode : Mode) (s : Source) → IsGivenSource g s → IsGivenSource (record g { mode = mode }) s
other_mode g mode s is = record { source = is.source; compiled = is.compiled; marks = is.marks; input = is.input; spaced = is.spaced }

-- these lives were run, and what the ones for the stops that are left do makes all of them those of the drill
abbrev pub IsSoFar : Source → (every until : ℕ) → List Stop → List Course → List Stop → View → Type 0
IsSoFar s every until all done rest v =
    (latest : Started) × (known : Known) × IsBetween s every latest known v × ((more : List Course) → AreCourses s every until latest known rest more → AreCourses s every until Begun Fresh all (done ++ more))

pub none_so_far : (s : Source) (every until : ℕ) (all : List Stop) (v : View) → IsBetween s every Begun Fresh v → IsSoFar s every until all [] all v
none_so_far s every until all v between = (Begun, Fresh, between, λ more are. are)

pub one_more : (s : Source) (g : Given) (all rest : List Stop) (stop : Stop) (done : List Course) (c : Course) (u v : View) → IsGivenSource g s → IsSpacedBy s g.every → IsSoFar s g.every g.until all done (stop ∷ rest) u → Follows g (Some stop) u c v
    → IsSoFar s g.every g.until all (done ++ c ∷ []) rest v
one_more s g all rest stop done c u v given spaced so_far follows =
    let latest = so_far.0 in
    let known = so_far.1 in
    let next = follows s given spaced latest known so_far.2 in (
      latest_of latest c,
      known_of g.until c (Some stop),
      next.between,
      λ more are. subst (AreCourses s g.every g.until Begun Fresh all) (sym (append_assoc done (c ∷ []) more)) (so_far.3 (c ∷ more) (next.as_course, are)),
    )

pub the_last : (s : Source) (g : Given) (all : List Stop) (done : List Course) (c : Course) (u v : View) → IsGivenSource g s → IsSpacedBy s g.every → IsSoFar s g.every g.until all done [] u → Follows g None u c v
    → AreCourses s g.every g.until Begun Fresh all (done ++ c ∷ [])
the_last s g all done c u v given spaced so_far follows = so_far.3 (c ∷ []) (follows s given spaced so_far.0 so_far.1 so_far.2).as_course

lived_output : (s : Source) (every until : ℕ) (latest : Started) (known : Known) (c : Course) (v : View) → IsNext s every until latest known None c v → v.seen.output ≡ output_of s until
lived_output s every until latest known course.Opening v next = absurd next.as_course.stopped
lived_output s every until latest known (course.Left x) v next = absurd next.as_course.stopped
lived_output s every until latest known (course.Lived l) v next = next.output l refl

pub last_output : (s : Source) (g : Given) (all : List Stop) (done : List Course) (c : Course) (u v : View) → IsGivenSource g s → IsSpacedBy s g.every → IsSoFar s g.every g.until all done [] u → Follows g None u c v → v.seen.output ≡ output_of s g.until
last_output s g all done c u v given spaced so_far follows = lived_output s g.every g.until so_far.0 so_far.1 c v (follows s given spaced so_far.0 so_far.1 so_far.2)

-- ---- the empty disk

no_chain : (output : List ℕ) → chain_in (record { output = output; one = []; two = [] }) ≡ Ok None
unfolding chain_in header_in
no_chain output = refl

abbrev pub EmptyLaw : Type 0
EmptyLaw = (s : Source) (c : Store) → c.one ≡ [] → c.two ≡ [] → Stands s c

pub empty_between : EmptyLaw → (s : Source) (every output_room image_room log_room : ℕ) (failing : List ℕ) → IsBetween s every Begun Fresh (view_of (empty_disk output_room image_room log_room failing))
empty_between law s every output_room image_room log_room failing =
    let only = empty_is_lasting output_room image_room log_room failing in
    record {
      stand = λ c left. law s c (ap (λ (d : Store). d.one) (only c left)) (ap (λ (d : Store). d.two) (only c left));
      one_chain = λ c left. ap chain_in (only c left);
      latest_held = tt;
      known_held = no_chain [];
    }

pub new_between : EmptyLaw → (s : Source) (every output_room image_room log_room : ℕ) (failing : List ℕ) (m : MemoryDisk) → m ≡ empty_disk output_room image_room log_room failing → IsBetween s every Begun Fresh (view_of m)
new_between law s every output_room image_room log_room failing m new = subst (λ (x : MemoryDisk). IsBetween s every Begun Fresh (view_of x)) (sym new) (empty_between law s every output_room image_room log_room failing)

-- ---- the stops that are left

pub drop_next : {A : Type 0} → (xs : List A) (k : ℕ) (d : A) → k < length xs → drop k xs ≡ get_or xs k d ∷ drop (k + 1) xs
drop_next [] k d less = absurd (omega (arith, less))
drop_next (y ∷ ys) zero d less = refl
drop_next (y ∷ ys) (suc k) d less = drop_next ys k d (omega (arith, less)) ∙ ap (λ n. get_or ys k d ∷ drop n (y ∷ ys)) (let e : suc (k + 1) ≡ suc k + 1 = omega arith in e)
