-- A store that stands for a source is opened.
use Rattle.std.proofs.Common.{◌≡◌, refl, sym, ◌∙◌, ap, subst, ℕ, ◌≤◌, true, IsTrue, List, [], take, length, Some, None, Result, Ok, Err, IfOk}
use Rattle.disk_model.specs.Store.{Store}
use Rattle.disk_model.specs.View.{View, IsDisk}
use Rattle.disk_model.specs.Moments.{Among, LeavesOnly}
use Rattle.disk_model.proofs.Calls.{still, joined, weaken}
use Rattle.image_format.specs.declared.fields.Fields.{Fields}
use Rattle.image_format.specs.declared.fields.Marks.{Marks}
use Rattle.image_format.specs.Image.{Image}
use Rattle.image_chain.specs.Append.{Keeps}
use Rattle.image_chain.specs.ChainView.{ChainView}
use Rattle.image_chain.specs.Lists.{Lists, Rests}
use Rattle.image_chain.specs.Looking.{OnlyLooked}
use Rattle.image_chain.specs.Memory.{Joined}
use Rattle.image_chain.specs.Records.{newest_of}
use Rattle.image_chain.proofs.LoopLaws.{rest_lists}
use Rattle.image_chain.proofs.OpenLaws.{after_looked}
use Rattle.coalesce.specs.Join.{IsContent}
use Rattle.output_file.specs.Pushed.{begun_behind}
use Rattle.life_journal.specs.Begun.{IsCutBehind}
use Rattle.life_journal.specs.Holding.{HoldsJournal}
use Rattle.run_images.specs.Compiled.{CompiledView, IsCompiled}
use Rattle.run_images.specs.Later.{IsLater}
use Rattle.run_images.specs.Origin.{Origin, begun_at, IsResumedAt, IsOfSource}
use Rattle.run_images.specs.Source.{Source, IsSource}
use Rattle.run_images.specs.Stands.{Stands, StandsFor, AllStand}
use Rattle.ckpt_runner.specs.declared.started.OpenFault.{OpenFault}
use Rattle.ckpt_runner.specs.declared.started.Started.TheVariants.{Resumed}
use Rattle.ckpt_runner.specs.JournalCalls.{MayCut}
use Rattle.ckpt_runner.specs.LifeView.{LifeView}
use Rattle.ckpt_runner.specs.Lives.{Lives}
use Rattle.ckpt_runner.specs.Keeps.{Kept}
use Rattle.ckpt_runner.specs.Good.{IsGood}
use Rattle.ckpt_runner.specs.Opening.{Given, Opens, Restarts}
use Rattle.ckpt_runner.specs.Standing.{IsGivenSource, KeepsImages, OpensGood, OpensStanding}
use Rattle.ckpt_runner.proofs.GoodCalls.{plain_moments}
use Rattle.ckpt_runner.proofs.GoodStarts.{NeedMost, EntryLaws, rest_stand, resumed_stand, resumed_good}
use Rattle.ckpt_runner.proofs.GoodTaking.{images_resumed}
use Rattle.ckpt_runner.proofs.ResumedLaws.{IsResumedLife, resumed_at, resumed_opens, resumed_lives, resumed_kept}

-- ---- what of the source is given

abbrev pub BegunLaw : Type 0
BegunLaw = (s : Source) (c : CompiledView) (every : ℕ) → IsSource s → IsCompiled s c → s.spaced every ≡ true → IsOfSource s (begun_at c s.marks every s.input)

pub begun_of : BegunLaw → (g : Given) (s : Source) → IsGivenSource g s → IsOfSource s (begun_at g.compiled g.marks g.every g.input)
begun_of law g s is =
    subst (λ (m : Marks). IsOfSource s (begun_at g.compiled m g.every g.input)) is.marks
    (subst (λ (l : List ℕ). IsOfSource s (begun_at g.compiled s.marks g.every l)) is.input (law s g.compiled g.every is.source is.compiled is.spaced))

abbrev pub ResumedLaw : Type 0
ResumedLaw = (s : Source) (c : CompiledView) (every fill : ℕ) (rs : List Image) (file : List ℕ) (o : Origin) → IsSource s → IsCompiled s c → StandsFor s every rs file → IsResumedAt c s.marks every fill s.input rs file o → IsOfSource s o

-- ---- calls that only look, before a call that opens

pub looked_standing : (u v : View) → (IsTrue u.tells → IsDisk u) → (IsTrue u.tells_past → IsTrue u.tells) → OnlyLooked u v → OpensStanding u v
looked_standing u v disk all looked told s is stand = after_looked u u v (Stands s) (still u (Stands s) disk all (λ _ c left. stand c left)) looked

pub looked_later : (u v : View) → (IsTrue u.tells → IsDisk u) → (IsTrue u.tells_past → IsTrue u.tells) → OnlyLooked u v → KeepsImages u v
looked_later u v disk all looked told j later = after_looked u u v (IsLater j) (still u (IsLater j) disk all (λ _ c left. later c left)) looked

pub same_standing : (u : View) → (IsTrue u.tells → IsDisk u) → (IsTrue u.tells_past → IsTrue u.tells) → OpensStanding u u
same_standing u disk all told s is stand = still u (Stands s) disk all (λ _ c left. stand c left)

-- each outcome is one that there was
pub old_standing : (u v : View) → (IsTrue u.tells → LeavesOnly u v u.may_leave) → OpensStanding u v
old_standing u v run told s is stand = weaken u v (Stands s) u.may_leave (run told) (λ c left. stand c left)

pub old_later : (u v : View) → (IsTrue u.tells → LeavesOnly u v u.may_leave) → KeepsImages u v
old_later u v run told j later = weaken u v (IsLater j) u.may_leave (run told) (λ c left. later c left)

pub standing_twice : (u v w : View) → (IsTrue u.tells_past → IsTrue u.tells) → v.tells ≡ u.tells → OpensStanding u v → OpensStanding v w → OpensStanding u w
standing_twice u v w all tells x y told s is stand =
    let first = x told s is stand in
    joined u v w (Stands s) (Stands s) all first (y (subst IsTrue (sym tells) told) s is (λ c left. first.now told c left)) (λ _ c h. h)

-- ---- a life that goes on

-- the chain is cut behind the newest image
module _ (newest : Fields) (chain : ChainView) (u w : View) (is_newest : chain.current.newest ≡ Some newest) where
  pub newest_there : (rs : List Image) → Rests chain u rs → newest_of None rs ≡ Some newest
  newest_there rs rests = sym rests.1.1.keeps.newest ∙ is_newest

  pub cut_standing : NeedMost → (IsTrue u.tells → (rs : List Image) × Rests chain u rs) → (IsTrue u.tells → (rs : List Image) → Rests chain u rs → MayCut chain rs newest.output_length u w) → OpensStanding u w
  cut_standing need rests run told s is stand =
      let found = rests told in
      plain_moments s newest.output_length u w (resumed_stand need s chain found.0 newest u w is (newest_there found.0 found.1) stand found.1 (run told found.0 found.1))

  pub cut_later : (IsTrue u.tells → (rs : List Image) × Rests chain u rs) → (IsTrue u.tells → (rs : List Image) → Rests chain u rs → MayCut chain rs newest.output_length u w) → KeepsImages u w
  cut_later rests run told j later =
      let found = rests told in
      images_resumed newest.output_length chain found.0 u w found.1 (λ yes. run told found.0 found.1) told j later

-- the whole
pub resumed_opened_good : (need : NeedMost) (entry : EntryLaws) (law : ResumedLaw) (g : Given) (life : LifeView) (kept : Joined) (newest : Fields) (chain : ChainView) (u v w : View) (rs : List Image) (s : Source) → IsTrue u.tells → IsDisk u → IsDisk v → OnlyLooked u v
    → Rests chain u rs → Rests chain v rs → IsContent kept rs → life.journal.chain ≡ chain → life.journal.output ≡ begun_behind newest.output_length → HoldsJournal life.journal w rs (take newest.output_length v.seen.output)
    → g.compiled ≡ life.compiled → g.marks ≡ life.marks → g.input ≡ life.input → IsResumedLife life kept g.fill newest → Restarts g kept newest → chain.current.newest ≡ Some newest → newest.output_length ≤ length u.seen.output
    → LeavesOnly v w (Among v.may_leave (IsCutBehind chain.current rs newest.output_length)) → IsGivenSource g s → AllStand s u
    → (o : Origin) × Opens g u.seen (Resumed newest.number newest.steps) o × Lives o [] life × Kept o [] life w × IsOfSource s o × IsGood s o [] life w
unfolding resumed_at resumed_opens
resumed_opened_good need entry law g life kept newest chain u v w rs s told disk looked_disk looked rests beside content same output holds compiled marks input is restarts newest_is written run source stand =
    let bytes : List ℕ = take newest.output_length u.seen.output in
    let o : Origin = resumed_at life newest bytes rs in
    let lists : Lists chain.current rs u.seen = rest_lists chain.current u rs rests.1.0 rests.1.1 u.seen disk.seen_stays in
    let on = subst (λ (c : Store). HoldsJournal life.journal w rs (take newest.output_length c.output)) (looked.seen told) holds in
    let opens : Opens g u.seen (Resumed newest.number newest.steps) o =
    resumed_opens g life kept newest bytes rs u.seen compiled marks input is restarts (subst (λ (x : ChainView). Keeps x.current rs) (sym same) rests.1.1.keeps) (subst (λ (x : ChainView). Lists x.current rs u.seen) (sym same) lists)
    content (ap (λ (x : ChainView). x.current.newest) same ∙ newest_is) written refl in
    let at_life : IsResumedAt g.compiled g.marks life.journal.chain.current.every g.fill g.input rs u.seen.output o = opens.6 in
    let at_marks : IsResumedAt g.compiled s.marks life.journal.chain.current.every g.fill s.input rs u.seen.output o =
    subst (λ (m : Marks). IsResumedAt g.compiled m life.journal.chain.current.every g.fill s.input rs u.seen.output o) (sym source.marks)
    (subst (λ (l : List ℕ). IsResumedAt g.compiled g.marks life.journal.chain.current.every g.fill l rs u.seen.output o) (sym source.input) at_life) in
    let at_chain : IsResumedAt g.compiled s.marks chain.current.every g.fill s.input rs v.seen.output o =
    subst (λ (c : Store). IsResumedAt g.compiled s.marks chain.current.every g.fill s.input rs c.output o) (sym (looked.seen told))
    (subst (λ (x : ChainView). IsResumedAt g.compiled s.marks x.current.every g.fill s.input rs u.seen.output o) same at_marks) in
    let here : IsTrue v.tells = subst IsTrue (sym looked.tells) told in
    let stand_here : AllStand s v = λ c left. stand c ((looked.crash told c).0 left) in
    let there : newest_of None rs ≡ Some newest = sym rests.1.1.keeps.newest ∙ newest_is in
    let of : IsOfSource s o = law s g.compiled chain.current.every g.fill rs v.seen.output o source.source source.compiled (rest_stand s chain v rs newest looked_disk there beside stand_here) at_chain in (
      o,
      opens,
      resumed_lives life kept g.fill newest bytes rs is,
      resumed_kept life kept g.fill newest bytes rs w is on,
      of,
      resumed_good need entry s g.compiled g.fill rs o chain life.journal v w here looked_disk source.source source.compiled stand_here beside at_chain of same output holds run,
    )

-- ---- opening, behind the calls that have looked at the chain

pub opens_good : (g : Given) (u m v : View) (life : LifeView) → m.tells ≡ u.tells → (IsTrue u.tells → m.seen ≡ u.seen) → (IsTrue u.tells → LeavesOnly u m u.may_leave) → OpensGood g life m v → OpensGood g life u v
opens_good g u m v life tells seen run good told s is stand =
    let a = good (subst IsTrue (sym tells) told) s is (λ c left. stand c ((run told).now told c left)) in
    (a.0, subst (λ (c : Store). Opens g c life.started a.0) (seen told) a.1, a.2, a.3, a.4, a.5)

pub resumed_opens_good : (g : Given) (u m v : View) (r : Result LifeView OpenFault) → m.tells ≡ u.tells → (IsTrue u.tells → m.seen ≡ u.seen) → (IsTrue u.tells → LeavesOnly u m u.may_leave) → IfOk r (λ life. OpensGood g life m v) → IfOk r (λ life. OpensGood g life u v)
resumed_opens_good g u m v (Ok life) tells seen run h = opens_good g u m v life tells seen run h
resumed_opens_good g u m v (Err e) tells seen run h = tt
