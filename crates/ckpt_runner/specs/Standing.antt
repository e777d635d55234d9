-- What calls on a life of a source keep of its store: at every moment a crash leaves a store that stands, and no image is lost.
use Rattle.std.specs.Prelude.{◌≡◌, ℕ, ◌≤◌, true, List, [], Some, None, Ok, IsTrue}
use Rattle.ckpt_base.specs.declared.ending.Ending.{Ending}
use Rattle.ckpt_base.specs.Event.{Event}
use Rattle.disk_model.specs.Store.{Store}
use Rattle.disk_model.specs.View.{View}
use Rattle.disk_model.specs.Moments.{LeavesOnly}
use Rattle.image_chain.specs.Records.{Found, chain_in}
use Rattle.life_journal.specs.JournalView.{JournalView}
use Rattle.run_images.specs.JoinedList.{IsJoinedList}
use Rattle.run_images.specs.Later.{IsLater, AllLater}
use Rattle.run_images.specs.Origin.{Origin, IsOfSource}
use Rattle.run_images.specs.Shown.{EndsAsSource}
use Rattle.run_images.specs.Source.{Source, IsSource, output_of, images_of}
use Rattle.run_images.specs.Stands.{Stands, AllStand}
use Rattle.run_images.specs.Compiled.{IsCompiled}
use Rattle.ckpt_runner.specs.LifeView.{LifeView}
use Rattle.ckpt_runner.specs.Lives.{HasServed, Lives, StopsAt, run_now}
use Rattle.ckpt_runner.specs.Keeps.{Kept}
use Rattle.ckpt_runner.specs.Opening.{Given, Opens}
use Rattle.ckpt_runner.specs.Good.{JournalStands, IsGood}

-- At every moment of this call on a journal that stands for a source a crash leaves a store that stands.
abbrev pub JournalMoments : JournalView → View → View → Type 0
JournalMoments j old new = IsTrue old.tells → (s : Source) (o : Origin) (es : List Event) (m : List ℕ) → JournalStands s o es j m old → LeavesOnly old new (Stands s)

-- Behind the call it stands as before.
abbrev pub JournalStays : JournalView → View → JournalView → View → Type 0
JournalStays j old k new = IsTrue old.tells → (s : Source) (o : Origin) (es : List Event) (m : List ℕ) → JournalStands s o es j m old → JournalStands s o es k m new

-- At every moment of this serving, on a store that stood when the life was opened, a crash leaves a store that stands.
abbrev pub ServesStanding : List Event → LifeView → View → View → Type 0
ServesStanding shown life old new = IsTrue old.tells → (s : Source) (o : Origin) (es : List Event) → IsSource s → IsOfSource s o
    → HasServed o es shown life → IsGood s o es life old → LeavesOnly old new (Stands s)

-- So it does at every moment of a call on the life.
abbrev pub KeepsStanding : LifeView → View → View → Type 0
KeepsStanding life old new = ServesStanding [] life old new

-- No image is lost: where every crash leaves image j or a later one, so it is at every moment.
abbrev pub KeepsImages : View → View → Type 0
KeepsImages old new = IsTrue old.tells → (j : ℕ) → AllLater j old → LeavesOnly old new (IsLater j)

-- The store has the output of the source's run within the bound, and the images of that run.
pub record Ends (s : Source) (every until : ℕ) (c : Store) : Type 0 where
  pub output : c.output ≡ output_of s until
  pub none : images_of s every until ≡ [] → chain_in c ≡ Ok None
  pub some : (images_of s every until ≡ [] → ⊥) → (found : Found) × (chain_in c ≡ Ok (Some found)) × IsJoinedList found.records (images_of s every until)

-- so it is of what reads give, and of every crash
pub record AllEnd (s : Source) (every until : ℕ) (v : View) : Type 0 where
  pub reads : Ends s every until v.seen
  pub left : (c : Store) → v.may_leave c → Ends s every until c

-- A life that stopped at a bound ended as each source does that it is of. Where what it kept was good, reads and every crash now have the output and the images of the source's run.
abbrev pub EndsGood : LifeView → View → View → Type 0
EndsGood life old new = (s : Source) (o : Origin) (es : List Event) (until : ℕ) (ending : Ending) → IsOfSource s o → o.state.ticks ≤ until → StopsAt o es until ending life
    → EndsAsSource s o until (run_now o es ending life) × (IsTrue old.tells → IsGood s o es life old → AllEnd s o.taking.every until new)

-- The source is that of what a life is opened with.
pub record IsGivenSource (g : Given) (s : Source) : Type 0 where
  pub source : IsSource s
  pub compiled : IsCompiled s g.compiled
  pub marks : s.marks ≡ g.marks
  pub input : s.input ≡ g.input
  pub spaced : s.spaced g.every ≡ true

-- On a store that stands for its source a life is opened as a life of that, and what it keeps on its disk is good.
abbrev pub OpensGood : Given → LifeView → View → View → Type 0
OpensGood g life old new = IsTrue old.tells → (s : Source) → IsGivenSource g s → AllStand s old
    → (o : Origin) × Opens g old.seen life.started o × Lives o [] life × Kept o [] life new × IsOfSource s o × IsGood s o [] life new

-- At every moment of opening a store that stands for a source a crash leaves one that stands.
abbrev pub OpensStanding : View → View → Type 0
OpensStanding old new = IsTrue old.tells → (s : Source) → IsSource s → AllStand s old → LeavesOnly old new (Stands s)
