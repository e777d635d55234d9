-- What a life of a source leaves on its disk when it is finished.
use Rattle.std.proofs.Common.{◌≡◌, sym, ◌∙◌, subst, ℕ, ◌≤◌, List, [], ◌∷◌, ◌++◌, Some, None, Ok}
use Rattle.ckpt_base.specs.declared.ending.Ending.{Ending}
use Rattle.ckpt_base.specs.Event.{Event}
use Rattle.disk_model.specs.Store.{Store}
use Rattle.disk_model.specs.View.{View, IsDisk}
use Rattle.image_format.specs.Image.{Image}
use Rattle.image_chain.specs.declared.chain.Current.{Current}
use Rattle.image_chain.specs.Append.{header_of}
use Rattle.image_chain.specs.Lists.{Lists}
use Rattle.image_chain.specs.Records.{Found, chain_in}
use Rattle.output_file.specs.OnDisk.{IsOnDisk}
use Rattle.run_images.specs.Images.{TakenImage}
use Rattle.run_images.specs.JoinedList.{IsJoinedList}
use Rattle.run_images.specs.Source.{Source, images_of}
use Rattle.run_images.specs.Origin.{Origin, IsOfSource}
use Rattle.run_images.specs.Shown.{EndsAsSource}
use Rattle.run_images.proofs.EndLaws.{ends_as_source}
use Rattle.ckpt_runner.specs.LifeView.{LifeView}
use Rattle.ckpt_runner.specs.Lives.{StopsAt, run_now}
use Rattle.ckpt_runner.specs.Keeps.{bytes_now}
use Rattle.ckpt_runner.specs.Good.{IsGood}
use Rattle.ckpt_runner.specs.Standing.{Ends, AllEnd}
use Rattle.ckpt_runner.proofs.GoodLaws.{journal_lists}

some_images : (front : List TakenImage) (image : TakenImage) (back : List TakenImage) → [] ≡ (front ++ image ∷ []) ++ back → ⊥
some_images [] image back e = absurd (let z : [] ≡ image ∷ back = e in cc)
some_images (x ∷ front) image back e = absurd (let z : [] ≡ x ∷ ((front ++ image ∷ []) ++ back) = e in cc)

-- a store that lists a joined list of these images
none_listed : (chain : Current) (rs : List Image) (images : List TakenImage) (c : Store) → Lists chain rs c → IsJoinedList rs images → images ≡ [] → chain_in c ≡ Ok None
none_listed chain [] images c lists all e = lists
none_listed chain (r ∷ rs) images c lists all e = absurd (some_images all.front all.image all.back (sym e ∙ all.split))

some_listed : (chain : Current) (rs : List Image) (images : List TakenImage) (c : Store) → Lists chain rs c → IsJoinedList rs images → (images ≡ [] → ⊥) → (found : Found) × (chain_in c ≡ Ok (Some found)) × IsJoinedList found.records images
some_listed chain [] images c lists all not = absurd (not all)
some_listed chain (r ∷ rs) images c lists all not = (record { file = chain.file; header = header_of chain; records = r ∷ rs }, lists, all)

module _ (s : Source) (o : Origin) (es : List Event) (until : ℕ) (ending : Ending) (life : LifeView) (v : View) (of : IsOfSource s o) (le : o.state.ticks ≤ until) (stops : StopsAt o es until ending life) where
  pub ends : EndsAsSource s o until (run_now o es ending life)
  ends = ends_as_source s o until (run_now o es ending life) of le stops

  module _ (g : IsGood s o es life v) (there : IsOnDisk (bytes_now o es) v) where
    joined : IsJoinedList g.records (images_of s o.taking.every until)
    joined = subst (IsJoinedList g.records) (sym ends.shown.images) g.images

    each : (c : Store) → c.output ≡ bytes_now o es → Lists life.journal.chain.current g.records c → Ends s o.taking.every until c
    each c output lists = record {
      output = output ∙ sym ends.shown.output;
      none = none_listed life.journal.chain.current g.records (images_of s o.taking.every until) c lists joined;
      some = some_listed life.journal.chain.current g.records (images_of s o.taking.every until) c lists joined;
    }

    listed : (c : Store) → v.may_leave c → Lists life.journal.chain.current g.records c
    listed c left = journal_lists life.journal v g.records (bytes_now o es) g.holds c left

    pub all_end : IsDisk v → AllEnd s o.taking.every until v
    all_end disk = record { reads = each v.seen there.reads (listed v.seen disk.seen_stays); left = λ c left. each c (there.left c left) (listed c left) }
