-- What a life keeps on its disk stays good for its source, from call to call.
use Rattle.std.proofs.Common.{◌≡◌, sym, ◌∙◌, ap, subst, ℕ, ◌+◌, ◌≤◌, List, [], ◌++◌, length, append-nil, arith}
use Rattle.std.specs.Prelude.{slice_index}
use Rattle.std.specs.List.{Contains}
use Rattle.std.proofs.lemmas.List.{length-append}
use Rattle.ckpt_base.specs.Event.{Event}
use Rattle.ckpt_base.specs.Run.{output}
use Rattle.disk_model.specs.Store.{Store}
use Rattle.disk_model.specs.View.{View}
use Rattle.image_format.specs.Image.{Image}
use Rattle.image_chain.specs.Lists.{Lists}
use Rattle.image_chain.proofs.LoopLaws.{rest_lists}
use Rattle.output_file.specs.Pushed.{Pushed}
use Rattle.output_file.specs.OnDisk.{IsOutputOn}
use Rattle.machine_code.specs.Shown.{wrote}
use Rattle.life_journal.specs.JournalView.{JournalView}
use Rattle.life_journal.specs.Holding.{HoldsJournal}
use Rattle.run_images.specs.Since.{Since}
use Rattle.run_images.specs.Images.{TakenImage, images_from}
use Rattle.run_images.specs.JoinedList.{IsJoinedList}
use Rattle.run_images.specs.Hold.{HoldUnwritten}
use Rattle.run_images.specs.Source.{Source, images_of}
use Rattle.run_images.specs.Stands.{StandsWithin, StandWith, ChainStands}
use Rattle.run_images.specs.Origin.{Origin}
use Rattle.run_images.proofs.ImageLaws.{since_more}
use Rattle.run_images.proofs.LastingLaws.{still_stand}
use Rattle.run_images.proofs.LifeLaws.{unwritten_stays}
use Rattle.ckpt_runner.specs.Lives.{since_now}
use Rattle.ckpt_runner.specs.Keeps.{bytes_now, images_now}
use Rattle.ckpt_runner.specs.Good.{JournalStands}
use Rattle.ckpt_runner.proofs.KeptLaws.{bytes_more, images_then}

-- no more bytes last than there are
pub lasting_within : (o : Pushed) (v : View) (bytes : List ℕ) → IsOutputOn o v bytes → o.lasting ≤ length bytes
lasting_within o v bytes h = let e : length bytes ≡ length v.seen.output + length o.waiting = ap length h.reads ∙ length-append v.seen.output o.waiting in omega (arith, e, h.written, h.within)

-- each outcome of a crash lists the records of a journal
pub journal_lists : (j : JournalView) (v : View) (rs : List Image) (w : List ℕ) → HoldsJournal j v rs w → (c : Store) → v.may_leave c → Lists j.chain.current rs c
journal_lists j v rs w h c left = rest_lists j.chain.current v rs h.rests.1.0 h.rests.1.1 c left

-- each outcome stands with the records of a journal that stands
pub chain_stands : (s : Source) (o : Origin) (es : List Event) (j : JournalView) (m : List ℕ) (v : View) (g : JournalStands s o es j m v) → (c : Store) → v.may_leave c → ChainStands s j.output.lasting (bytes_now o es) j.chain.current g.records c
chain_stands s o es j m v g c left = record {
  image_file = g.holds.rests.1.1.alone.image_file;
  stands = g.all c left;
  output = (g.holds.output.left c left).lasting;
  lists = journal_lists j v g.records (bytes_now o es) g.holds c left;
  records = subst (λ (e : ℕ). StandWith s e j.output.lasting (bytes_now o es) g.records) (sym g.every) g.stand;
}

-- a store that needs n bytes needs no more than m
pub within_more : (s : Source) (n m : ℕ) (c : Store) → n ≤ m → StandsWithin s n c → StandsWithin s m c
within_more s n m c le a = record {
  stands = a.stands;
  within = λ f h rs x image lists newest. let less = a.within f h rs x image lists newest in omega (arith, less, le);
}

-- Behind events that take no image a journal that holds the same records stands with them, where each cell that they do not write has its word.
pub stands_on : (s : Source) (o : Origin) (es fs : List Event) (j k : JournalView) (m n : List ℕ) (u v : View) (added : List ℕ) → output fs ≡ added → images_from o.taking fs (since_now o es) ≡ []
    → ((c : ℕ) → (Contains (wrote fs) c → ⊥) → slice_index n c ≡ slice_index m c)
    → k.chain.current.every ≡ j.chain.current.every → j.output.lasting ≤ k.output.lasting
    → ((rs : List Image) (w : List ℕ) → HoldsJournal j u rs w → HoldsJournal k v rs (w ++ added))
    → ((c : Store) → v.may_leave c → StandsWithin s k.output.lasting c)
    → JournalStands s o es j m u → JournalStands s o (es ++ fs) k n v
stands_on s o es fs j k m n u v added written none same every longer holds all g =
    let bytes : bytes_now o (es ++ fs) ≡ bytes_now o es ++ added = bytes_more o es fs ∙ ap (λ (l : List ℕ). bytes_now o es ++ l) written in
    let images : images_now o (es ++ fs) ≡ images_now o es = images_then o es fs ∙ ap (λ (l : List TakenImage). images_now o es ++ l) none ∙ append-nil (images_now o es) in
    record {
      every = every ∙ g.every;
      records = g.records;
      holds = subst (λ (l : List ℕ). HoldsJournal k v g.records l) (sym bytes) (holds g.records (bytes_now o es) g.holds);
      images = subst (λ (l : List TakenImage). IsJoinedList g.records (images_of s o.taking.every o.state.ticks ++ l)) (sym images) g.images;
      held = subst (λ (x : Since). HoldUnwritten s x g.records n) (sym (since_more o.taking.every es fs o.since)) (unwritten_stays s o.taking (since_now o es) fs g.records m n none g.held same);
      stand = subst (λ (l : List ℕ). StandWith s o.taking.every k.output.lasting l g.records) (sym bytes)
          (still_stand s o.taking.every j.output.lasting k.output.lasting (bytes_now o es) added g.records longer (lasting_within j.output u (bytes_now o es) g.holds.output) g.stand);
      all = all;
    }
