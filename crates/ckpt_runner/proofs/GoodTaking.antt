-- An image is taken in three calls of the journal: a flush, room for the record, and the record. At each moment a crash leaves a store that stands, and no image is lost.
use Rattle.std.proofs.Common.{◌≡◌, sym, ◌∙◌, ap, subst, ℕ, true, IsTrue, List, [], ◌∷◌, ◌++◌, None, Ok}
use Rattle.cell_sets.specs.declared.runs.Run.{Run}
use Rattle.cell_sets.specs.Runs.{in_runs}
use Rattle.ckpt_base.specs.Event.{Event, Checkpoint}
use Rattle.disk_model.specs.Store.{Store}
use Rattle.disk_model.specs.View.{View, IsDisk}
use Rattle.disk_model.proofs.Calls.{joined}
use Rattle.image_format.specs.declared.fields.Fields.{Fields}
use Rattle.image_format.specs.Image.{Image, word_in_runs}
use Rattle.image_format.specs.Written.{image_of, filled, listed_word}
use Rattle.image_chain.specs.ChainView.{ChainView}
use Rattle.image_chain.specs.Lists.{Rests}
use Rattle.image_chain.specs.Records.{broken_field, chain_in}
use Rattle.output_file.specs.Pushed.{flushed, length_of}
use Rattle.life_journal.specs.JournalView.{JournalView}
use Rattle.life_journal.specs.Holding.{FitsDisk}
use Rattle.run_images.specs.Images.{fields_at, taken_at}
use Rattle.run_images.specs.JoinedList.{IsOf}
use Rattle.run_images.specs.Origin.{Origin, IsOfSource}
use Rattle.run_images.specs.Since.{Since, is_due}
use Rattle.run_images.specs.Source.{Source, IsSource}
use Rattle.run_images.specs.Stands.{Stands}
use Rattle.ckpt_runner.specs.JournalCalls.{StaysBefore, MakesLasting, MayJoin, MakesRoom, MayAppend, Appends, MayCut, PassesWith}
use Rattle.ckpt_runner.specs.LifeView.{LifeView}
use Rattle.ckpt_runner.specs.Lives.{since_now, cells_now, progress_in, HasServed}
use Rattle.ckpt_runner.specs.SoundLife.{IsSoundLife}
use Rattle.ckpt_runner.specs.Good.{JournalStands, IsGood}
use Rattle.ckpt_runner.specs.Standing.{JournalMoments, JournalStays, ServesStanding, KeepsImages}
use Rattle.ckpt_runner.proofs.GoodCalls.{plain_moments, behind_stand, flush_good, room_stand, room_good}
use Rattle.ckpt_runner.proofs.GoodImages.{ImagesStand, record_words, image_stand, image_good}
use Rattle.ckpt_runner.proofs.TakeLaws.{IsDueNow, due_now, listed_now, lists_now, record_now}
use Rattle.ckpt_runner.proofs.LaterCalls.{behind_images, room_images, save_images, resume_images, begin_images}

-- ---- the output

pub flush_serves : (shown : List Event) (life : LifeView) (u v : View) → (IsTrue u.tells → StaysBefore life.journal u v) → ServesStanding shown life u v
flush_serves shown life u v run told s o es is of served g = plain_moments s life.journal.output.lasting u v (behind_stand s o es life.journal (cells_now o life) u v (run told) g)

pub output_moments : (j : JournalView) (u v : View) → (IsTrue u.tells → StaysBefore j u v) → JournalMoments j u v
output_moments j u v run told s o es m g = plain_moments s j.output.lasting u v (behind_stand s o es j m u v (run told) g)

-- ---- a journal is made ready: a flush, and room

module _ (old j : JournalView) (u v : View) (tells : v.tells ≡ u.tells) (run : IsTrue u.tells → StaysBefore old u v) (chain : j.chain ≡ old.chain) (flush : j.output ≡ flushed old.output) (holds : IsTrue u.tells → MakesLasting old u j v) where
  told_on : IsTrue u.tells → IsTrue v.tells
  told_on told = subst IsTrue (sym tells) told

  flushed_good : IsTrue u.tells → (s : Source) (o : Origin) (es : List Event) (m : List ℕ) → JournalStands s o es old m u → JournalStands s o es j m v
  flushed_good told s o es m g = flush_good s o es old j m u v told chain flush (holds told) (run told) g

  pub room_moments : (w : View) → (IsTrue u.tells_past → IsTrue u.tells) → (IsTrue v.tells → MayJoin j v w) → JournalMoments old u w
  room_moments w all room told s o es m g =
      joined u v w (Stands s) (Stands s) all (output_moments old u v run told s o es m g)
      (plain_moments s j.output.lasting v w (room_stand s o es j m v w (room (told_on told)) (flushed_good told s o es m g))) (λ _ c h. h)

  pub room_stays : (k : JournalView) (w : View) → (IsTrue v.tells → MayJoin j v w) → k.output ≡ j.output → k.chain.current.every ≡ j.chain.current.every → (IsTrue v.tells → MakesRoom j v k w) → JournalStays old u k w
  room_stays k w room same every joins told s o es m g =
      room_good s o es j k m v w (told_on told) same every (joins (told_on told)) (room (told_on told)) (flushed_good told s o es m g)

pub ready_serves : (shown : List Event) (life : LifeView) (u v : View) → JournalMoments life.journal u v → ServesStanding shown life u v
ready_serves shown life u v moments told s o es is of served g = moments told s o es (cells_now o life) g

-- ---- the record

-- the life passes the checkpoint with this record
pub passes_now : (o : Origin) (es : List Event) (node tick n : ℕ) (life : LifeView) (f : Fields) (runs more : List Run) → IsSoundLife life → tick ≡ life.machine.state.ticks → IsDueNow life tick
    → ((s : Since) → life.progress ≡ progress_in s → n ≡ s.output_length → f ≡ fields_at life.marks node tick s) → n ≡ length_of life.journal.output → more ≡ runs → ((c : ℕ) → in_runs runs c ≡ listed_now life c)
    → ((c : ℕ) → word_in_runs (filled life.frames more) c ≡ listed_word more life.frames c) → HasServed o es (Checkpoint node tick ∷ []) life → PassesWith o es node life (image_of f more life.frames)
passes_now o es node tick n life f runs more sound now due said output same exact words h =
    let shown : List Event = Checkpoint node tick ∷ [] in
    record {
      served = subst (λ (t : ℕ). HasServed o es (Checkpoint node t ∷ []) life) now h;
      due = subst (λ (t : ℕ). is_due o.taking.every (since_now o es) t ≡ true) now (due_now o es shown tick life h due);
      image = subst (λ (t : ℕ). IsOf (image_of f more life.frames) (taken_at o.taking node t (since_now o es))) now (record_now o es shown node tick n life f runs more sound h said output same exact words);
      words = record_words o.taking (since_now o es) f more life.frames (λ c. ap (λ (l : List Run). in_runs l c) same ∙ exact c ∙ lists_now o es shown life c sound h) words;
    }

module _ (life : LifeView) (j : JournalView) (u v : View) (tells : v.tells ≡ u.tells) (flush : j.output ≡ flushed life.journal.output) (moments : JournalMoments life.journal u v) (stays : JournalStays life.journal u j v)
    (law : ImagesStand) (node tick : ℕ) (now : tick ≡ life.machine.state.ticks) (r : Image) (follows : broken_field j.chain.current.newest r.fields ≡ None)
    (passes : (o : Origin) (es : List Event) → HasServed o es (Checkpoint node tick ∷ []) life → PassesWith o es node life r) (x : View) (save : IsTrue v.tells → MayAppend j r v x) where
  told_last : IsTrue u.tells → IsTrue v.tells
  told_last told = subst IsTrue (sym tells) told

  pub save_serves : (IsTrue u.tells_past → IsTrue u.tells) → ServesStanding (Checkpoint node tick ∷ []) life u x
  save_serves all told s o es is of served g =
      let p = passes o es served in
      joined u v x (Stands s) (Stands s) all (moments told s o es (cells_now o life) g)
      (plain_moments s j.output.lasting v x (image_stand law s o es node life j v r is of p.served (stays told s o es (cells_now o life) g) life.journal.output flush p.due p.image p.words follows x (save (told_last told)))) (λ _ c h. h)

  -- behind it all is good again
  pub saved_good : (k : JournalView) → (IsTrue v.tells → Appends j r v k x) → k.output ≡ j.output → k.chain.current.every ≡ j.chain.current.every → IsTrue u.tells → (o : Origin) (es : List Event) → HasServed o es (Checkpoint node tick ∷ []) life
      → (s : Source) → IsSource s → IsOfSource s o → IsGood s o es life u → JournalStands s o (es ++ Checkpoint node tick ∷ []) k (cells_now o life) x
  saved_good k saves output every told o es served s is of g =
      let p = passes o es served in
      subst (λ (t : ℕ). JournalStands s o (es ++ Checkpoint node t ∷ []) k (cells_now o life) x) (sym now)
      (image_good law s o es node life j v r is of p.served (stays told s o es (cells_now o life) g) life.journal.output flush p.due p.image p.words follows k x (told_last told) output every (saves (told_last told)) (save (told_last told)))

-- ---- no image is lost

pub images_beside : (j : JournalView) (u v : View) → (IsTrue u.tells → StaysBefore j u v) → KeepsImages u v
images_beside j u v run told i later = behind_images i j.output.lasting u v (run told) later

pub images_joined : (j : JournalView) (u v : View) → FitsDisk j u → (IsTrue u.tells → MayJoin j u v) → KeepsImages u v
images_joined j u v fits run told i later = let f = fits told in room_images i j f.0 f.1 u v f.2 (run told f.0 f.1 f.2) later

pub images_saved : (j : JournalView) (r : Image) (u v : View) → FitsDisk j u → broken_field j.chain.current.newest r.fields ≡ None → (IsTrue u.tells → MayAppend j r u v) → KeepsImages u v
images_saved j r u v fits follows run told i later = let f = fits told in save_images i j f.0 f.1 r u v f.2 follows (run told f.0 f.1 f.2) later

pub images_resumed : (n : ℕ) (chain : ChainView) (rs : List Image) (u v : View) → Rests chain u rs → (IsTrue u.tells → MayCut chain rs n u v) → KeepsImages u v
images_resumed n chain rs u v rest run told i later = resume_images i n chain rs u v rest (run told) later

pub images_begun : (u v : View) → (IsTrue u.tells → IsDisk u) → (IsTrue u.tells → (c : Store) → u.may_leave c → chain_in c ≡ Ok None) → KeepsImages u v
images_begun u v disk none told i later = begin_images i u v (disk told) (none told) later
