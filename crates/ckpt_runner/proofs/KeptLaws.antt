-- What a life keeps on its disk, between two calls of its writer.
use Rattle.std.proofs.Common.{◌≡◌, refl, sym, ◌∙◌, ap, subst, ℕ, ◌+◌, Bool, true, false, cond, List, [], ◌∷◌, ◌++◌, map, append_assoc, append-nil, Some, None, ⊎_elim}
use Rattle.std.specs.Prelude.{is_some, slice_index}
use Rattle.std.specs.List.{AllByRecursion}
use Rattle.ckpt_base.specs.Event.{Event, Wrote, Byte, Took, Excluded, Checkpoint}
use Rattle.ckpt_base.specs.Run.{output}
use Rattle.cell_sets.specs.declared.runs.Run.{Run}
use Rattle.cell_sets.specs.Runs.{in_runs}
use Rattle.dirty_pages.specs.Pages.{PageStates}
use Rattle.disk_model.specs.View.{View}
use Rattle.image_format.specs.declared.fields.Fields.{Fields}
use Rattle.image_format.specs.Image.{Image, word_in_runs}
use Rattle.image_format.specs.Written.{image_of, filled, listed_word}
use Rattle.life_journal.specs.JournalView.{JournalView}
use Rattle.life_journal.specs.Holding.{HoldsJournal}
use Rattle.life_journal.specs.Joining.{StayOrJoin}
use Rattle.run_images.specs.Since.{Since, is_due}
use Rattle.run_images.specs.Images.{Taking, TakenImage, fields_at, taken_at, images_from, lists_at}
use Rattle.run_images.specs.JoinedList.{IsOf, IsJoinedList}
use Rattle.run_images.specs.Origin.{Origin}
use Rattle.run_images.proofs.ImageLaws.{images_more, taken_due}
use Rattle.run_images.proofs.JoinLaws.{joined_grow, joined_joins}
use Rattle.ckpt_runner.specs.LifeView.{LifeView, Writer, Idle}
use Rattle.ckpt_runner.specs.Lives.{since_now}
use Rattle.ckpt_runner.specs.Keeps.{bytes_now, images_now, NoneSnapped, WriterStands, Kept}
use Rattle.ckpt_runner.proofs.ServedLaws.{IsOpenStore}

-- what is kept while no image is under way
pub record RestsWith (o : Origin) (es : List Event) (life : LifeView) (v : View) : Type 0 where
  pub records : List Image
  pub holds : HoldsJournal life.journal v records (bytes_now o es)
  pub none : NoneSnapped life.pages
  pub images : (before : List TakenImage) → IsJoinedList o.records before → IsJoinedList records (before ++ images_now o es)

pub kept_rests : (o : Origin) (es : List Event) (life : LifeView) (v : View) → life.writer ≡ Idle → Kept o es life v → RestsWith o es life v
kept_rests o es life v idle k =
    let stands : WriterStands life v k.old k.new Idle = subst (λ (w : Writer). WriterStands life v k.old k.new w) idle k.keeps.writer in
    record {
      records = k.old;
      holds = record { rests = stands.1; content = k.keeps.content; output = k.keeps.output };
      none = stands.2;
      images = λ before was. subst (λ (rs : List Image). IsJoinedList rs (before ++ images_now o es)) stands.0 (k.keeps.images before was);
    }

pub rests_kept : (o : Origin) (es : List Event) (life : LifeView) (v : View) → life.writer ≡ Idle → RestsWith o es life v → Kept o es life v
rests_kept o es life v idle r = record {
  old = r.records;
  new = r.records;
  keeps = record {
    writer = subst (λ (w : Writer). WriterStands life v r.records r.records w) (sym idle) (refl, r.holds.rests, r.none);
    content = r.holds.content;
    output = r.holds.output;
    images = r.images;
  };
}

-- ---- events that take no image and write nothing

output_more : (es fs : List Event) → output (es ++ fs) ≡ output es ++ output fs
output_more [] fs = refl
output_more (Byte b ∷ es) fs = ap (λ (l : List ℕ). b ∷ l) (output_more es fs)
output_more (Wrote c ∷ es) fs = output_more es fs
output_more (Took ∷ es) fs = output_more es fs
output_more (Excluded k ∷ es) fs = output_more es fs
output_more (Checkpoint m t ∷ es) fs = output_more es fs

pub bytes_more : (o : Origin) (es fs : List Event) → bytes_now o (es ++ fs) ≡ bytes_now o es ++ output fs
bytes_more o es fs = ap (λ (l : List ℕ). o.output ++ l) (output_more es fs) ∙ sym (append_assoc o.output (output es) (output fs))

pub images_then : (o : Origin) (es fs : List Event) → images_now o (es ++ fs) ≡ images_now o es ++ images_from o.taking fs (since_now o es)
images_then o es fs = images_more o.taking es fs o.since

stores_write_none : (pages : PageStates) (es : List Event) → AllByRecursion (IsOpenStore pages) es → output es ≡ []
stores_write_none pages [] h = refl
stores_write_none pages (e ∷ es) h = ap (λ (x : Event). output (x ∷ es)) h.0.1 ∙ stores_write_none pages es h.1

stores_take_none : (T : Taking) (pages : PageStates) (es : List Event) (s : Since) → AllByRecursion (IsOpenStore pages) es → images_from T es s ≡ []
stores_take_none T pages [] s h = refl
stores_take_none T pages (e ∷ es) s h = ap (λ (x : Event). images_from T (x ∷ es) s) h.0.1 ∙ stores_take_none T pages es (record s { written = h.0.0 ∷ s.written }) h.1

pub bytes_take_none : (T : Taking) (bytes : List ℕ) (s : Since) → images_from T (map Byte bytes) s ≡ []
bytes_take_none T [] s = refl
bytes_take_none T (b ∷ bs) s = bytes_take_none T bs (record s { output_length = s.output_length + 1 })

pub bytes_write : (bytes : List ℕ) → output (map Byte bytes) ≡ bytes
bytes_write [] = refl
bytes_write (b ∷ bs) = ap (λ (l : List ℕ). b ∷ l) (bytes_write bs)

-- a life that holds the same on its disk, behind events that take no image
pub rests_on : (o : Origin) (es fs : List Event) (old new : LifeView) (u v : View) (added : List ℕ) → output fs ≡ added → images_from o.taking fs (since_now o es) ≡ [] → NoneSnapped new.pages
    → ((rs : List Image) (w : List ℕ) → HoldsJournal old.journal u rs w → HoldsJournal new.journal v rs (w ++ added)) → RestsWith o es old u → RestsWith o (es ++ fs) new v
rests_on o es fs old new u v added written taken none holds r = record {
  records = r.records;
  holds = subst (λ (l : List ℕ). HoldsJournal new.journal v r.records l) (sym (bytes_more o es fs ∙ ap (λ (l : List ℕ). bytes_now o es ++ l) written)) (holds r.records (bytes_now o es) r.holds);
  none = none;
  images = λ before was.
      let same : images_now o (es ++ fs) ≡ images_now o es = images_then o es fs ∙ ap (λ (l : List TakenImage). images_now o es ++ l) taken ∙ append-nil (images_now o es) in
      subst (λ (l : List TakenImage). IsJoinedList r.records (before ++ l)) (sym same) (r.images before was);
}

pub stores_rest : (o : Origin) (es stores : List Event) (pages : PageStates) (old new : LifeView) (v : View) → AllByRecursion (IsOpenStore pages) stores → NoneSnapped new.pages → new.journal ≡ old.journal → RestsWith o es old v → RestsWith o (es ++ stores) new v
stores_rest o es stores pages old new v each none same =
    rests_on o es stores old new v v [] (stores_write_none pages stores each) (stores_take_none o.taking pages stores (since_now o es) each) none
    (λ rs w h. subst (λ (j : JournalView). HoldsJournal j v rs (w ++ [])) (sym same) (subst (HoldsJournal old.journal v rs) (sym (append-nil w)) h))

-- ---- an image

some_listed : (b : Bool) (w : ℕ) → is_some (cond b (Some w) None) ≡ b
some_listed true w = refl
some_listed false w = refl

-- the record that lists the runs is of the image that is taken
pub record_is : (T : Taking) (node tick : ℕ) (s : Since) (fields : Fields) (runs : List Run) (frames : List ℕ) → fields ≡ fields_at T.marks node tick s → ((c : ℕ) → in_runs runs c ≡ lists_at T s c)
    → ((c : ℕ) → word_in_runs (filled frames runs) c ≡ listed_word runs frames c) → IsOf (image_of fields runs frames) (taken_at T node tick s)
record_is T node tick s fields runs frames same lists words = record {
  fields = same;
  lists = λ c. ap is_some (words c) ∙ some_listed (in_runs runs c) (slice_index frames c) ∙ lists c;
}

-- records that were joined stand for the same images
pub joined_still : (rs qs : List Image) (images : List TakenImage) → StayOrJoin rs qs → IsJoinedList rs images → IsJoinedList qs images
joined_still rs qs images are all = ⊎_elim
    (λ same. subst (λ (l : List Image). IsJoinedList l images) (sym same) all)
    (λ joins. subst (λ (l : List Image). IsJoinedList l images) (sym joins.2) (joined_joins rs joins.0 images all joins.1)) are

-- Behind a checkpoint that is due a life keeps one image more, where its record was written behind records that may have been joined.
pub image_rests : (o : Origin) (es : List Event) (node tick : ℕ) (old new : LifeView) (u v : View) (r : Image) → is_due o.taking.every (since_now o es) tick ≡ true → IsOf r (taken_at o.taking node tick (since_now o es)) → NoneSnapped new.pages
    → ((rs : List Image) (w : List ℕ) → HoldsJournal old.journal u rs w → (qs : List Image) × StayOrJoin rs qs × HoldsJournal new.journal v (qs ++ r ∷ []) w) → RestsWith o es old u → RestsWith o (es ++ Checkpoint node tick ∷ []) new v
image_rests o es node tick old new u v r due is none saved rest =
    let s = since_now o es in
    let now = saved rest.records (bytes_now o es) rest.holds in
    record {
      records = now.0 ++ r ∷ [];
      holds = subst (λ (l : List ℕ). HoldsJournal new.journal v (now.0 ++ r ∷ []) l) (sym (bytes_more o es (Checkpoint node tick ∷ []) ∙ append-nil (bytes_now o es))) now.2;
      none = none;
      images = λ before was.
          let joined = joined_still rest.records now.0 (before ++ images_now o es) now.1 (rest.images before was) in
          let more = joined_grow now.0 r (before ++ images_now o es) (taken_at o.taking node tick s) joined is in
          let same : (before ++ images_now o es) ++ taken_at o.taking node tick s ∷ [] ≡ before ++ images_now o (es ++ Checkpoint node tick ∷ []) =
          append_assoc before (images_now o es) (taken_at o.taking node tick s ∷ [])
          ∙ ap (λ (l : List TakenImage). before ++ l) (sym (images_then o es (Checkpoint node tick ∷ []) ∙ ap (λ (l : List TakenImage). images_now o es ++ l) (taken_due o.taking node tick s due))) in
          subst (IsJoinedList (now.0 ++ r ∷ [])) same more;
    }
