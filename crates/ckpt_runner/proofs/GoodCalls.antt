-- What a life keeps stays good for its source over the calls of its journal, and at each moment of them a crash leaves a store that stands.
use Rattle.std.proofs.Common.{◌≡◌, refl, sym, ◌∙◌, ap, subst, ℕ, ◌+◌, ◌≤◌, true, IsTrue, List, [], ◌∷◌, ◌++◌, length, take, map, append_assoc, append-nil, Option, Some, None, inl, inr, ⊎_elim, arith}
use Rattle.std.proofs.lemmas.List.{length-append}
use Rattle.ckpt_base.specs.Event.{Event, Byte, Checkpoint}
use Rattle.ckpt_base.specs.Run.{output}
use Rattle.disk_model.specs.View.{View}
use Rattle.disk_model.specs.Moments.{Among, LeavesOnly}
use Rattle.disk_model.proofs.Calls.{weaken}
use Rattle.image_format.specs.declared.fields.Fields.{Fields}
use Rattle.image_format.specs.Image.{Image}
use Rattle.image_chain.specs.ChainView.{ChainView}
use Rattle.image_chain.specs.Lists.{IsAppended}
use Rattle.image_chain.specs.Memory.{memory}
use Rattle.image_chain.specs.Records.{broken_field, newest_of}
use Rattle.output_file.specs.Pushed.{Pushed, flushed}
use Rattle.output_file.specs.OnDisk.{IsOutputOn, IsOnDisk, IsBehind}
use Rattle.life_journal.specs.JournalView.{JournalView}
use Rattle.life_journal.specs.Holding.{HoldsJournal}
use Rattle.life_journal.specs.Joining.{StayOrJoin, MayBeJoined}
use Rattle.run_images.specs.Since.{is_due}
use Rattle.run_images.specs.Images.{TakenImage, taken_at}
use Rattle.run_images.specs.JoinedList.{IsOf, IsJoinedList}
use Rattle.run_images.specs.Source.{Source, images_of}
use Rattle.run_images.specs.Hold.{HoldUnwritten}
use Rattle.run_images.specs.Stands.{Stands, StandsFor, StandsWithin, StandWith}
use Rattle.run_images.specs.Origin.{Origin}
use Rattle.run_images.proofs.ChainLaws.{appended_stands, replaced_stands}
use Rattle.run_images.proofs.ImageLaws.{taken_due}
use Rattle.run_images.proofs.JoinLaws.{joined_grow}
use Rattle.run_images.proofs.OutputLaws.{grow_behind}
use Rattle.ckpt_runner.specs.Lives.{since_now}
use Rattle.ckpt_runner.specs.Keeps.{bytes_now, images_now}
use Rattle.ckpt_runner.specs.Good.{JournalStands}
use Rattle.ckpt_runner.proofs.KeptLaws.{bytes_more, images_then, bytes_take_none, bytes_write, joined_still}
use Rattle.ckpt_runner.proofs.GoodLaws.{chain_stands, within_more, stands_on}

-- where each store stands whatever comes behind the lasting bytes, it stands
pub plain_moments : (s : Source) (n : ℕ) (u v : View) → LeavesOnly u v (StandsWithin s n) → LeavesOnly u v (Stands s)
plain_moments s n u v run = weaken u v (Stands s) (StandsWithin s n) run (λ c a. a.stands)

-- ---- the output

pub behind_stand : (s : Source) (o : Origin) (es : List Event) (j : JournalView) (m : List ℕ) (u v : View) → LeavesOnly u v (Among u.may_leave (IsBehind j.output.lasting)) → JournalStands s o es j m u → LeavesOnly u v (StandsWithin s j.output.lasting)
behind_stand s o es j m u v run g =
    let n = j.output.lasting in
    let le : n ≤ n = omega arith in
    weaken u v (StandsWithin s n) (Among u.may_leave (IsBehind n)) run (λ c from. grow_behind s n n from.0 c le (g.all from.0 from.1) from.2)

-- bytes are written
pub bytes_good : (s : Source) (o : Origin) (es : List Event) (bytes : List ℕ) (j k : JournalView) (m : List ℕ) (u v : View) → IsTrue u.tells → k.chain ≡ j.chain → k.output.lasting ≡ j.output.lasting
    → ((rs : List Image) (w : List ℕ) → HoldsJournal j u rs w → HoldsJournal k v rs (w ++ bytes)) → LeavesOnly u v (Among u.may_leave (IsBehind j.output.lasting))
    → JournalStands s o es j m u → JournalStands s o (es ++ map Byte bytes) k m v
bytes_good s o es bytes j k m u v told chain lasting holds run g =
    stands_on s o es (map Byte bytes) j k m m u v bytes (bytes_write bytes) (bytes_take_none o.taking bytes (since_now o es)) (λ c not. refl)
    (ap (λ (x : ChainView). x.current.every) chain) (omega (arith, lasting)) holds
    (λ c left. subst (λ (n : ℕ). StandsWithin s n c) (sym lasting) ((behind_stand s o es j m u v run g).now told c left)) g

-- the output is made lasting
pub flush_good : (s : Source) (o : Origin) (es : List Event) (j k : JournalView) (m : List ℕ) (u v : View) → IsTrue u.tells → k.chain ≡ j.chain → k.output ≡ flushed j.output
    → ((rs : List Image) (w : List ℕ) → HoldsJournal j u rs w → HoldsJournal k v rs w × IsOnDisk w v) → LeavesOnly u v (Among u.may_leave (IsBehind j.output.lasting))
    → JournalStands s o es j m u → JournalStands s o es k m v
flush_good s o es j k m u v told chain all holds run g =
    let lasts : k.output.lasting ≡ j.output.written + length j.output.waiting = ap (λ (x : Pushed). x.lasting) all in
    let within : j.output.lasting ≤ j.output.written = g.holds.output.within in
    let more : j.output.lasting ≤ k.output.lasting = omega (arith, lasts, within) in
    subst (λ (l : List Event). JournalStands s o l k m v) (append-nil es)
    (stands_on s o es [] j k m m u v [] refl refl (λ c not. refl) (ap (λ (x : ChainView). x.current.every) chain) more
    (λ rs w h. subst (HoldsJournal k v rs) (sym (append-nil w)) (holds rs w h).0)
    (λ c left. within_more s j.output.lasting k.output.lasting c more ((behind_stand s o es j m u v run g).now told c left)) g)

-- then all bytes last
pub flushed_lasts : (p o : Pushed) (v : View) (bytes : List ℕ) → o ≡ flushed p → IsOutputOn o v bytes → o.lasting ≡ length bytes
flushed_lasts p o v bytes e h =
    let all : length bytes ≡ length v.seen.output + length o.waiting = ap length h.reads ∙ length-append v.seen.output o.waiting in
    let lasting : o.lasting ≡ p.written + length p.waiting = ap (λ (x : Pushed). x.lasting) e in
    let written : o.written ≡ p.written + length p.waiting = ap (λ (x : Pushed). x.written) e in
    let waiting : length o.waiting ≡ 0 = ap (λ (x : Pushed). length x.waiting) e in
    omega (arith, all, lasting, written, waiting, h.written)

-- ---- a joining

none_some : (x : Fields) → None ≡ Some x → ⊥
none_some x e = cc

same_newest : (rs qs : List Image) → StayOrJoin rs qs → newest_of None qs ≡ newest_of None rs
same_newest rs qs are = ⊎_elim (λ same. ap (newest_of None) same) (λ joins. ap (newest_of None) joins.2 ∙ sym joins.1.fields) are

same_words : (rs qs : List Image) → StayOrJoin rs qs → (c : ℕ) → memory qs c ≡ memory rs c
same_words rs qs are c = ⊎_elim (λ same. ap (λ (l : List Image). memory l c) same) (λ joins. ap (λ (l : List Image). memory l c) joins.2 ∙ joins.1.words c) are

-- records that were joined stand as they did
joined_for : (s : Source) (every : ℕ) (rs qs : List Image) (file : List ℕ) → StayOrJoin rs qs → StandsFor s every rs file → StandsFor s every qs file
joined_for s every rs qs file are a = record {
  newest = a.newest;
  newest_is = same_newest rs qs are ∙ a.newest_is;
  joined = joined_still rs qs (images_of s every a.newest.steps) are a.joined;
  begins = a.begins;
  words = λ c lt kept. same_words rs qs are c ∙ a.words c lt kept;
  spaced = a.spaced;
}

joined_with : (s : Source) (every n : ℕ) (bytes : List ℕ) (rs qs : List Image) → StayOrJoin rs qs → StandWith s every n bytes rs → StandWith s every n bytes qs
joined_with s every n bytes rs qs are (inr a) = inr (joined_for s every rs qs (take n bytes) are a)
joined_with s every n bytes rs qs are (inl none) = ⊎_elim (λ same. inl (same ∙ none)) (λ joins. absurd (none_some joins.0.fields (ap (newest_of None) (sym none) ∙ joins.1.fields))) are

pub room_stand : (s : Source) (o : Origin) (es : List Event) (j : JournalView) (m : List ℕ) (u v : View)
    → ((rs : List Image) (w : List ℕ) → HoldsJournal j u rs w → LeavesOnly u v (Among u.may_leave (MayBeJoined j.chain.current rs))) → JournalStands s o es j m u → LeavesOnly u v (StandsWithin s j.output.lasting)
room_stand s o es j m u v run g =
    let n = j.output.lasting in
    let bytes = bytes_now o es in
    weaken u v (StandsWithin s n) (Among u.may_leave (MayBeJoined j.chain.current g.records)) (run g.records bytes g.holds)
    (λ c from. ⊎_elim (λ same. subst (StandsWithin s n) (sym same) (g.all from.0 from.1))
    (λ joins. replaced_stands s n bytes j.chain.current g.records from.0 c (chain_stands s o es j m u g from.0 from.1) joins.0 joins.1 joins.2) from.2)

-- room is made
pub room_good : (s : Source) (o : Origin) (es : List Event) (j k : JournalView) (m : List ℕ) (u v : View) → IsTrue u.tells → k.output ≡ j.output → k.chain.current.every ≡ j.chain.current.every
    → ((rs : List Image) (w : List ℕ) → HoldsJournal j u rs w → (qs : List Image) × StayOrJoin rs qs × HoldsJournal k v qs w)
    → ((rs : List Image) (w : List ℕ) → HoldsJournal j u rs w → LeavesOnly u v (Among u.may_leave (MayBeJoined j.chain.current rs))) → JournalStands s o es j m u → JournalStands s o es k m v
room_good s o es j k m u v told output every holds run g =
    let now = holds g.records (bytes_now o es) g.holds in
    let qs = now.0 in
    let are = now.1 in
    let lasting : k.output.lasting ≡ j.output.lasting = ap (λ (x : Pushed). x.lasting) output in
    record {
      every = every ∙ g.every;
      records = qs;
      holds = now.2;
      images = joined_still g.records qs (images_of s o.taking.every o.state.ticks ++ images_now o es) are g.images;
      held = λ f c newest lt fresh kept. same_words g.records qs are c ∙ g.held f c (sym (same_newest g.records qs are) ∙ newest) lt fresh kept;
      stand = subst (λ (n : ℕ). StandWith s o.taking.every n (bytes_now o es) qs) (sym lasting) (joined_with s o.taking.every j.output.lasting (bytes_now o es) g.records qs are g.stand);
      all = λ c left. subst (λ (n : ℕ). StandsWithin s n c) (sym lasting) ((room_stand s o es j m u v run g).now told c left);
    }

-- ---- an image

pub save_stand : (s : Source) (o : Origin) (es : List Event) (j : JournalView) (m : List ℕ) (u v : View) (r : Image) → (g : JournalStands s o es j m u) → broken_field j.chain.current.newest r.fields ≡ None → StandsFor s o.taking.every (g.records ++ r ∷ []) (take j.output.lasting (bytes_now o es))
    → ((rs : List Image) (w : List ℕ) → HoldsJournal j u rs w → LeavesOnly u v (Among u.may_leave (IsAppended j.chain.current rs r))) → LeavesOnly u v (StandsWithin s j.output.lasting)
save_stand s o es j m u v r g follows ready run =
    let n = j.output.lasting in
    let bytes = bytes_now o es in
    let rs = g.records in
    let newest : j.chain.current.newest ≡ newest_of None rs = g.holds.rests.1.1.keeps.newest in
    let behind : broken_field (newest_of None rs) r.fields ≡ None = ap (λ (f : Option Fields). broken_field f r.fields) (sym newest) ∙ follows in
    let more : StandWith s j.chain.current.every n bytes (rs ++ r ∷ []) = subst (λ (e : ℕ). StandWith s e n bytes (rs ++ r ∷ [])) (sym g.every) (inr ready) in
    weaken u v (StandsWithin s n) (Among u.may_leave (IsAppended j.chain.current rs r)) (run rs bytes g.holds)
    (λ c from. appended_stands s n bytes j.chain.current rs from.0 c (chain_stands s o es j m u g from.0 from.1) r behind more from.2)

-- an image is saved, with records that stand and hold the memory
pub save_good : (s : Source) (o : Origin) (es : List Event) (node tick : ℕ) (j k : JournalView) (m : List ℕ) (u v : View) (r : Image) → (g : JournalStands s o es j m u) → IsTrue u.tells → is_due o.taking.every (since_now o es) tick ≡ true → IsOf r (taken_at o.taking node tick (since_now o es))
    → broken_field j.chain.current.newest r.fields ≡ None → StandsFor s o.taking.every (g.records ++ r ∷ []) (take j.output.lasting (bytes_now o es)) → HoldUnwritten s (since_now o (es ++ Checkpoint node tick ∷ [])) (g.records ++ r ∷ []) m
    → k.output ≡ j.output → k.chain.current.every ≡ j.chain.current.every → ((rs : List Image) (w : List ℕ) → HoldsJournal j u rs w → HoldsJournal k v (rs ++ r ∷ []) w)
    → ((rs : List Image) (w : List ℕ) → HoldsJournal j u rs w → LeavesOnly u v (Among u.may_leave (IsAppended j.chain.current rs r))) → JournalStands s o (es ++ Checkpoint node tick ∷ []) k m v
save_good s o es node tick j k m u v r g told due is follows ready held output every holds run =
    let rs = g.records in
    let before = images_of s o.taking.every o.state.ticks in
    let passed = Checkpoint node tick ∷ [] in
    let image = taken_at o.taking node tick (since_now o es) in
    let lasting : k.output.lasting ≡ j.output.lasting = ap (λ (x : Pushed). x.lasting) output in
    let bytes : bytes_now o (es ++ passed) ≡ bytes_now o es = bytes_more o es passed ∙ append-nil (bytes_now o es) in
    let images : (before ++ images_now o es) ++ image ∷ [] ≡ before ++ images_now o (es ++ passed) =
    append_assoc before (images_now o es) (image ∷ [])
    ∙ ap (λ (l : List TakenImage). before ++ l) (sym (images_then o es passed ∙ ap (λ (l : List TakenImage). images_now o es ++ l) (taken_due o.taking node tick (since_now o es) due))) in
    record {
      every = every ∙ g.every;
      records = rs ++ r ∷ [];
      holds = subst (HoldsJournal k v (rs ++ r ∷ [])) (sym bytes) (holds rs (bytes_now o es) g.holds);
      images = subst (IsJoinedList (rs ++ r ∷ [])) images (joined_grow rs r (before ++ images_now o es) image g.images is);
      held = held;
      stand = subst (λ (l : List ℕ). StandWith s o.taking.every k.output.lasting l (rs ++ r ∷ [])) (sym bytes) (subst (λ (n : ℕ). StandWith s o.taking.every n (bytes_now o es) (rs ++ r ∷ [])) (sym lasting) (inr ready));
      all = λ c left. subst (λ (n : ℕ). StandsWithin s n c) (sym lasting) ((save_stand s o es j m u v r g follows ready run).now told c left);
    }
