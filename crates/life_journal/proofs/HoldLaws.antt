-- What a journal holds goes on from call to call.
use Rattle.std.proofs.Common.{◌≡◌, ◌<◌, ◌≤◌, refl, sym, ◌∙◌, ap, subst, inl, inr, ℕ, List, [], ◌∷◌, ◌++◌, IsTrue, Option, None, Ok, arith}
use Rattle.std.specs.Option.{option_or}
use Rattle.disk_model.specs.declared.disk_file.DiskFile.TheVariants.{Output, One, Two}
use Rattle.disk_model.specs.Store.{Store}
use Rattle.disk_model.specs.View.{View, IsDisk, SameFile}
use Rattle.disk_model.specs.Moments.{Among, LeavesOnly}
use Rattle.disk_model.proofs.Calls.{still, joined, weaken}
use Rattle.image_format.specs.Image.{Image, word_in_runs}
use Rattle.image_chain.specs.ChainView.{ChainView}
use Rattle.image_chain.specs.declared.chain.Current.{Current}
use Rattle.image_chain.specs.Lists.{Rests, HasNone}
use Rattle.image_chain.specs.Memory.{Joined, kept_word}
use Rattle.image_chain.specs.Records.{chain_in}
use Rattle.image_chain.specs.Replace.{StandsOnOther, IsReplaced}
use Rattle.image_chain.proofs.KeptLaws.{memory_push}
use Rattle.image_chain.proofs.OpenLaws.{none_stays}
use Rattle.image_format.specs.declared.header.Header.{Header}
use Rattle.coalesce.specs.Join.{IsContent, Joins}
use Rattle.output_file.specs.Pushed.{Pushed}
use Rattle.output_file.specs.OnDisk.{IsOutputOn, IsBehind}
use Rattle.life_journal.specs.JournalView.{JournalView}
use Rattle.life_journal.specs.Holding.{HoldsJournal}
use Rattle.life_journal.specs.Joining.{StayOrJoin, MayBeJoined}
use Rattle.life_journal.specs.Begun.{HasNoChain}
use Rattle.life_journal.proofs.BesideLaws.{rests_beside, output_beside}

-- ---- the output

pub output_grows : (j k : JournalView) (u v : View) (added : List ℕ) → k.chain ≡ j.chain → k.kept ≡ j.kept → (IsTrue u.tells → SameFile One u v × SameFile Two u v)
    → (IsTrue u.tells → (w : List ℕ) → IsOutputOn j.output u w → IsOutputOn k.output v (w ++ added)) → IsTrue u.tells → (rs : List Image) (w : List ℕ) → HoldsJournal j u rs w → HoldsJournal k v rs (w ++ added)
output_grows j k u v added chain kept same answer tells rs w h = record {
  rests = subst (λ (x : ChainView). Rests x v rs) (sym chain) (rests_beside j.chain u v rs (same tells) h.rests);
  content = subst (λ (x : Joined). IsContent x rs) (sym kept) h.content;
  output = answer tells w h.output;
}

pub output_lasts : (j k : JournalView) (u v : View) → k.chain ≡ j.chain → k.kept ≡ j.kept → (IsTrue u.tells → SameFile One u v × SameFile Two u v)
    → (IsTrue u.tells → (w : List ℕ) → IsOutputOn j.output u w → IsOutputOn k.output v w) → IsTrue u.tells → (rs : List Image) (w : List ℕ) → HoldsJournal j u rs w → HoldsJournal k v rs w
output_lasts j k u v chain kept same answer tells rs w h = record {
  rests = subst (λ (x : ChainView). Rests x v rs) (sym chain) (rests_beside j.chain u v rs (same tells) h.rests);
  content = subst (λ (x : Joined). IsContent x rs) (sym kept) h.content;
  output = answer tells w h.output;
}

-- ---- joining

joined_content : (kept : Joined) (rs : List Image) (r : Image) → IsContent kept rs → Joins rs r → IsContent kept (r ∷ [])
joined_content kept rs r content joins = λ c. content c ∙ sym (joins.words c)

pub joined_holds : (j k : JournalView) (u v : View) (rs : List Image) (w : List ℕ) (r : Image) → k.kept ≡ j.kept → k.output ≡ j.output → SameFile Output u v → Joins rs r → Rests k.chain v (r ∷ []) → HoldsJournal j u rs w
    → (qs : List Image) × StayOrJoin rs qs × HoldsJournal k v qs w
joined_holds j k u v rs w r kept output same joins rests h = (
  r ∷ [],
  inr (r, joins, refl),
  record {
    rests = rests;
    content = subst (λ (x : Joined). IsContent x (r ∷ [])) (sym kept) (joined_content j.kept rs r h.content joins);
    output = subst (λ (o : Pushed). IsOutputOn o v w) (sym output) (output_beside j.output u v w same h.output);
  },
)

pub unjoined_holds : (j : JournalView) (u : View) (rs : List Image) (w : List ℕ) → HoldsJournal j u rs w → (qs : List Image) × StayOrJoin rs qs × HoldsJournal j u qs w
unjoined_holds j u rs w h = (rs, inl refl, h)

pub unjoined_moments : (u : View) (chain : Current) (rs : List Image) → (IsTrue u.tells → IsDisk u) → (IsTrue u.tells_past → IsTrue u.tells) → LeavesOnly u u (Among u.may_leave (MayBeJoined chain rs))
unjoined_moments u chain rs lawful both = still u (Among u.may_leave (MayBeJoined chain rs)) lawful both (λ _ c left. (c, left, inl refl))

pub joined_moments : (u v : View) (chain : Current) (rs : List Image) (r : Image) → Joins rs r → LeavesOnly u v (Among u.may_leave (IsReplaced chain rs r)) → LeavesOnly u v (Among u.may_leave (MayBeJoined chain rs))
joined_moments u v chain rs r joins run = weaken u v (Among u.may_leave (MayBeJoined chain rs)) (Among u.may_leave (IsReplaced chain rs r)) run (λ c from. (from.0, from.1, inr (r, joins, from.2)))

-- a chain that was joined has room for a record
pub joined_room : (old new : ChainView) → 2 ≤ old.current.max → StandsOnOther old.current new.current → new.current.count < new.current.max
joined_room old new least took = let count = took.count in let max : new.current.max ≡ old.current.max = ap (λ (h : Header). h.max) took.header in omega (arith, count, max, least)

pub joined_every : (old new : ChainView) → StandsOnOther old.current new.current → new.current.every ≡ old.current.every
joined_every old new took = ap (λ (h : Header). h.every) took.header

pub full_has_two : (chain : ChainView) → 2 ≤ chain.current.max → chain.current.max ≤ chain.current.count → 2 ≤ chain.current.count
full_has_two chain least full = omega (arith, full, least)

-- ---- a record more

pub saved_holds : (j k : JournalView) (u v : View) (rs : List Image) (w : List ℕ) (r : Image) → k.output ≡ j.output → SameFile Output u v → Rests k.chain v (rs ++ r ∷ []) → ((c : ℕ) → kept_word k.kept c ≡ option_or (word_in_runs r.runs c) (kept_word j.kept c))
    → HoldsJournal j u rs w → HoldsJournal k v (rs ++ r ∷ []) w
saved_holds j k u v rs w r output same rests words h = record {
  rests = rests;
  content = λ c. words c ∙ ap (λ (o : Option ℕ). option_or (word_in_runs r.runs c) o) (h.content c) ∙ sym (memory_push rs r c);
  output = subst (λ (o : Pushed). IsOutputOn o v w) (sym output) (output_beside j.output u v w same h.output);
}

-- ---- beginning

cut_none : (n : ℕ) (a b : Store) → chain_in a ≡ Ok None → IsBehind n a b → chain_in b ≡ Ok None
cut_none n a b none behind = none_stays a b none (record { one = behind.one; two = behind.two })

pub none_behind : (u v : View) (n : ℕ) → ((c : Store) → u.may_leave c → chain_in c ≡ Ok None) → LeavesOnly u v (Among u.may_leave (IsBehind n)) → LeavesOnly u v HasNoChain
none_behind u v n none run = weaken u v HasNoChain (Among u.may_leave (IsBehind n)) run (λ c from. cut_none n from.0 c (none from.0 from.1) from.2)

pub none_started : (u v w : View) → IsTrue u.tells → LeavesOnly u v HasNoChain → LeavesOnly v w (Among v.may_leave HasNone) → LeavesOnly u w HasNoChain
none_started u v w tells first second = joined u v w HasNoChain (Among v.may_leave HasNone) (λ _. tells) first second (λ t c from. from.2.0)

pub none_left : (u v : View) → IsTrue u.tells → LeavesOnly u v HasNoChain → (c : Store) → v.may_leave c → chain_in c ≡ Ok None
none_left u v tells run c left = run.now tells c left

pub begun_holds : (j : JournalView) (v w : View) (bytes : List ℕ) → bytes ≡ [] → ((c : ℕ) → kept_word j.kept c ≡ None) → Rests j.chain w [] → SameFile Output v w → IsOutputOn j.output v bytes → HoldsJournal j w [] []
begun_holds j v w bytes none empty rests same on = record {
  rests = rests;
  content = empty;
  output = subst (IsOutputOn j.output w) none (output_beside j.output v w bytes same on);
}
