-- How a life starts on a store between two lives.
use Rattle.std.proofs.Common.{◌≡◌, refl, sym, ◌∙◌, ap, subst, ℕ, ◌≤◌, le_of_eq, IsTrue, List, [], ◌∷◌, ◌++◌, Option, Some, None, Result, Ok, arith}
use Rattle.disk_model.specs.Store.{Store}
use Rattle.disk_model.specs.View.{View, IsDisk}
use Rattle.image_format.specs.declared.fields.Fields.{Fields}
use Rattle.image_format.specs.Image.{Image}
use Rattle.image_chain.specs.declared.chain.Current.{Current}
use Rattle.image_chain.specs.Append.{header_of}
use Rattle.image_chain.specs.Lists.{Lists, found_of}
use Rattle.image_chain.specs.Records.{Damage, Found, chain_in, newest_of}
use Rattle.run_images.specs.Images.{TakenImage}
use Rattle.run_images.specs.JoinedList.{IsJoinedList}
use Rattle.run_images.specs.Later.{IsLater}
use Rattle.run_images.specs.Origin.{Origin}
use Rattle.run_images.specs.Source.{Source, images_of}
use Rattle.run_images.specs.Stands.{Stands, StandsFor}
use Rattle.run_images.proofs.JoinLaws.{joined_newest}
use Rattle.run_images.proofs.StandLaws.{kept_stands}
use Rattle.ckpt_runner.specs.declared.started.Started.{Started}
use Rattle.ckpt_runner.specs.declared.started.Started.TheVariants.{Begun, Resumed}
use Rattle.ckpt_runner.specs.Opening.{Given, Opens}
use Rattle.drilled_lives.specs.Courses.{IsNewestImage, StartsBehind, StartsInRun, IsNoEarlier, Known, Fresh, Within, Unknown, StartsAsKnown, StartsAfter}
use Rattle.drilled_lives.specs.Between.{IsSpacedBy, HasImages, HasOneChain, HoldsStart, HoldsKnown, IsBetween}
use Rattle.drilled_lives.specs.Going.{LosesNone}

-- ---- answers on a chain

some_same : {X : Type 0} (x y : X) → Some x ≡ Some y → x ≡ y
some_same x y e = cc

not_some : {X : Type 0} (x : X) → None ≡ Some x → ⊥
not_some x e = cc

not_both : (r : Result (Option Found) Damage) (f : Found) → r ≡ Ok None → r ≡ Ok (Some f) → ⊥
not_both r f a b = cc

one_found : (r : Result (Option Found) Damage) (f g : Found) → r ≡ Ok (Some f) → r ≡ Ok (Some g) → f ≡ g
one_found r f g a b = cc

-- ---- images

-- the newest record is of the newest image
newest_image : (s : Source) (every n : ℕ) (rs : List Image) (f : Fields) (image step : ℕ) → newest_of None rs ≡ Some f → IsJoinedList rs (images_of s every n) → image ≡ f.number → step ≡ f.steps → IsNewestImage s every n image step
newest_image s every n [] f image step newest joined number steps = absurd (not_some f newest)
newest_image s every n (r ∷ rs) f image step newest joined number steps =
    let last = joined_newest r rs (images_of s every n) joined in
    let same : last.image.fields ≡ f = some_same last.image.fields f (sym last.fields ∙ newest) in
    (last.front, last.image, last.split, ap (λ (x : Fields). x.number) same ∙ sym number, ap (λ (x : Fields). x.steps) same ∙ sym steps)

none_found : (r : Result (Option Found) Damage) (chain : Current) (rs : List Image) (images : List TakenImage) → IsJoinedList rs images → r ≡ Ok (found_of chain.file (header_of chain) rs) → r ≡ Ok None → images ≡ []
none_found r chain [] images joined a b = joined
none_found r chain (x ∷ rs) images joined a b = absurd (not_both r (record { file = chain.file; header = header_of chain; records = x ∷ rs }) b a)

found_records : (r : Result (Option Found) Damage) (chain : Current) (rs : List Image) (found : Found) → r ≡ Ok (found_of chain.file (header_of chain) rs) → r ≡ Ok (Some found) → found.records ≡ rs
found_records r chain [] found a b = absurd (not_both r found a b)
found_records r chain (x ∷ rs) found a b = ap (λ (y : Found). y.records) (one_found r found (record { file = chain.file; header = header_of chain; records = x ∷ rs }) b a)

-- a life on a store with these images starts behind them
pub starts_behind : (g : Given) (s : Source) (every n : ℕ) (v : View) (started : Started) (o : Origin) → HasImages s every n v → Opens g v.seen started o → StartsBehind s every n started
starts_behind g s every n v Begun o images opens = none_found (chain_in v.seen) images.1.0 images.0 (images_of s every n) images.2 images.1.1 opens.0
starts_behind g s every n v (Resumed image step) o images opens =
    let found = opens.0 in
    let newest = opens.1 in
    let has = opens.2.has in
    let same : found.records ≡ images.0 = found_records (chain_in v.seen) images.1.0 images.0 found images.1.1 has.chain in
    newest_image s every n images.0 newest image step (ap (newest_of None) (sym same) ∙ has.newest_is) images.2 opens.4 opens.5

-- ---- a start

module _ (g : Given) (s : Source) (spaced : IsSpacedBy s g.every) (v : View) (stands : Stands s v.seen) where
  pub starts_in_run : (started : Started) (o : Origin) → Opens g v.seen started o → StartsInRun s g.every g.until started
  starts_in_run Begun o opens = tt
  starts_in_run (Resumed image step) o opens =
      let found = opens.0 in
      let newest = opens.1 in
      let has = opens.2.has in
      let stand : StandsFor s found.header.every found.records v.seen.output = kept_stands s v.seen found stands has.chain in
      let every_is : found.header.every ≡ g.every = spaced found.header.every stand.spaced in
      let same : stand.newest ≡ newest = some_same stand.newest newest (sym stand.newest_is ∙ has.newest_is) in
      let steps_are : stand.newest.steps ≡ step = ap (λ (x : Fields). x.steps) same ∙ sym opens.5 in
      let joined : IsJoinedList found.records (images_of s g.every step) =
      subst (λ e. IsJoinedList found.records (images_of s e step)) every_is (subst (λ n. IsJoinedList found.records (images_of s found.header.every n)) steps_are stand.joined) in
      (subst (λ n. n ≤ g.until) (sym opens.5) opens.3, newest_image s g.every step found.records newest image step has.newest_is joined opens.4 opens.5)

no_earlier : (g : Given) (v : View) (latest started : Started) (o : Origin) → v.may_leave v.seen → HoldsStart latest v → Opens g v.seen started o → IsNoEarlier latest started
no_earlier g v Begun started o stays held opens = tt
no_earlier g v (Resumed i k) Begun o stays held opens = let was = held v.seen stays in not_both (chain_in v.seen) was.found opens.0 was.chain
no_earlier g v (Resumed i k) (Resumed image step) o stays held opens =
    let was = held v.seen stays in
    let has = opens.2.has in
    let same : was.found ≡ opens.0 = one_found (chain_in v.seen) was.found opens.0 was.chain has.chain in
    let newest : was.newest ≡ opens.1 = some_same was.newest opens.1 (sym was.newest_is ∙ ap (λ (x : Found). newest_of None x.records) same ∙ has.newest_is) in
    subst (λ n. i ≤ n) (ap (λ (x : Fields). x.number) newest ∙ sym opens.4) was.later

as_known : (g : Given) (s : Source) (every : ℕ) (known : Known) (v : View) (started : Started) (o : Origin) → HoldsKnown s every known v → Opens g v.seen started o → StartsAsKnown s every known started
as_known g s every Fresh v Begun o held opens = refl
as_known g s every Fresh v (Resumed image step) o held opens = absurd (let has = opens.2.has in not_both (chain_in v.seen) opens.0 held has.chain)
as_known g s every (Within n) v started o held opens = starts_behind g s every n v started o held opens
as_known g s every Unknown v started o held opens = tt

pub starts_after : (g : Given) (s : Source) (latest : Started) (known : Known) (v : View) (started : Started) (o : Origin) → IsSpacedBy s g.every → IsDisk v → IsBetween s g.every latest known v → Opens g v.seen started o → StartsAfter s g.every g.until latest known started
starts_after g s latest known v started o spaced disk between opens = record {
  in_run = starts_in_run g s spaced v (between.stand v.seen disk.seen_stays) started o opens;
  no_earlier = no_earlier g v latest started o disk.seen_stays between.latest_held opens;
  as_known = as_known g s g.every known v started o between.known_held opens;
}

-- ---- what is held of the start

-- every crash on the store that was opened leaves the image of the start
pub start_held : (g : Given) (v : View) (started : Started) (o : Origin) → HasOneChain v → Opens g v.seen started o → HoldsStart started v
start_held g v Begun o one opens = tt
start_held g v (Resumed image step) o one opens = λ c left.
    let has = opens.2.has in
    record { found = opens.0; chain = one c left ∙ has.chain; newest = opens.1; newest_is = has.newest_is; later = le_of_eq opens.4 }

pub start_kept : (started : Started) (v w : View) → IsTrue v.tells → LosesNone v w → HoldsStart started v → HoldsStart started w
start_kept Begun v w told keeps held = tt
start_kept (Resumed image step) v w told keeps held = keeps told image held
