-- A chain that is settled, and joined where it has two records or more.
use Rattle.std.proofs.Common.{◌≡◌, refl, sym, ◌∙◌, ap, subst, ℕ, ◌+◌, ◌<◌, ◌≤◌, IsTrue, inl, inr, ⊎_elim, List, [], ◌∷◌, length, Option, Some, Ok, arith}
use Rattle.disk_model.specs.declared.disk_file.DiskFile.{DiskFile}
use Rattle.disk_model.specs.Store.{Store, file_of}
use Rattle.disk_model.specs.View.{View, IsDisk}
use Rattle.disk_model.specs.Moments.{Among, LeavesOnly}
use Rattle.disk_model.proofs.Calls.{joined, weaken}
use Rattle.image_format.specs.declared.header.Header.{Header}
use Rattle.image_format.specs.Image.{Image}
use Rattle.image_chain.specs.Append.{chained_length, header_of, other}
use Rattle.image_chain.specs.ChainView.{ChainView}
use Rattle.image_chain.specs.Lists.{Lists, Rests, IsKept, IsSettled, found_of}
use Rattle.image_chain.specs.Records.{Found, chain_in}
use Rattle.image_chain.specs.Replace.{StandsOnOther, IsReplaced, next_header}
use Rattle.image_chain.proofs.FoundLaws.{found_there}
use Rattle.image_chain.proofs.LoopLaws.{rest_lists}
use Rattle.coalesce.specs.Join.{Joins}
use Rattle.run_images.proofs.OutputLaws.{lists_same}
use Rattle.run_images.proofs.StandLaws.{same_found}
use Rattle.store_upkeep.specs.declared.coalesced.Coalesced.{Coalesced}
use Rattle.store_upkeep.specs.declared.coalesced.Coalesced.TheVariants.{NoChain, OneRecord, Joined}
use Rattle.store_upkeep.specs.Coalescing.{HasRecords, JoinsChain, IsSettledIn, IsCoalesced, AllCoalesced, IsCoalescing, OnlyChainFile, LeavesAlone}

some_found : (f : DiskFile) (h : Header) (rs : List Image) → 1 ≤ length rs → found_of f h rs ≡ Some (record { file = f; header = h; records = rs })
some_found f h [] some = absurd (omega (arith, some))
some_found f h (r ∷ rs) some = refl

-- the chain that was opened, with its records on this disk
module _ (chain : ChainView) (rs : List Image) (v : View) (some : 1 ≤ chain.current.count) (rests : Rests chain v rs) where
  abbrev here : Found
  here = record { file = chain.current.file; header = header_of chain.current; records = rs }

  pub long : 1 ≤ length rs
  long = let k = rests.1.1.keeps.count in omega (arith, k, some)

  listed_here : (c : Store) → Lists chain.current rs c → chain_in c ≡ Ok (Some here)
  listed_here c lists = lists ∙ ap (λ (o : Option Found). Ok o) (some_found chain.current.file (header_of chain.current) rs long)

  pub listed : (c : Store) → v.may_leave c → chain_in c ≡ Ok (Some here)
  listed c left = listed_here c (rest_lists chain.current v rs rests.1.0 rests.1.1 c left)

  has : (n : ℕ) → IsDisk v → chain.current.count ≡ n → HasRecords n v.seen here
  has n disk count = record { chain = listed v.seen disk.seen_stays; count = sym rests.1.1.keeps.count ∙ count }

  module _ (w : View) (run : LeavesOnly v w (Among v.may_leave (IsKept chain.current rs))) where
    -- each moment of the settling
    pub settle_moments : IsDisk v → LeavesOnly v w (Among v.may_leave (IsCoalescing v.seen))
    settle_moments disk =
        weaken v w (Among v.may_leave (IsCoalescing v.seen)) (Among v.may_leave (IsKept chain.current rs)) run
        (λ c from. (from.0, from.1, record { output = from.2.1.output; chain = inr (here, listed v.seen disk.seen_stays, inl (listed_here c from.2.0)) }))

    -- in which only its file is changed
    pub settle_alone : IsDisk v → LeavesOnly v w (Among v.may_leave (OnlyChainFile v.seen))
    settle_alone disk =
        weaken v w (Among v.may_leave (OnlyChainFile v.seen)) (Among v.may_leave (IsKept chain.current rs)) run
        (λ c from. (
          from.0,
          from.1,
          record {
            output = from.2.1.output;
            aside = λ was is.
                let same : here ≡ was = same_found (chain_in v.seen) here was (listed v.seen disk.seen_stays) is in
                subst (λ (x : Found). file_of (other x.file) c ≡ file_of (other x.file) from.0) same from.2.1.aside;
          },
        ))

    -- and of the joining behind it
    pub join_moments : (image : Image) (x : View) → IsTrue v.tells → IsDisk v → Joins rs image → LeavesOnly w x (Among w.may_leave (IsReplaced chain.current rs image)) → LeavesOnly v x (Among v.may_leave (IsCoalescing v.seen))
    join_moments image x told disk joins second =
        let first = settle_moments disk in
        let next : Found = record { file = other chain.current.file; header = next_header chain.current; records = image ∷ [] } in
        let one : JoinsChain here next = record { file = refl; header = refl; image = image; joins = joins; records = refl } in
        joined v w x (Among v.may_leave (IsCoalescing v.seen)) (Among w.may_leave (IsReplaced chain.current rs image)) (λ _. told) first second
        (λ _ c from.
        let was = first.now told from.0 from.1 in (
          was.0,
          was.1,
          record {
            output = from.2.1.output ∙ was.2.output;
            chain = inr (here, listed v.seen disk.seen_stays, ⊎_elim (λ a. inl (listed_here c a.0)) (λ b. inr (next, one, b)) from.2.0);
          },
        ))

  -- where it is settled
  module _ (w : View) (still : Rests chain w rs) (settled : IsSettled chain w) where
    still_listed : (c : Store) → w.may_leave c → chain_in c ≡ Ok (Some here)
    still_listed c left = listed_here c (rest_lists chain.current w rs still.1.0 still.1.1 c left)

    is_settled : (c : Store) → w.may_leave c → IsSettledIn here c
    is_settled c left =
        let a = still.1.1 in
        let same : file_of chain.current.file c ≡ file_of chain.current.file w.seen = a.left c left ∙ sym a.reads in
        let size : length (file_of chain.current.file c) ≡ length (file_of chain.current.file w.seen) = ap (λ (l : List ℕ). length l) same in
        let gate : chain.current.gate ≡ 15 + chained_length rs = a.keeps.gate in
        record { lists = (found_there c here (still_listed c left)).lists; ends = omega (arith, size, gate, settled) }

    pub one_record : (n : ℕ) → IsDisk v → IsDisk w → n ≡ chain.current.count → n < 2 → AllCoalesced OneRecord v w
    one_record n disk now count few = record { reads = at w.seen now.seen_stays; left = at }
      where
        at : (c : Store) → w.may_leave c → IsCoalesced OneRecord v.seen c
        at c left = (here, has 1 disk (omega (arith, count, few, some)), is_settled c left, still_listed c left)

    pub joined_records : (n : ℕ) (after : ChainView) (image : Image) (x : View) → IsDisk v → IsTrue w.tells → IsDisk x → n ≡ chain.current.count → 2 ≤ n → Joins rs image → LeavesOnly w x (Among w.may_leave (IsReplaced chain.current rs image)) → StandsOnOther chain.current after.current
        → Rests after x (image ∷ []) → AllCoalesced (Joined n) v x
    joined_records n after image x disk told now count many joins run took stands = record { reads = at x.seen now.seen_stays; left = at }
      where
        next : Found
        next = record { file = after.current.file; header = header_of after.current; records = image ∷ [] }

        one : JoinsChain here next
        one = record { file = took.file; header = took.header; image = image; joins = joins; records = refl }

        at : (c : Store) → x.may_leave c → IsCoalesced (Joined n) v.seen c
        at c left =
            let from = run.now told c left in
            let was = is_settled from.0 from.1 in
            let same : length (file_of chain.current.file c) ≡ length (file_of chain.current.file from.0) = ap (λ (l : List ℕ). length l) from.2.1.current in
            let kept : IsSettledIn here c = record { lists = lists_same chain.current.file from.0 c (sym from.2.1.current) here.header rs was.lists; ends = same ∙ was.ends } in
            (here, has n disk (sym count), many, kept, (next, one, rest_lists after.current x (image ∷ []) stands.1.0 stands.1.1 c left))

-- ---- behind the calls that opened the chain

pub opened_coalesced : (done : Coalesced) (u v x : View) → v.seen ≡ u.seen → AllCoalesced done v x → AllCoalesced done u x
opened_coalesced done u v x seen a = record {
  reads = subst (λ (s : Store). IsCoalesced done s x.seen) seen a.reads;
  left = λ c left. subst (λ (s : Store). IsCoalesced done s c) seen (a.left c left);
}

pub opened_moments : (u v : View) → LeavesOnly u v u.may_leave → LeavesOnly u v (Among u.may_leave (IsCoalescing u.seen))
opened_moments u v run = weaken u v (Among u.may_leave (IsCoalescing u.seen)) u.may_leave run (λ c left. (c, left, record { output = refl; chain = inl refl }))

pub opened_then : (u v x : View) → IsTrue u.tells → v.seen ≡ u.seen → LeavesOnly u v u.may_leave → LeavesOnly v x (Among v.may_leave (IsCoalescing v.seen)) → LeavesOnly u x (Among u.may_leave (IsCoalescing u.seen))
opened_then u v x told seen run second =
    joined u v x (Among u.may_leave (IsCoalescing u.seen)) (Among v.may_leave (IsCoalescing v.seen)) (λ _. told) (opened_moments u v run) second
    (λ _ c from. (from.0, run.now told from.0 from.1, subst (λ (s : Store). IsCoalescing s from.0 c) seen from.2))

pub opened_alone : (done : Coalesced) (u v x : View) → v.tells ≡ u.tells → (done ≡ NoChain → ⊥) → (IsTrue u.tells → v.seen ≡ u.seen) → (IsTrue u.tells → LeavesOnly u v u.may_leave) → LeavesAlone done v x → LeavesAlone done u x
opened_alone NoChain u v x tells not seen run rest = absurd (not refl)
opened_alone (Joined n) u v x tells not seen run rest = tt
opened_alone OneRecord u v x tells not seen run rest = λ told.
    joined u v x (Among u.may_leave (OnlyChainFile u.seen)) (Among v.may_leave (OnlyChainFile v.seen)) (λ _. told)
    (weaken u v (Among u.may_leave (OnlyChainFile u.seen)) u.may_leave (run told) (λ c left. (c, left, record { output = refl; aside = λ was is. refl })))
    (rest (subst IsTrue (sym tells) told))
    (λ _ c from. (from.0, (run told).now told from.0 from.1, subst (λ (s : Store). OnlyChainFile s from.0 c) (seen told) from.2))
