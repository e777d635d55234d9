-- A store that stands for a source still stands, and loses no image, while its records are joined.
use Rattle.std.proofs.Common.{◌≡◌, refl, ap, ℕ, ◌≤◌, IsTrue, inr, List, [], ◌∷◌, length, take, Some, None, Ok, arith}
use Rattle.std.proofs.lemmas.List.{take-take}
use Rattle.disk_model.specs.Store.{Store}
use Rattle.disk_model.specs.View.{View}
use Rattle.disk_model.specs.Moments.{Among, LeavesOnly}
use Rattle.disk_model.proofs.Calls.{joined, weaken}
use Rattle.image_format.specs.declared.fields.Fields.{Fields}
use Rattle.image_format.specs.Image.{Image}
use Rattle.image_chain.specs.Append.{header_of}
use Rattle.image_chain.specs.ChainView.{ChainView}
use Rattle.image_chain.specs.Lists.{Lists, Rests, IsKept}
use Rattle.image_chain.specs.Records.{Found, chain_in, newest_of}
use Rattle.image_chain.specs.Replace.{IsReplaced}
use Rattle.image_chain.proofs.FoundLaws.{found_there}
use Rattle.image_chain.proofs.LoopLaws.{rest_lists}
use Rattle.coalesce.specs.Join.{Joins}
use Rattle.life_journal.specs.Begun.{IsCutBehind}
use Rattle.run_images.specs.Later.{IsLater}
use Rattle.run_images.specs.Source.{Source, IsSource}
use Rattle.run_images.specs.Stands.{Stands, StandsFor, StandsWithin, ChainStands, AllStand}
use Rattle.run_images.proofs.AppendLaws.{newest_some}
use Rattle.run_images.proofs.ChainLaws.{replaced_stands, replaced_later}
use Rattle.run_images.proofs.LaterLaws.{listed_later}
use Rattle.run_images.proofs.OutputLaws.{stands_on}
use Rattle.run_images.proofs.StandLaws.{kept_stands}
use Rattle.ckpt_runner.proofs.GoodCalls.{plain_moments}
use Rattle.ckpt_runner.proofs.GoodStarts.{NeedMost, resumed_stand}
use Rattle.store_upkeep.proofs.CoalescedLaws.{long, listed}

newest_there : (rs : List Image) → 1 ≤ length rs → (x : Fields) × (newest_of None rs ≡ Some x)
newest_there [] some = absurd (omega (arith, some))
newest_there (r ∷ rs) some = newest_some r.fields rs

-- the chain that was opened, with its records on this disk
module _ (chain : ChainView) (rs : List Image) (v : View) (some : 1 ≤ chain.current.count) (rests : Rests chain v rs) where
  newest : (x : Fields) × (newest_of None rs ≡ Some x)
  newest = newest_there rs (long chain rs v some rests)

  lists : (c : Store) → v.may_leave c → Lists chain.current rs c
  lists c left = rest_lists chain.current v rs rests.1.0 rests.1.1 c left

  -- it is settled
  module _ (w : View) (run : LeavesOnly v w (Among v.may_leave (IsKept chain.current rs))) where
    settled_cut : (n : ℕ) → LeavesOnly v w (Among v.may_leave (IsCutBehind chain.current rs n))
    settled_cut n =
        weaken v w (Among v.may_leave (IsCutBehind chain.current rs n)) (Among v.may_leave (IsKept chain.current rs)) run
        (λ c from. (from.0, from.1, record { lists = from.2.0; aside = from.2.1.aside; output = ap (λ (l : List ℕ). take n l) from.2.1.output }))

    pub settled_stands : NeedMost → (s : Source) → IsSource s → AllStand s v → LeavesOnly v w (Stands s)
    settled_stands need s is stand =
        let n = newest.0.output_length in
        plain_moments s n v w (resumed_stand need s chain rs newest.0 v w is newest.1 stand rests (settled_cut n))

    pub settled_later : (j : ℕ) → ((c : Store) → v.may_leave c → IsLater j c) → LeavesOnly v w (IsLater j)
    settled_later j later =
        weaken v w (IsLater j) (Among v.may_leave (IsKept chain.current rs)) run
        (λ c from. listed_later j chain.current.file (header_of chain.current) rs from.0 c (later from.0 from.1) (lists from.0 from.1) from.2.0)

  -- it is joined
  module _ (image : Image) (joins : Joins rs image) (x : View) (run : LeavesOnly v x (Among v.may_leave (IsReplaced chain.current rs image))) where
    chain_stands : NeedMost → (s : Source) → IsSource s → (d : Store) → v.may_leave d → Stands s d → ChainStands s newest.0.output_length d.output chain.current rs d
    chain_stands need s is d left stand =
        let n = newest.0.output_length in
        let le : n ≤ n = omega arith in
        let found : Found = record { file = chain.current.file; header = header_of chain.current; records = rs } in
        let there : chain_in d ≡ Ok (Some found) = listed chain rs v some rests d left in
        let within : StandsWithin s n d = need s d found newest.0 is stand there newest.1 in
        let whole : StandsFor s chain.current.every rs d.output = kept_stands s d found stand there in
        let front : take n (take n d.output) ≡ take n d.output = take-take n n d.output le in
        let enough = within.within chain.current.file (header_of chain.current) rs whole.newest rests.1.1.alone.image_file (found_there d found there).lists whole.newest_is in
        record {
          image_file = rests.1.1.alone.image_file;
          stands = within;
          output = refl;
          lists = lists d left;
          records = inr (stands_on s n chain.current.every rs d.output (take n d.output) front whole enough);
        }

    pub joined_stands : NeedMost → (s : Source) → IsSource s → AllStand s v → LeavesOnly v x (Stands s)
    joined_stands need s is stand =
        weaken v x (Stands s) (Among v.may_leave (IsReplaced chain.current rs image)) run
        (λ c from. (replaced_stands s newest.0.output_length from.0.output chain.current rs from.0 c (chain_stands need s is from.0 from.1 (stand from.0 from.1)) image joins from.2).stands)

    pub joined_later : (j : ℕ) → ((c : Store) → v.may_leave c → IsLater j c) → LeavesOnly v x (IsLater j)
    joined_later j later =
        weaken v x (IsLater j) (Among v.may_leave (IsReplaced chain.current rs image)) run
        (λ c from. replaced_later j chain.current rs from.0 c (later from.0 from.1) (lists from.0 from.1) image joins from.2)

-- it is settled, and then joined
module _ (chain : ChainView) (rs : List Image) (v w x : View) (some : 1 ≤ chain.current.count) (told : IsTrue v.tells) (rests : Rests chain v rs) (first : LeavesOnly v w (Among v.may_leave (IsKept chain.current rs)))
    (still : Rests chain w rs) (image : Image) (joins : Joins rs image) (second : LeavesOnly w x (Among w.may_leave (IsReplaced chain.current rs image))) where
  pub both_stand : NeedMost → (s : Source) → IsSource s → AllStand s v → LeavesOnly v x (Stands s)
  both_stand need s is stand =
      let settled = settled_stands chain rs v some rests w first need s is stand in
      joined v w x (Stands s) (Stands s) (λ _. told) settled (joined_stands chain rs w some still image joins x second need s is (λ c left. settled.now told c left)) (λ _ c h. h)

  pub both_later : (j : ℕ) → ((c : Store) → v.may_leave c → IsLater j c) → LeavesOnly v x (IsLater j)
  both_later j later =
      let settled = settled_later chain rs v some rests w first j later in
      joined v w x (IsLater j) (IsLater j) (λ _. told) settled (joined_later chain rs w some still image joins x second j (λ c left. settled.now told c left)) (λ _ c h. h)
