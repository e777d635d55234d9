-- No call of a life loses an image.
use Rattle.std.proofs.Common.{◌≡◌, sym, ◌∙◌, ap, subst, ℕ, List, Option, Some, None, Ok, ⊎_elim, Result}
use Rattle.disk_model.specs.Store.{Store}
use Rattle.disk_model.specs.View.{View, IsDisk}
use Rattle.disk_model.specs.Moments.{Among, LeavesOnly}
use Rattle.disk_model.proofs.Calls.{weaken}
use Rattle.image_format.specs.declared.fields.Fields.{Fields}
use Rattle.image_format.specs.Image.{Image}
use Rattle.image_chain.specs.Append.{header_of}
use Rattle.image_chain.specs.ChainView.{ChainView}
use Rattle.image_chain.specs.Lists.{Rests, IsAppended}
use Rattle.image_chain.specs.Records.{Damage, Found, broken_field, chain_in, newest_of}
use Rattle.image_chain.proofs.LoopLaws.{rest_lists}
use Rattle.output_file.specs.OnDisk.{IsBehind}
use Rattle.life_journal.specs.Begun.{IsCutBehind}
use Rattle.life_journal.specs.JournalView.{JournalView}
use Rattle.life_journal.specs.Holding.{HoldsJournal}
use Rattle.life_journal.specs.Joining.{MayBeJoined}
use Rattle.run_images.specs.Later.{IsLater, AllLater}
use Rattle.run_images.proofs.ChainLaws.{append_later, replaced_later}
use Rattle.run_images.proofs.LaterLaws.{behind_later, listed_later}
use Rattle.ckpt_runner.proofs.GoodLaws.{journal_lists}

pub behind_images : (i n : ℕ) (u v : View) → LeavesOnly u v (Among u.may_leave (IsBehind n)) → AllLater i u → LeavesOnly u v (IsLater i)
behind_images i n u v run later = weaken u v (IsLater i) (Among u.may_leave (IsBehind n)) run (λ c from. behind_later i n from.0 c (later from.0 from.1) from.2)

pub room_images : (i : ℕ) (j : JournalView) (rs : List Image) (w : List ℕ) (u v : View) → HoldsJournal j u rs w → LeavesOnly u v (Among u.may_leave (MayBeJoined j.chain.current rs)) → AllLater i u → LeavesOnly u v (IsLater i)
room_images i j rs w u v holds run later =
    weaken u v (IsLater i) (Among u.may_leave (MayBeJoined j.chain.current rs)) run
    (λ c from. ⊎_elim (λ same. subst (IsLater i) (sym same) (later from.0 from.1))
    (λ joins. replaced_later i j.chain.current rs from.0 c (later from.0 from.1) (journal_lists j u rs w holds from.0 from.1) joins.0 joins.1 joins.2) from.2)

pub save_images : (i : ℕ) (j : JournalView) (rs : List Image) (w : List ℕ) (r : Image) (u v : View) → HoldsJournal j u rs w → broken_field j.chain.current.newest r.fields ≡ None
    → LeavesOnly u v (Among u.may_leave (IsAppended j.chain.current rs r)) → AllLater i u → LeavesOnly u v (IsLater i)
save_images i j rs w r u v holds follows run later =
    let newest : j.chain.current.newest ≡ newest_of None rs = holds.rests.1.1.keeps.newest in
    let behind : broken_field (newest_of None rs) r.fields ≡ None = ap (λ (f : Option Fields). broken_field f r.fields) (sym newest) ∙ follows in
    weaken u v (IsLater i) (Among u.may_leave (IsAppended j.chain.current rs r)) run
    (λ c from. append_later i j.chain.current rs from.0 c (later from.0 from.1) (journal_lists j u rs w holds from.0 from.1) r behind from.2)

pub resume_images : (i n : ℕ) (chain : ChainView) (rs : List Image) (u v : View) → Rests chain u rs → LeavesOnly u v (Among u.may_leave (IsCutBehind chain.current rs n)) → AllLater i u → LeavesOnly u v (IsLater i)
resume_images i n chain rs u v rest run later =
    weaken u v (IsLater i) (Among u.may_leave (IsCutBehind chain.current rs n)) run
    (λ c from. listed_later i chain.current.file (header_of chain.current) rs from.0 c (later from.0 from.1) (rest_lists chain.current u rs rest.1.0 rest.1.1 from.0 from.1) from.2.lists)

found_none : (found : Found) (x : Result (Option Found) Damage) → x ≡ Ok (Some found) → x ≡ Ok None → ⊥
found_none found x a b = cc

-- a life begins where there is no image to lose
pub begin_images : (i : ℕ) (u v : View) → IsDisk u → ((c : Store) → u.may_leave c → chain_in c ≡ Ok None) → AllLater i u → LeavesOnly u v (IsLater i)
begin_images i u v disk none later = let it = later u.seen disk.seen_stays in absurd (found_none it.found (chain_in u.seen) it.chain (none u.seen disk.seen_stays))
