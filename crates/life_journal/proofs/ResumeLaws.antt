-- A journal that goes on behind an output that is cut.
use Rattle.std.proofs.Common.{◌≡◌, ◌≢◌, refl, ◌∙◌, ap, ℕ, List, take, IsTrue}
use Rattle.disk_model.specs.declared.disk_file.DiskFile.{DiskFile}
use Rattle.disk_model.specs.declared.disk_file.DiskFile.TheVariants.{Output, One, Two}
use Rattle.disk_model.specs.Store.{Store, file_of}
use Rattle.disk_model.specs.View.{View, SameFile}
use Rattle.disk_model.specs.Moments.{Among, LeavesOnly}
use Rattle.disk_model.proofs.Calls.{joined, weaken}
use Rattle.image_format.specs.Image.{Image}
use Rattle.image_chain.specs.ChainView.{ChainView}
use Rattle.image_chain.specs.Append.{other}
use Rattle.image_chain.specs.Lists.{IsKept, Lists, Rests}
use Rattle.image_chain.proofs.LoopLaws.{rest_lists}
use Rattle.coalesce.specs.Join.{IsContent}
use Rattle.output_file.specs.OnDisk.{IsBehind, IsOutputOn}
use Rattle.life_journal.specs.JournalView.{JournalView}
use Rattle.life_journal.specs.Holding.{HoldsJournal}
use Rattle.life_journal.specs.Begun.{IsCutBehind}
use Rattle.life_journal.proofs.BesideLaws.{other_not, output_beside, rests_beside}

-- the disk, of which a crash may leave any output behind a place
abbrev cut_view : View → ℕ → View
cut_view u n = record u { may_leave = Among u.may_leave (IsBehind n) }

cut_one : (u : View) (n : ℕ) → SameFile One u (cut_view u n)
cut_one u n = record { seen = refl; only = λ c from. (from.0, from.1, from.2.one); still = λ c left. (c, (c, left, record { output = refl; one = refl; two = refl }), refl) }

cut_two : (u : View) (n : ℕ) → SameFile Two u (cut_view u n)
cut_two u n = record { seen = refl; only = λ c from. (from.0, from.1, from.2.two); still = λ c left. (c, (c, left, record { output = refl; one = refl; two = refl }), refl) }

lists_behind : (chain : ChainView) (u : View) (rs : List Image) (n : ℕ) → Rests chain u rs → (c : Store) → Among u.may_leave (IsBehind n) c → Lists chain.current rs c
lists_behind chain u rs n h c from =
    let w = rests_beside chain u (cut_view u n) rs (cut_one u n, cut_two u n) h in
    rest_lists chain.current (cut_view u n) rs w.1.0 w.1.1 c from

file_behind : (f : DiskFile) (n : ℕ) (d c : Store) → f ≢ Output → IsBehind n d c → file_of f c ≡ file_of f d
file_behind Output n d c not behind = absurd (not refl)
file_behind One n d c not behind = behind.one
file_behind Two n d c not behind = behind.two

pub cut_moments : (chain : ChainView) (u v : View) (rs : List Image) (n : ℕ) → Rests chain u rs → LeavesOnly u v (Among u.may_leave (IsBehind n)) → LeavesOnly u v (Among u.may_leave (IsCutBehind chain.current rs n))
cut_moments chain u v rs n h run = weaken u v (Among u.may_leave (IsCutBehind chain.current rs n)) (Among u.may_leave (IsBehind n)) run
    (λ c from. (
      from.0,
      from.1,
      record {
        lists = lists_behind chain u rs n h c from;
        aside = file_behind (other chain.current.file) n from.0 c (other_not chain.current.file h.1.1.alone.image_file) from.2;
        output = from.2.output;
      },
    ))

pub settled_moments : (chain : ChainView) (u v w : View) (rs : List Image) (n : ℕ) → IsTrue u.tells → Rests chain u rs → LeavesOnly u v (Among u.may_leave (IsBehind n)) → LeavesOnly v w (Among v.may_leave (IsKept chain.current rs))
    → LeavesOnly u w (Among u.may_leave (IsCutBehind chain.current rs n))
settled_moments chain u v w rs n tells h first second =
    joined u v w (Among u.may_leave (IsCutBehind chain.current rs n)) (Among v.may_leave (IsKept chain.current rs)) (λ _. tells) (cut_moments chain u v rs n h first) second
    (λ t c from.
    let was = first.now tells from.0 from.1 in (
      was.0,
      was.1,
      record {
        lists = from.2.0;
        aside = from.2.1.aside ∙ file_behind (other chain.current.file) n was.0 from.0 (other_not chain.current.file h.1.1.alone.image_file) was.2;
        output = ap (λ (l : List ℕ). take n l) from.2.1.output ∙ was.2.output;
      },
    ))

pub settled_holds : (j : JournalView) (v w : View) (rs : List Image) (bytes : List ℕ) → Rests j.chain w rs → IsContent j.kept rs → SameFile Output v w → IsOutputOn j.output v bytes → HoldsJournal j w rs bytes
settled_holds j v w rs bytes rests content same on = record { rests = rests; content = content; output = output_beside j.output v w bytes same on }
