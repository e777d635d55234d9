-- A chain at rest beside calls on the output, and an output beside calls on the chain.
use Rattle.std.proofs.Common.{◌≢◌, refl, sym, ◌∙◌, ap, subst, ℕ, ◌++◌, List, length, IsTrue}
use Rattle.disk_model.specs.declared.disk_file.DiskFile.{DiskFile}
use Rattle.disk_model.specs.declared.disk_file.DiskFile.TheVariants.{Output, One, Two}
use Rattle.disk_model.specs.Store.{Store}
use Rattle.disk_model.specs.View.{View, IsDisk, SameFile}
use Rattle.disk_model.specs.Moments.{Among, LeavesOnly}
use Rattle.disk_model.proofs.Calls.{still, joined}
use Rattle.image_format.specs.Image.{Image}
use Rattle.image_chain.specs.ChainView.{ChainView}
use Rattle.image_chain.specs.Append.{IsAside, other}
use Rattle.image_chain.specs.Lists.{Rests}
use Rattle.output_file.specs.Pushed.{Pushed}
use Rattle.output_file.specs.OnDisk.{IsLeft, IsOutputOn, IsBehind}

pub same_file : (f : DiskFile) (v : View) → SameFile f v v
same_file f v = record { seen = refl; only = λ c left. (c, left, refl); still = λ c left. (c, left, refl) }

one_not : One ≢ Output
one_not e = cc

two_not : Two ≢ Output
two_not e = cc

pub other_not : (f : DiskFile) → f ≢ Output → other f ≢ Output
other_not Output not = absurd (not refl)
other_not One not = two_not
other_not Two not = one_not

image_same : (f : DiskFile) (u v : View) → f ≢ Output → SameFile One u v × SameFile Two u v → SameFile f u v
image_same Output u v not same = absurd (not refl)
image_same One u v not same = same.0
image_same Two u v not same = same.1

-- a chain at rest beside a call that leaves the image files
pub rests_beside : (chain : ChainView) (u v : View) (rs : List Image) → SameFile One u v × SameFile Two u v → Rests chain u rs → Rests chain v rs
rests_beside chain u v rs same h =
    let rest = h.1.1 in
    let f = chain.current.file in
    let mine = image_same f u v rest.alone.image_file same in
    let theirs = image_same (other f) u v (other_not f rest.alone.image_file) same in (
      h.0,
      (
        h.1.0,
        record {
          keeps = rest.keeps;
          alone = record {
            image_file = rest.alone.image_file;
            aside = λ c left. let d = theirs.only c left in subst (IsAside (other f) chain.current.generation _) (sym d.2) (rest.alone.aside d.0 d.1);
          };
          gate = rest.gate;
          closed = rest.closed;
          reads = mine.seen ∙ rest.reads;
          left = λ c left. let d = mine.only c left in d.2 ∙ rest.left d.0 d.1;
        },
      ),
    )

-- an output beside a call that leaves its file
pub output_beside : (o : Pushed) (u v : View) (bytes : List ℕ) → SameFile Output u v → IsOutputOn o u bytes → IsOutputOn o v bytes
output_beside o u v bytes same h = record {
  reads = h.reads ∙ ap (λ (l : List ℕ). l ++ o.waiting) (sym same.seen);
  written = ap (λ (l : List ℕ). length l) same.seen ∙ h.written;
  within = h.within;
  left = λ c left. let d = same.only c left in subst (IsLeft o bytes) (sym d.2) (h.left d.0 d.1);
}

-- ---- what a crash leaves but for the output from a place on

behind_twice : (n : ℕ) (a b c : Store) → IsBehind n a b → IsBehind n b c → IsBehind n a c
behind_twice n a b c first second = record { output = second.output ∙ first.output; one = second.one ∙ first.one; two = second.two ∙ first.two }

pub behind_first : (u : View) (n : ℕ) → (IsTrue u.tells → IsDisk u) → (IsTrue u.tells_past → IsTrue u.tells) → LeavesOnly u u (Among u.may_leave (IsBehind n))
behind_first u n lawful both = still u (Among u.may_leave (IsBehind n)) lawful both (λ _ c left. (c, left, record { output = refl; one = refl; two = refl }))

pub behind_then : (u v w : View) (n : ℕ) → IsTrue u.tells → LeavesOnly u v (Among u.may_leave (IsBehind n)) → LeavesOnly v w (Among v.may_leave (IsBehind n)) → LeavesOnly u w (Among u.may_leave (IsBehind n))
behind_then u v w n tells first second =
    joined u v w (Among u.may_leave (IsBehind n)) (Among v.may_leave (IsBehind n)) (λ _. tells) first second
    (λ t s from. let was = first.now t from.0 from.1 in (was.0, was.1, behind_twice n was.0 from.0 s was.2 from.2))
