-- A chain beside calls on other files.
use Rattle.std.proofs.Common.{◌≢◌, refl, sym, ◌∙◌, subst, ℕ, List, length}
use Rattle.disk_model.specs.declared.disk_file.DiskFile.{DiskFile}
use Rattle.disk_model.specs.declared.disk_file.DiskFile.TheVariants.{Output, One, Two}
use Rattle.disk_model.specs.View.{View, SameFile}
use Rattle.image_format.specs.Image.{Image}
use Rattle.image_chain.specs.declared.chain.Current.{Current}
use Rattle.image_chain.specs.declared.chain.Step.{Step}
use Rattle.image_chain.specs.Append.{Alone, IsAside, IsAtRest, IsDue, LeftAt, ReadsAt, front, other}
use Rattle.image_chain.specs.Lists.{ImagesStay}
use Rattle.image_chain.proofs.StepLaws.{other_image}

image_same : (f : DiskFile) (u v : View) → f ≢ Output → ImagesStay u v → SameFile f u v
image_same Output u v not same = absurd (not refl)
image_same One u v not same = same.0
image_same Two u v not same = same.1

alone_beside : (chain : Current) (u v : View) (rs : List Image) → ImagesStay u v → Alone chain u rs → Alone chain v rs
alone_beside chain u v rs same alone =
    let theirs = image_same (other chain.file) u v (other_image chain.file) same in
    record {
      image_file = alone.image_file;
      aside = λ c left. let d = theirs.only c left in subst (IsAside (other chain.file) chain.generation (length rs)) (sym d.2) (alone.aside d.0 d.1);
    }

pub rest_beside : (chain : Current) (u v : View) (rs : List Image) (behind : List ℕ) → ImagesStay u v → IsAtRest chain u rs behind → IsAtRest chain v rs behind
rest_beside chain u v rs behind same rest =
    let mine = image_same chain.file u v rest.alone.image_file same in
    record {
      keeps = rest.keeps;
      alone = alone_beside chain u v rs same rest.alone;
      gate = rest.gate;
      closed = rest.closed;
      reads = mine.seen ∙ rest.reads;
      left = λ c left. let d = mine.only c left in d.2 ∙ rest.left d.0 d.1;
    }

pub due_beside : (chain : Current) (u v : View) (rs : List Image) (image : List ℕ) (at : Step) → ImagesStay u v → IsDue chain u rs image at → IsDue chain v rs image at
due_beside chain u v rs image at same due =
    let mine = image_same chain.file u v due.alone.image_file same in
    record {
      keeps = due.keeps;
      alone = alone_beside chain u v rs same due.alone;
      gate = due.gate;
      closed = due.closed;
      behind = due.behind;
      reads = subst (ReadsAt at (front chain rs) due.gate image due.behind) (sym mine.seen) due.reads;
      left = λ c left. let d = mine.only c left in subst (LeftAt at (front chain rs) due.gate image due.behind) (sym d.2) (due.left d.0 d.1);
    }
