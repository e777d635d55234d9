-- An output beside calls on the image files.
use Rattle.std.proofs.Common.{◌≡◌, sym, ◌∙◌, ap, subst, ℕ, List, ◌++◌, length}
use Rattle.disk_model.specs.declared.disk_file.DiskFile.TheVariants.{Output}
use Rattle.disk_model.specs.View.{View, SameFile}
use Rattle.output_file.specs.Pushed.{Pushed}
use Rattle.output_file.specs.OnDisk.{IsLeft, IsOutputOn, IsOnDisk}

pub output_beside : (o : Pushed) (u v : View) (bytes : List ℕ) → SameFile Output u v → IsOutputOn o u bytes → IsOutputOn o v bytes
output_beside o u v bytes same is = record {
  reads = is.reads ∙ ap (λ (l : List ℕ). l ++ o.waiting) (sym same.seen);
  written = ap length same.seen ∙ is.written;
  within = is.within;
  left = λ c left. let d = same.only c left in subst (IsLeft o bytes) (sym d.2) (is.left d.0 d.1);
}

pub on_disk_beside : (bytes : List ℕ) (u v : View) → SameFile Output u v → IsOnDisk bytes u → IsOnDisk bytes v
on_disk_beside bytes u v same is = record { reads = same.seen ∙ is.reads; left = λ c left. let d = same.only c left in d.2 ∙ is.left d.0 d.1 }
