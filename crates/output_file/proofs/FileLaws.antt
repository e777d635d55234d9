-- What a call leaves of the output on the disk.
use Rattle.std.proofs.Common.{sym, ◌∙◌, ap, ℕ, ◌≤◌, List, [], ◌∷◌, ◌++◌, length, arith, append_assoc, length-append}
use Rattle.std.proofs.lemmas.List.{take-append-le}
use Rattle.disk_model.specs.View.{View}
use Rattle.output_file.specs.Pushed.{Pushed}
use Rattle.output_file.specs.OnDisk.{IsOutputOn}

-- one byte more waits
pub more_waits : (o : Pushed) (v : View) (bytes : List ℕ) (b : ℕ) → IsOutputOn o v bytes → IsOutputOn (record o { waiting = o.waiting ++ b ∷ [] }) v (bytes ++ b ∷ [])
more_waits o v bytes b on = record {
  reads = ap (λ (l : List ℕ). l ++ b ∷ []) on.reads ∙ append_assoc v.seen.output o.waiting (b ∷ []);
  written = on.written;
  within = on.within;
  left = λ c left. (let was = on.left c left in record { lasting = was.lasting ∙ sym (take-append-le o.lasting bytes (b ∷ []) within); no_longer = was.no_longer });
}
  where
    within : o.lasting ≤ length bytes
    within = let le = on.within in let size = ap length on.reads ∙ length-append v.seen.output o.waiting in let written = on.written in omega arith
