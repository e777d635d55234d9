-- The lines of records, one after another.
use Rattle.std.proofs.Common.{◌≡◌, refl, sym, ◌∙◌, ap, ℕ, zero, suc, ◌+◌, ◌<◌, List, [], ◌∷◌, ◌++◌, length, take, drop, append_assoc, append-nil, arith}
use Rattle.page_frames.specs.Words.{words_of}
use Rattle.page_frames.proofs.Words.{length_view}
use Rattle.image_format.specs.Image.{Image, WordRun}
use Rattle.chain_listing.specs.Lines.{run_text, runs_text, record_line, record_lines}

-- one run more
pub next_range : (first count : ℕ) (bytes : List ℕ) (before after : List WordRun) (old new whole : List ℕ) → before ≡ record { first = first; words = words_of bytes count } ∷ after → new ≡ old ++ run_text first count → old ++ runs_text before ≡ whole → new ++ runs_text after ≡ whole
next_range first count bytes before after old new whole begins is was =
    ap (λ (t : List ℕ). t ++ runs_text after) is
    ∙ append_assoc old (run_text first count) (runs_text after)
    ∙ ap (λ (n : ℕ). old ++ (run_text first n ++ runs_text after)) (sym (length_view bytes (words_of bytes count) count refl))
    ∙ ap (λ (l : List WordRun). old ++ runs_text l) (sym begins)
    ∙ was

-- no run is left
pub all_ranges : (left : List WordRun) (text whole : List ℕ) → left ≡ [] → text ++ runs_text left ≡ whole → text ≡ whole
all_ranges left text whole none is = sym (append-nil text) ∙ ap (λ (l : List WordRun). text ++ runs_text l) (sym none) ∙ is

-- the record behind i others
pub record RecordAt (rs : List Image) (i : ℕ) : Type 0 where
  pub image : Image
  pub split : rs ≡ take i rs ++ image ∷ drop (suc i) rs
  pub next : drop i rs ≡ image ∷ drop (suc i) rs
  pub before : length (take i rs) ≡ i

pub record_behind : (rs : List Image) (i : ℕ) → i < length rs → RecordAt rs i
record_behind [] i lt = absurd (omega (arith, lt))
record_behind (r ∷ rs) zero lt = record { image = r; split = refl; next = refl; before = refl }
record_behind (r ∷ rs) (suc i) lt =
    let x = record_behind rs i (omega (arith, lt)) in
    record { image = x.image; split = ap (λ (l : List Image). r ∷ l) x.split; next = x.next; before = ap suc x.before }

-- one record more
pub next_record : (rs : List Image) (i : ℕ) (r : Image) (old new whole : List ℕ) → drop i rs ≡ r ∷ drop (suc i) rs → new ≡ old ++ record_line r → old ++ record_lines (drop i rs) ≡ whole → new ++ record_lines (drop (i + 1) rs) ≡ whole
next_record rs i r old new whole next is was =
    let s : i + 1 ≡ suc i = omega arith in
    ap (λ (k : ℕ). new ++ record_lines (drop k rs)) s
    ∙ ap (λ (t : List ℕ). t ++ record_lines (drop (suc i) rs)) is
    ∙ append_assoc old (record_line r) (record_lines (drop (suc i) rs))
    ∙ ap (λ (l : List Image). old ++ record_lines l) (sym next)
    ∙ was

drop_all : (l : List Image) → drop (length l) l ≡ []
drop_all [] = refl
drop_all (x ∷ l) = drop_all l

-- no record is left
pub all_records : (rs : List Image) (i : ℕ) (text : List ℕ) → i ≡ length rs → text ++ record_lines (drop i rs) ≡ record_lines rs → text ≡ record_lines rs
all_records rs i text end is = sym (append-nil text) ∙ ap (λ (l : List Image). text ++ record_lines l) (sym (ap (λ (n : ℕ). drop n rs) end ∙ drop_all rs)) ∙ is
