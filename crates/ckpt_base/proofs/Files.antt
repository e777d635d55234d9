-- Looking for a file of that name, one file after the other.
use Rattle.std.proofs.Common.{◌≡◌, ◌<◌, ◌+◌, ℕ, List, ◌∷◌, true, false, Some, length, refl, sym, ◌∙◌, ap, arith, add-zero, add-one}
use Rattle.std.specs.Str.{bytes_eq}
use Rattle.ckpt_base.specs.Buffer.{Buffer}
use Rattle.ckpt_base.specs.Shelf.{file_named}
use Rattle.ckpt_base.specs.ShelfFiles.{files_of, bytes_at}

-- the next file has the name
pub found : (fs left more : List (List ℕ × Buffer)) (f : List ℕ × Buffer) (name : List ℕ) (i : ℕ) → left ≡ f ∷ more → i + length left ≡ length fs → file_named (files_of fs) name ≡ file_named (files_of left) name
    → ((k : ℕ) → bytes_at left k ≡ bytes_at fs (i + k)) → bytes_eq f.0 name ≡ true → (i < length fs) × (file_named (files_of fs) name ≡ Some (bytes_at fs i))
found fs left more f name i is index same behind hit =
    let n : length left ≡ length more + 1 = ap length is ∙ sym (add-one (length more)) in
    let here : bytes_at left 0 ≡ bytes_at fs i = behind 0 ∙ ap (bytes_at fs) (add-zero i) in
    let first : file_named (files_of left) name ≡ Some f.1.list = ap (λ l. file_named (files_of l) name) is ∙ rw hit refl in
    let bytes : f.1.list ≡ bytes_at left 0 = sym (ap (λ l. bytes_at l 0) is) in
    (omega arith, same ∙ first ∙ ap Some (bytes ∙ here))

-- it has not
pub passed : (fs left more : List (List ℕ × Buffer)) (f : List ℕ × Buffer) (name : List ℕ) → left ≡ f ∷ more → file_named (files_of fs) name ≡ file_named (files_of left) name → bytes_eq f.0 name ≡ false
    → file_named (files_of fs) name ≡ file_named (files_of more) name
passed fs left more f name is same miss = same ∙ ap (λ l. file_named (files_of l) name) is ∙ rw miss refl

pub behind_next : (fs left more : List (List ℕ × Buffer)) (f : List ℕ × Buffer) (i : ℕ) → left ≡ f ∷ more → ((k : ℕ) → bytes_at left k ≡ bytes_at fs (i + k)) → (k : ℕ) → bytes_at more k ≡ bytes_at fs (i + 1 + k)
behind_next fs left more f i is behind k =
    let step : bytes_at left (k + 1) ≡ bytes_at more k = ap (λ l. bytes_at l (k + 1)) is ∙ rw add-one refl in
    let place : i + (k + 1) ≡ i + 1 + k = omega arith in
    sym step ∙ behind (k + 1) ∙ ap (bytes_at fs) place

pub index_next : (n : ℕ) (left more : List (List ℕ × Buffer)) (f : List ℕ × Buffer) (i : ℕ) → left ≡ f ∷ more → i + length left ≡ n → i + 1 + length more ≡ n
index_next n left more f i is index =
    let k : length left ≡ length more + 1 = ap length is ∙ sym (add-one (length more)) in
    omega arith

-- the test of the two names, as the code makes it
pub tested : (name own wanted : List ℕ) (test answer : _) → own ≡ name → test ≡ bytes_eq own wanted → test ≡ answer → bytes_eq name wanted ≡ answer
tested name own wanted test answer same is said = ap (λ l. bytes_eq l wanted) (sym same) ∙ sym is ∙ said
