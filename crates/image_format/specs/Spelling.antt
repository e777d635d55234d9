-- The bytes that spell an image and a header. Numbers have their highest byte first.
use Rattle.std.specs.Prelude.{◌≡◌, ℕ, ◌+◌, ◌*◌, Bool, ◌==◌, if◌then◌else◌, List, [], ◌∷◌, ◌++◌, length}
use Rattle.std.specs.List.{flat_map}
use Rattle.std.specs.Int.{w16, w32, w64, to_be_bytes}
use Rattle.image_format.specs.declared.fields.Fields.{Fields}
use Rattle.image_format.specs.declared.fields.Marks.{Marks}
use Rattle.image_format.specs.declared.header.Header.{Header}
use Rattle.image_format.specs.Image.{WordRun, Image}

-- a gate is open where it is this byte; any other is closed
abbrev pub is_open : ℕ → Bool
is_open gate = gate == 165

-- the gate that is written, open or closed
abbrev pub gate_of : Bool → ℕ
gate_of open_gate = if open_gate then 165 else 0

-- the four bytes `CKP1`
abbrev pub magic : List ℕ
magic = 67 ∷ 75 ∷ 80 ∷ 49 ∷ []

-- the 16 bytes of a header, with the gate of the first record
abbrev pub header_bytes : Header → ℕ → List ℕ
header_bytes h gate = magic ++ (to_be_bytes w32 h.generation ++ (to_be_bytes w32 h.every ++ (to_be_bytes w16 h.max ++ (0 ∷ gate ∷ []))))

-- The bytes spell this header: the 16 bytes, whose last one is a gate that is open as the header says.
pub record SpellsHeader (h : Header) (bytes : List ℕ) : Type 0 where
  pub gate : ℕ
  pub bytes_are : bytes ≡ header_bytes h gate
  pub gate_is : h.gate_open ≡ is_open gate

-- first cell, number of cells, and eight bytes for each cell
abbrev pub run_bytes : WordRun → List ℕ
run_bytes r = to_be_bytes w32 r.first ++ (to_be_bytes w32 (length r.words) ++ flat_map (to_be_bytes w64) r.words)

-- eight bytes for each run and for each cell
abbrev pub runs_length : List WordRun → ℕ
runs_length [] = 0
runs_length (r ∷ rs) = 8 + 8 * length r.words + runs_length rs

-- the length in bytes of the record with these runs, its last gate included
abbrev pub length_with : List WordRun → ℕ
length_with runs = 109 + runs_length runs

-- the tag `I`, the whole length and the two digests
abbrev pub marks_bytes : Marks → ℕ → List ℕ
marks_bytes m whole = 73 ∷ (to_be_bytes w32 whole ++ (m.source ++ m.input))

-- node, steps, place in the input and length of the output
abbrev pub places_bytes : Fields → List ℕ
places_bytes f = to_be_bytes w32 f.node ++ (to_be_bytes w64 f.steps ++ (to_be_bytes w64 f.input_place ++ to_be_bytes w64 f.output_length))

-- directive, whether read-only cells are left out, number of the image and number of runs
abbrev pub counts_bytes : Fields → ℕ → List ℕ
counts_bytes f count = to_be_bytes w16 f.directive ++ (((if f.left_out then 1 else 0) ∷ []) ++ (to_be_bytes w32 f.number ++ to_be_bytes w32 count))

-- the 108 bytes before the runs
abbrev pub head_bytes : Fields → ℕ → ℕ → List ℕ
head_bytes f whole count = marks_bytes f.marks whole ++ (places_bytes f ++ counts_bytes f count)

-- the record of an image without its last byte
abbrev pub text : Image → List ℕ
text i = head_bytes i.fields (length_with i.runs) (length i.runs) ++ flat_map run_bytes i.runs

-- Each image has one spelling, but for the last byte, which is the gate of the next record.
abbrev pub spelling : Image → ℕ → List ℕ
spelling i gate = text i ++ gate ∷ []

-- how many bytes the record of an image has
abbrev pub image_length : Image → ℕ
image_length i = length_with i.runs

-- the bytes begin with a record of the image, with any last gate
abbrev pub IsFront : Image → List ℕ → Type 0
IsFront i bytes = (gate : ℕ) × (rest : List ℕ) × (bytes ≡ spelling i gate ++ rest)
