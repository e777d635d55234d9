-- Reading field by field. A fault is the place of the first field that breaks its rule, or the end of the bytes where a field is not whole.
use Rattle.std.specs.Prelude.{◌≡◌, ℕ, zero, suc, ◌+◌, ◌-◌, ◌*◌, nat_lt, nat_le, ◌==◌, ◌&&◌, ◌||◌, not, if◌then◌else◌, Bool, List, [], ◌∷◌, length, take, drop, Result, Ok, Err}
use Rattle.std.specs.Str.{bytes_eq}
use Rattle.std.specs.Int.{Width, w8, w16, w32, w64, byte_len, from_be_bytes}
use Rattle.page_frames.specs.Words.{words_of}
use Rattle.image_format.specs.declared.fields.BadRecord.{BadRecord}
use Rattle.image_format.specs.declared.fields.Fields.{Fields}
use Rattle.image_format.specs.declared.header.BadHeader.{BadHeader}
use Rattle.image_format.specs.declared.header.Header.{Header}
use Rattle.image_format.specs.Image.{WordRun, Image}
use Rattle.image_format.specs.Spelling.{magic, is_open}

infixl 10 ◌>>=◌
abbrev pub ◌>>=◌ : {A B E : Type 0} → Result A E → (A → Result B E) → Result B E
(Ok x) >>= f = f x
(Err e) >>= f = Err e

-- What a function returned, seen by view, is what reading gives.
abbrev pub Gives : {X Y : Type 0} → (X → Y) → Result X BadRecord → Result Y ℕ → Type 0
Gives view (Ok x) read = read ≡ Ok (view x)
Gives view (Err e) read = read ≡ Err e.place

-- the same for a header
abbrev pub GivesHeader : Result Header BadHeader → Result Header ℕ → Type 0
GivesHeader (Ok h) read = read ≡ Ok h
GivesHeader (Err e) read = read ≡ Err e.place

-- the field at the front of what is left of bytes that end at `end`, and what follows it
abbrev pub bytes_at : ℕ → ℕ → List ℕ → Result (List ℕ × List ℕ) ℕ
bytes_at n end rest = if nat_lt (length rest) n then Err end else Ok (take n rest, drop n rest)

abbrev pub number_at : Width → ℕ → List ℕ → Result (ℕ × List ℕ) ℕ
number_at w end rest = if nat_lt (length rest) (byte_len w) then Err end else Ok (from_be_bytes w (take (byte_len w) rest), drop (byte_len w) rest)

-- the number at the front, which has a rule; `place` is where it begins
abbrev pub field_at : Width → (ℕ → Bool) → ℕ → ℕ → List ℕ → Result (ℕ × List ℕ) ℕ
field_at w holds place end rest =
    if nat_lt (length rest) (byte_len w) then Err end
    else (if holds (from_be_bytes w (take (byte_len w) rest)) then Ok (from_be_bytes w (take (byte_len w) rest), drop (byte_len w) rest) else Err place)

-- a number of the header
abbrev pub field : Width → ℕ → List ℕ → ℕ
field w place bytes = from_be_bytes w (take (byte_len w) (drop place bytes))

-- the header that 16 bytes spell
abbrev pub header_at : List ℕ → Result Header ℕ
header_at bytes =
    if not (bytes_eq (take 4 bytes) magic) then Err 0
    else (if nat_lt (field w32 4 bytes) 1 then Err 4
    else (if nat_lt (field w32 8 bytes) 1 then Err 8
    else (if nat_lt (field w16 12 bytes) 2 || nat_lt 64 (field w16 12 bytes) then Err 12
    else (if not (field w8 14 bytes == 0) then Err 14
    else Ok (record { generation = field w32 4 bytes; every = field w32 8 bytes; max = field w16 12 bytes; gate_open = is_open (field w8 15 bytes) })))))

-- the bytes before the runs: the whole length, the fields and the number of runs
pub record Head : Type 0 where
  pub whole : ℕ
  pub fields : Fields
  pub count : ℕ

-- the tag, the whole length and the two digests
unfoldable pub marks_at : ℕ → List ℕ → Result (ℕ × List ℕ × List ℕ × List ℕ) ℕ
marks_at end bytes = do
  tag ← field_at w8 (λ n. n == 73) 0 end bytes
  whole ← field_at w32 (λ n. nat_le 109 n && nat_le n 3145837) 1 end tag.1
  source ← bytes_at 32 end whole.1
  input ← bytes_at 32 end source.1
  Ok (whole.0, source.0, input.0, input.1)

-- node, steps, place in the input and length of the output
unfoldable pub places_at : ℕ → List ℕ → Result (ℕ × ℕ × ℕ × ℕ × List ℕ) ℕ
places_at end rest = do
  node ← field_at w32 (λ n. nat_le n 2047) 69 end rest
  steps ← field_at w64 (λ n. nat_le 1 n) 73 end node.1
  input_place ← field_at w64 (λ n. nat_le n 16777216) 81 end steps.1
  output_length ← number_at w64 end input_place.1
  Ok (node.0, steps.0, input_place.0, output_length.0, output_length.1)

-- directive, whether read-only cells are left out, number of the image and number of runs
unfoldable pub counts_at : ℕ → List ℕ → Result (ℕ × Bool × ℕ × ℕ × List ℕ) ℕ
counts_at end rest = do
  directive ← field_at w16 (λ n. nat_le n 64) 97 end rest
  left_out ← field_at w8 (λ n. nat_le n 1 && (nat_le 1 directive.0 || n == 0)) 99 end directive.1
  number ← field_at w32 (λ n. nat_le 1 n) 100 end left_out.1
  count ← field_at w32 (λ n. nat_le n 131072) 104 end number.1
  Ok (directive.0, left_out.0 == 1, number.0, count.0, count.1)

unfoldable pub head_at : List ℕ → Result (Head × List ℕ) ℕ
head_at bytes = do
  marks ← marks_at (length bytes) bytes
  places ← places_at (length bytes) marks.3
  counts ← counts_at (length bytes) places.4
  Ok (
    record {
      whole = marks.0;
      fields = record {
        marks = record { source = marks.1; input = marks.2 };
        node = places.0;
        steps = places.1;
        input_place = places.2;
        output_length = places.3;
        directive = counts.0;
        left_out = counts.1;
        number = counts.2;
      };
      count = counts.3;
    },
    counts.4,
  )

-- a run that begins at the cell `least` or above
unfoldable pub run_at : ℕ → ℕ → List ℕ → Result (WordRun × List ℕ) ℕ
run_at end least rest = do
  first ← field_at w32 (λ n. nat_le least n) (end - length rest) end rest
  count ← field_at w32 (λ n. nat_le 1 n && nat_le (first.0 + n) 262144) (end - length first.1) end first.1
  words ← bytes_at (8 * count.0) end count.1
  Ok (record { first = first.0; words = words_of words.0 count.0 }, words.1)

-- n runs, each above the end of the one before it
unfoldable pub runs_at : ℕ → ℕ → ℕ → List ℕ → Result (List WordRun × List ℕ) ℕ
runs_at zero end least rest = Ok ([], rest)
runs_at (suc n) end least rest = do
  run ← run_at end least rest
  more ← runs_at n end (run.0.first + length run.0.words + 1) run.1
  Ok (run.0 ∷ more.0, more.1)

-- what is read at the front: an image, the gate behind it, and what follows
pub record Front : Type 0 where
  pub image : Image
  pub gate : ℕ
  pub rest : List ℕ

-- The record at the front, whatever follows. That its length is the number of bytes read is tested last.
unfoldable pub record_at : List ℕ → Result Front ℕ
record_at bytes = do
  head ← head_at bytes
  runs ← runs_at head.0.count (length bytes) 0 head.1
  gate ← number_at w8 (length bytes) runs.1
  if head.0.whole == length bytes - length gate.1
      then Ok (record { image = record { fields = head.0.fields; runs = runs.0 }; gate = gate.0; rest = gate.1 })
      else Err 1

-- the image at the front
abbrev pub image_at : List ℕ → Result Image ℕ
image_at bytes = record_at bytes >>= λ front. Ok front.image

-- what follows the runs
abbrev pub rest_of : Result (List WordRun × List ℕ) ℕ → Result (List ℕ) ℕ
rest_of read = read >>= λ x. Ok x.1

-- the runs that were read
abbrev pub runs_of : Result (List WordRun × List ℕ) ℕ → List WordRun
runs_of (Ok x) = x.0
runs_of (Err place) = []
