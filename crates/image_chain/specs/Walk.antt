-- How far the records of a file were read.
use Rattle.std.specs.Prelude.{◌≡◌, ◌≢◌, ◌⊎◌, ℕ, ◌+◌, ◌-◌, ◌<◌, ◌≤◌, List, [], ◌∷◌, ◌++◌, length, take, Option, Some, None, Result, Ok}
use Rattle.std.specs.List.{AllByRecursion}
use Rattle.disk_model.specs.declared.disk_file.DiskFile.TheVariants.{Output}
use Rattle.disk_model.specs.Store.{Store, file_of}
use Rattle.image_format.specs.Image.{Image, IsImage, word_in_runs}
use Rattle.image_format.specs.Spelling.{image_length}
use Rattle.image_format.specs.Reading.{◌>>=◌}
use Rattle.image_chain.specs.ChainView.{ChainView}
use Rattle.image_chain.specs.declared.chain.Current.{Current}
use Rattle.image_chain.specs.Records.{Damage, Found, records_at, newest_of, broken_field, chain_in}
use Rattle.std.specs.Option.{option_or}
use Rattle.image_chain.specs.declared.fault.ChainFault.{ChainFault}
use Rattle.image_chain.specs.declared.fault.ChainFault.TheVariants.{Failed, Damaged}
use Rattle.image_chain.specs.Memory.{Joined, memory, kept_word}
use Rattle.image_chain.specs.Append.{header_of, front, chained_length, spans_of, TakesSpan, AreInOrder, Keeps, IsAside, other}
use Rattle.image_chain.specs.declared.chain.Step.TheVariants.{Piece}
use Rattle.image_chain.specs.Lists.{found_of, Rests}
use Rattle.disk_model.specs.View.{View}

-- what was read before, and what is still read
abbrev pub with_front : List Image → Result (List Image) Damage → Result (List Image) Damage
with_front rs read = read >>= λ more. Ok (rs ++ more)

-- These records of the file were read, and are kept: what is left gives the rest of all its records.
pub record Walked (current : Current) (kept : Joined) (rs : List Image) (file : List ℕ) : Type 0 where
  pub images : AllByRecursion IsImage rs
  pub order : AreInOrder None rs
  pub count : current.count ≡ length rs
  pub newest : current.newest ≡ newest_of None rs
  pub gate : current.gate ≡ 15 + chained_length rs
  pub newest_at : (before : List Image) (r : Image) → rs ≡ before ++ r ∷ [] → current.newest_at ≡ 16 + chained_length before
  pub spans : take (length rs) current.spans ≡ spans_of 16 rs
  pub text : take current.gate file ≡ front current rs
  pub inside : current.gate < length file
  pub words : (c : ℕ) → kept_word kept c ≡ memory rs c
  pub total : with_front rs (records_at (current.max - current.count) current.file file current.newest current.gate) ≡ records_at current.max current.file file None 15

-- the chain that was opened, as the definition has it
abbrev pub opened_as : Option ChainView → List Image → Option Found
opened_as None rs = None
opened_as (Some chain) rs = found_of chain.current.file (header_of chain.current) rs

-- What is kept of a record that follows those before it.
pub record Accepted (old new : Current) (kept now : Joined) (image : Image) : Type 0 where
  pub room : old.count < old.max
  pub order : broken_field old.newest image.fields ≡ None
  pub file : new.file ≡ old.file
  pub header : header_of new ≡ header_of old
  pub count : new.count ≡ old.count + 1
  pub newest : new.newest ≡ Some image.fields
  pub newest_at : new.newest_at ≡ old.gate + 1
  pub spans : TakesSpan old new (image_length image)
  pub gate : new.gate ≡ old.gate + image_length image
  pub words : (c : ℕ) → kept_word now c ≡ option_or (word_in_runs image.runs c) (kept_word kept c)

-- The damage of a record that does not: it is one too many, or a field breaks the order.
abbrev pub IsRefused : ChainFault → Current → Image → Type 0
IsRefused Failed old image = ⊥
IsRefused (Damaged file place) old image =
    (file ≡ old.file) × (((old.count ≡ old.max) × (place ≡ old.gate))
    ⊎ ((old.count < old.max) × ((field : ℕ) × (broken_field old.newest image.fields ≡ Some field) × (place ≡ old.gate + 1 + field))))

-- All records of the file were read, and are kept.
pub record IsRead (current : Current) (kept : Joined) (rs : List Image) (file : List ℕ) : Type 0 where
  pub keeps : Keeps current rs
  pub some : 1 ≤ length rs
  pub gate : ℕ
  pub behind : List ℕ
  pub closed : gate ≢ 165
  pub text : file ≡ front current rs ++ gate ∷ behind
  pub words : (c : ℕ) → kept_word kept c ≡ memory rs c

-- the chain was read from these files, and the other file is aside
pub record IsReadFrom (chain : ChainView) (kept : Joined) (rs : List Image) (s : Store) : Type 0 where
  pub due : chain.due ≡ Piece 0
  pub image_file : chain.current.file ≢ Output
  pub read : IsRead chain.current kept rs (file_of chain.current.file s)
  pub aside : IsAside (other chain.current.file) chain.current.generation (length rs) (file_of (other chain.current.file) s)

-- what was read where a chain was found
abbrev pub IsFound : Option ChainView → Joined → List Image → Store → Type 0
IsFound None kept rs s = Unit {0}
IsFound (Some chain) kept rs s = IsReadFrom chain kept rs s

-- What was opened, on this disk: no crash leaves a chain; or the chain is at rest with these records, and their joined content is kept.
abbrev pub IsOpened : Option ChainView → Joined → List Image → View → Type 0
IsOpened None kept rs v = (c : Store) → v.may_leave c → chain_in c ≡ Ok None
IsOpened (Some chain) kept rs v = Rests chain v rs × ((c : ℕ) → kept_word kept c ≡ memory rs c)
