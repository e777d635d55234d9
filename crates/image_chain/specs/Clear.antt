-- A store that is cleared: both image files begun anew, and no record.
use Rattle.std.specs.Prelude.{◌≡◌, ◌⊎◌, ℕ, List, None, Ok, false}
use Rattle.disk_model.specs.Store.{Store}
use Rattle.disk_model.specs.View.{View}
use Rattle.image_format.specs.declared.header.Header.{Header}
use Rattle.image_format.specs.Spelling.{header_bytes}
use Rattle.image_chain.specs.Records.{chain_in}

-- the header that a cleared file has: generation 1, and a gate that is closed
abbrev pub blank_header : Header
blank_header = record { generation = 1; every = 1; max = 16; gate_open = false }

-- a file that has only this header
abbrev pub blank : List ℕ
blank = header_bytes blank_header 0

-- each image file is blank
pub record IsBlank (s : Store) : Type 0 where
  pub one : s.one ≡ blank
  pub two : s.two ≡ blank

-- an earlier outcome, but that file Two is blank, and then file One
pub record IsClearing (old new : Store) : Type 0 where
  pub output : new.output ≡ old.output
  pub images : ((new.one ≡ old.one) × ((new.two ≡ old.two) ⊎ (new.two ≡ blank))) ⊎ IsBlank new

-- reads and each crash give two blank image files, and so no chain
pub record IsCleared (v : View) : Type 0 where
  pub reads : IsBlank v.seen
  pub left : (c : Store) → v.may_leave c → IsBlank c
  pub none_read : chain_in v.seen ≡ Ok None
  pub none_left : (c : Store) → v.may_leave c → chain_in c ≡ Ok None
