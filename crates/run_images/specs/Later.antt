-- How far the newest image of a store is.
use Rattle.std.specs.Prelude.{◌≡◌, ℕ, ◌≤◌, Some, None, Ok}
use Rattle.disk_model.specs.Store.{Store}
use Rattle.disk_model.specs.View.{View}
use Rattle.image_format.specs.declared.fields.Fields.{Fields}
use Rattle.image_chain.specs.Records.{Found, chain_in, newest_of}

-- the newest image of the store is image j or a later one
pub record IsLater (j : ℕ) (c : Store) : Type 0 where
  pub found : Found
  pub chain : chain_in c ≡ Ok (Some found)
  pub newest : Fields
  pub newest_is : newest_of None found.records ≡ Some newest
  pub later : j ≤ newest.number

-- so it is of every store that a crash now may leave
abbrev pub AllLater : ℕ → View → Type 0
AllLater j v = (c : Store) → v.may_leave c → IsLater j c
