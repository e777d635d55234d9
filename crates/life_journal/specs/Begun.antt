-- What beginning a journal leaves of the disk.
use Rattle.std.specs.Prelude.{◌≡◌, ℕ, List, take, None, Ok}
use Rattle.disk_model.specs.Store.{Store, file_of}
use Rattle.image_format.specs.Image.{Image}
use Rattle.image_chain.specs.declared.chain.Current.{Current}
use Rattle.image_chain.specs.Records.{chain_in}
use Rattle.image_chain.specs.Append.{other}
use Rattle.image_chain.specs.Lists.{Lists}

-- no file is current, and nothing is damaged
abbrev pub HasNoChain : Store → Type 0
HasNoChain c = chain_in c ≡ Ok None

-- an earlier outcome, but that the chain has these records, and but for the output from a place on
pub record IsCutBehind (chain : Current) (rs : List Image) (place : ℕ) (old new : Store) : Type 0 where
  pub lists : Lists chain rs new
  pub aside : file_of (other chain.file) new ≡ file_of (other chain.file) old
  pub output : take place new.output ≡ take place old.output
