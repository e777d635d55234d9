-- The output on the disk, now and at each moment.
use Rattle.std.specs.Prelude.{◌≡◌, ℕ, ◌≤◌, List, ◌++◌, length, take}
use Rattle.disk_model.specs.Store.{Store}
use Rattle.disk_model.specs.View.{View}
use Rattle.output_file.specs.Pushed.{Pushed}

-- the file has at least n bytes
abbrev pub HasAtLeast : ℕ → List ℕ → Type 0
HasAtLeast n file = n ≤ length file

-- what a crash may leave of the file: of these bytes the lasting ones, and no more than were written
pub record IsLeft (o : Pushed) (bytes file : List ℕ) : Type 0 where
  pub lasting : take o.lasting file ≡ take o.lasting bytes
  pub no_longer : length file ≤ o.written

-- These are the bytes from the file's front on, the waiting ones last, and the disk holds them as the calls so far have left them.
pub record IsOutputOn (o : Pushed) (v : View) (bytes : List ℕ) : Type 0 where
  pub reads : bytes ≡ v.seen.output ++ o.waiting
  pub written : length v.seen.output ≡ o.written
  pub within : o.lasting ≤ o.written
  pub left : (c : Store) → v.may_leave c → IsLeft o bytes c.output

-- The file holds exactly these bytes, for reads and after each crash.
pub record IsOnDisk (bytes : List ℕ) (v : View) : Type 0 where
  pub reads : v.seen.output ≡ bytes
  pub left : (c : Store) → v.may_leave c → c.output ≡ bytes

-- an earlier outcome of a crash, but for the output file from a place on
pub record IsBehind (place : ℕ) (old new : Store) : Type 0 where
  pub output : take place new.output ≡ take place old.output
  pub one : new.one ≡ old.one
  pub two : new.two ≡ old.two
