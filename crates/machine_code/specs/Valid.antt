-- Codes that never miss an operand, a local or an instruction.
use Rattle.std.specs.Prelude.{◌≡◌, ◌≢◌, ℕ, ◌+◌, ◌-◌, ◌^◌, ◌<◌, ◌≤◌, Bool, ◌&&◌, ◌==◌, List, map, length, slice_index, slice_get, Some, EachIndex, IsTrue}
use Rattle.std.specs.List.{All, list_any}
use Rattle.machine_code.specs.declared.instr.Instr.{Instr}
use Rattle.machine_code.specs.declared.instr.Instr.TheVariants.{Tick, Addr, LoadL, StoreL, Call, Ckpt, Excl}
use Rattle.machine_code.specs.CodeView.{CodeView, Function, start, parameters, locals, Checkpoint, node, place_after, home, locals_at}
use Rattle.machine_code.specs.Needs.{needs, gives, EachNext}

-- a function begins at an instruction behind that of `main`, and its parameters are among its locals
pub record IsFunction (c : CodeView) (f : Function) : Type 0 where
  pub behind_main : 0 < start f
  pub within : start f < length c.instrs
  pub parameters : parameters f ≤ locals f

-- what instruction i at place p names is there: the object, the local, the function. A checkpoint and a directive stand in `main` alone
abbrev pub Names : CodeView → ℕ → Instr → Type 0
Names c p (Addr o) = o < length c.objects
Names c p (LoadL i) = i < locals_at c p
Names c p (StoreL i) = i < locals_at c p
Names c p (Call f) = f < length c.functions
Names c p (Ckpt n) = home c.functions p ≡ 0
Names c p (Excl k) = home c.functions p ≡ 0
Names c p i = Unit {0}

-- at a tick and at a checkpoint there are no operands
abbrev pub LevelAt : Instr → ℕ → Type 0
LevelAt Tick d = d ≡ 0
LevelAt (Ckpt n) d = d ≡ 0
LevelAt i d = Unit {0}

-- from place p the run can go on at place q with d operands: q is an instruction of the same function, and where q is not behind p it is a tick
pub record IsNext (c : CodeView) (depths : List ℕ) (p : ℕ) (d : ℕ) (q : ℕ) : Type 0 where
  pub within : q < length c.instrs
  pub same : home c.functions q ≡ home c.functions p
  pub depth : slice_index depths q ≡ d
  pub back : q ≤ p → slice_get c.instrs q ≡ Some Tick

-- instruction i stands rightly at place p: it has its operands, they are not too many, what it names is there, and so are the places at which it goes on
pub record Stands (c : CodeView) (depths : List ℕ) (p : ℕ) (i : Instr) : Type 0 where
  pub enough : needs c i ≤ slice_index depths p
  pub few : slice_index depths p ≤ c.stack
  pub level : LevelAt i (slice_index depths p)
  pub names : Names c p i
  pub next : EachNext (IsNext c depths p (slice_index depths p - needs c i + gives i)) i p

unfoldable pub StandsAt : CodeView → List ℕ → ℕ → Type 0
StandsAt c depths p = (i : Instr) → slice_get c.instrs p ≡ Some i → Stands c depths p i

-- no instruction goes on at place q
abbrev pub NoneComesTo : CodeView → ℕ → Type 0
NoneComesTo c q = (p : ℕ) (i : Instr) → slice_get c.instrs p ≡ Some i → EachNext (λ r. r ≢ q) i p

-- before each instruction there is always the same number of operands, and it is this one
pub record AreDepths (c : CodeView) (depths : List ℕ) : Type 0 where
  pub each : length depths ≡ length c.instrs
  pub stands : EachIndex c.instrs (StandsAt c depths)
  pub main : slice_index depths 0 ≡ 0
  pub starts : All (λ f. slice_index depths (start f) ≡ 0) c.functions
  pub unreached : (q : ℕ) → NoneComesTo c q → slice_index depths q ≡ 0

-- the number differs from each earlier one
unfoldable pub IsNewAt : List ℕ → ℕ → Type 0
IsNewAt xs j = (i : ℕ) → i < j → slice_index xs i ≢ slice_index xs j

-- no two of the numbers are the same
abbrev pub AreDistinct : List ℕ → Type 0
AreDistinct xs = EachIndex xs (IsNewAt xs)

-- the table has a checkpoint of node n with the place q after it
abbrev pub has_checkpoint : CodeView → ℕ → ℕ → Bool
has_checkpoint c n q = list_any (λ k. (node k == n) && (place_after k == q)) c.checkpoints

-- the entry is that of a checkpoint in the code
abbrev pub IsEntry : CodeView → Checkpoint → Type 0
IsEntry c k = (0 < place_after k) × (slice_get c.instrs (place_after k - 1) ≡ Some (Ckpt (node k)))

-- where there is a checkpoint at place p, the table has it
unfoldable pub IsListedAt : CodeView → ℕ → Type 0
IsListedAt c p = (n : ℕ) → slice_get c.instrs p ≡ Some (Ckpt n) → IsTrue (has_checkpoint c n (p + 1))

-- a code that a machine can run
pub record IsValid (c : CodeView) : Type 0 where
  pub some : 0 < length c.instrs
  pub objects : length c.objects < 2 ^ 32
  pub functions : All (IsFunction c) c.functions
  pub starts : AreDistinct (map start c.functions)
  pub depths : (d : List ℕ) × AreDepths c d
  pub entries : All (IsEntry c) c.checkpoints
  pub listed : EachIndex c.instrs (IsListedAt c)
  pub nodes : AreDistinct (map node c.checkpoints)
