-- How many operands an instruction takes and leaves, and where it can go on.
use Rattle.std.specs.Prelude.{ℕ, ◌+◌, Option, Some, None, slice_get}
use Rattle.machine_code.specs.declared.instr.Instr.{Instr}
use Rattle.machine_code.specs.declared.instr.Instr.TheVariants.{Tick, Num, Addr, LoadC, StoreC, LoadL, StoreL, Move, Back, Fetch, Put, Add, Sub, Mul, Div, Rem, Shl, Shr, And, Or, Xor, Neg, Not, Inv, Test, Eq, Ne, Lt, Le, Gt, Ge, Jump, JumpZ, Call, Ret, Drop, OutC, OutB, OutN, In, Ckpt, Excl}
use Rattle.machine_code.specs.CodeView.{CodeView, Function, parameters}

abbrev pub parameters_of : Option Function → ℕ
parameters_of None = 0
parameters_of (Some f) = parameters f

-- how many operands an instruction takes
abbrev pub needs : CodeView → Instr → ℕ
needs c Tick = 0
needs c (Num n) = 0
needs c (Addr o) = 0
needs c (LoadC cell) = 0
needs c (StoreC cell) = 1
needs c (LoadL i) = 0
needs c (StoreL i) = 1
needs c Move = 2
needs c Back = 2
needs c Fetch = 1
needs c Put = 2
needs c Add = 2
needs c Sub = 2
needs c Mul = 2
needs c Div = 2
needs c Rem = 2
needs c Shl = 2
needs c Shr = 2
needs c And = 2
needs c Or = 2
needs c Xor = 2
needs c Neg = 1
needs c Not = 1
needs c Inv = 1
needs c Test = 1
needs c Eq = 2
needs c Ne = 2
needs c Lt = 2
needs c Le = 2
needs c Gt = 2
needs c Ge = 2
needs c (Jump t) = 0
needs c (JumpZ t) = 1
needs c (Call f) = parameters_of (slice_get c.functions f)
needs c Ret = 1
needs c Drop = 1
needs c OutC = 1
needs c (OutB b) = 0
needs c (OutN d) = d + 1
needs c In = 0
needs c (Ckpt n) = 0
needs c (Excl k) = 0

-- how many it leaves in their place; a call leaves the value that it returns
abbrev pub gives : Instr → ℕ
gives Tick = 0
gives (Num n) = 1
gives (Addr o) = 1
gives (LoadC cell) = 1
gives (StoreC cell) = 0
gives (LoadL i) = 1
gives (StoreL i) = 0
gives Move = 1
gives Back = 1
gives Fetch = 1
gives Put = 0
gives Add = 1
gives Sub = 1
gives Mul = 1
gives Div = 1
gives Rem = 1
gives Shl = 1
gives Shr = 1
gives And = 1
gives Or = 1
gives Xor = 1
gives Neg = 1
gives Not = 1
gives Inv = 1
gives Test = 1
gives Eq = 1
gives Ne = 1
gives Lt = 1
gives Le = 1
gives Gt = 1
gives Ge = 1
gives (Jump t) = 0
gives (JumpZ t) = 0
gives (Call f) = 1
gives Ret = 1
gives Drop = 0
gives OutC = 0
gives (OutB b) = 0
gives (OutN d) = d + 1
gives In = 1
gives (Ckpt n) = 0
gives (Excl k) = 0

-- each place of the same function at which the run can go on after instruction i at place p has the property
abbrev pub EachNext : (ℕ → Type 0) → Instr → ℕ → Type 0
EachNext P (Jump t) p = P t
EachNext P (JumpZ t) p = P t × P (p + 1)
EachNext P Ret p = Unit {0}
EachNext P i p = P (p + 1)
