-- The listing of a code.
use Rattle.std.specs.Prelude.{ℕ, ◌+◌, List, [], ◌∷◌, ◌++◌, codes}
use Rattle.std.specs.Fmt.{decimal, signed_decimal}
use Rattle.machine_code.specs.declared.instr.Instr.{Instr}
use Rattle.machine_code.specs.declared.instr.Instr.TheVariants.{Tick, Num, Addr, LoadC, StoreC, LoadL, StoreL, Move, Back, Fetch, Put, Add, Sub, Mul, Div, Rem, Shl, Shr, And, Or, Xor, Neg, Not, Inv, Test, Eq, Ne, Lt, Le, Gt, Ge, Jump, JumpZ, Call, Ret, Drop, OutC, OutB, OutN, In, Ckpt, Excl}

-- the name of an instruction, and its operand after a blank
abbrev pub instr_text : Instr → List ℕ
instr_text Tick = codes "TICK"
instr_text (Num n) = codes "NUM " ++ signed_decimal n
instr_text (Addr o) = codes "ADDR " ++ decimal o
instr_text (LoadC c) = codes "LOADC " ++ decimal c
instr_text (StoreC c) = codes "STOREC " ++ decimal c
instr_text (LoadL i) = codes "LOADL " ++ decimal i
instr_text (StoreL i) = codes "STOREL " ++ decimal i
instr_text Move = codes "MOVE"
instr_text Back = codes "BACK"
instr_text Fetch = codes "FETCH"
instr_text Put = codes "PUT"
instr_text Add = codes "ADD"
instr_text Sub = codes "SUB"
instr_text Mul = codes "MUL"
instr_text Div = codes "DIV"
instr_text Rem = codes "REM"
instr_text Shl = codes "SHL"
instr_text Shr = codes "SHR"
instr_text And = codes "AND"
instr_text Or = codes "OR"
instr_text Xor = codes "XOR"
instr_text Neg = codes "NEG"
instr_text Not = codes "NOT"
instr_text Inv = codes "INV"
instr_text Test = codes "TEST"
instr_text Eq = codes "EQ"
instr_text Ne = codes "NE"
instr_text Lt = codes "LT"
instr_text Le = codes "LE"
instr_text Gt = codes "GT"
instr_text Ge = codes "GE"
instr_text (Jump t) = codes "JUMP " ++ decimal t
instr_text (JumpZ t) = codes "JUMPZ " ++ decimal t
instr_text (Call f) = codes "CALL " ++ decimal f
instr_text Ret = codes "RET"
instr_text Drop = codes "DROP"
instr_text OutC = codes "OUTC"
instr_text (OutB b) = codes "OUTB " ++ decimal b
instr_text (OutN d) = codes "OUTN " ++ decimal d
instr_text In = codes "IN"
instr_text (Ckpt n) = codes "CKPT " ++ decimal n
instr_text (Excl k) = codes "EXCL " ++ decimal k

-- the place, the instruction and a newline
abbrev pub line : ℕ → Instr → List ℕ
line p i = decimal p ++ codes " " ++ instr_text i ++ codes "\n"

-- the lines of the instructions from place p on
abbrev pub lines_from : ℕ → List Instr → List ℕ
lines_from p [] = []
lines_from p (i ∷ is) = line p i ++ lines_from (p + 1) is

-- a line for each instruction from place 0 on
abbrev pub listing : List Instr → List ℕ
listing is = lines_from 0 is
