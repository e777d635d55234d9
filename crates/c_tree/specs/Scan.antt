-- The tokens of a text (C99, 6.4), and the constants that its lines make (C99, 6.10).
use Rattle.std.specs.Prelude.{◌≡◌, ℕ, zero, suc, ℤ, pos, ◌+◌, ◌-◌, ◌*◌, ◌^◌, Bool, true, false, ◌&&◌, ◌||◌, not, if◌then◌else◌, ◌==◌, nat_lt, nat_le, List, [], ◌∷◌, ◌++◌, length, take, drop, slice_index_or, take_while, count_by, Option, Some, None, Result, Ok, Err, codes, bytes_eq}
use Rattle.std.specs.Int.{w64, int_wrapping_neg}
use Rattle.c_tree.specs.declared.token.Token.{Token}
use Rattle.c_tree.specs.declared.token.Kind.{Kind}
use Rattle.c_tree.specs.declared.token.Kind.TheVariants as kind
use Rattle.c_tree.specs.declared.token.Word.{Word}
use Rattle.c_tree.specs.declared.token.Word.TheVariants as word
use Rattle.c_tree.specs.declared.token.Piece.{Piece}
use Rattle.c_tree.specs.declared.token.Piece.TheVariants as piece'
use Rattle.c_tree.specs.declared.token.Directive.{Directive}
use Rattle.c_tree.specs.declared.token.Directive.TheVariants as directive'
use Rattle.c_tree.specs.declared.token.Within.{Within}
use Rattle.c_tree.specs.declared.token.Within.TheVariants as within
use Rattle.c_tree.specs.declared.token.Turn.{Turn}
use Rattle.c_tree.specs.declared.token.Turn.TheVariants as turn'
use Rattle.c_tree.specs.declared.tree.Constant.{Constant}
use Rattle.c_tree.specs.declared.tree.PrintPiece.{PrintPiece}
use Rattle.c_tree.specs.declared.tree.PrintPiece.TheVariants as writes

-- ---- bytes

-- blank, tab and carriage return; a newline ends a line, too
abbrev pub is_blank : ℕ → Bool
is_blank b = (b == 32) || (b == 9) || (b == 13)

abbrev pub is_digit : ℕ → Bool
is_digit b = nat_le 48 b && nat_le b 57

-- letters, digits and `_`
abbrev pub is_word : ℕ → Bool
is_word b = is_digit b || (nat_le 97 b && nat_le b 122) || (nat_le 65 b && nat_le b 90) || (b == 95)

-- the first byte, and 0 where there is none
abbrev pub next_byte : List ℕ → ℕ
next_byte [] = 0
next_byte (b ∷ bs) = b

-- ---- numbers (C99, 6.4.4.1)

-- the number that decimal digits spell after the number v
abbrev pub decimal : ℕ → List ℕ → ℕ
decimal v [] = v
decimal v (b ∷ bs) = decimal (v * 10 + (b - 48)) bs

abbrev pub are_digits : List ℕ → Bool
are_digits [] = true
are_digits (b ∷ bs) = is_digit b && are_digits bs

-- a 0 in front of further digits
abbrev pub leading_zero : List ℕ → Bool
leading_zero [] = false
leading_zero (b ∷ []) = false
leading_zero (b ∷ c ∷ bs) = b == 48

-- without the `L` that may stand at the end
abbrev pub unsuffixed : List ℕ → List ℕ
unsuffixed bs = if slice_index_or bs (length bs - 1) 0 == 76 then take (length bs - 1) bs else bs

abbrev pub greatest : ℕ
greatest = 2 ^ 63 - 1

-- the number of decimal digits without a leading zero
abbrev pub number : List ℕ → Option ℕ
number bs = if are_digits bs && not (leading_zero bs) && nat_le (decimal 0 bs) greatest then Some (decimal 0 bs) else None

-- ---- character constants (C99, 6.4.4.4)

-- a byte from 32 to 126 that stands for itself, between quotes of this kind
abbrev pub is_plain : ℕ → ℕ → Bool
is_plain quote b = nat_le 32 b && nat_le b 126 && not (b == quote) && not (b == 92)

-- the byte that a backslash and this byte stand for, between quotes of either kind
abbrev pub escaped : ℕ → Option ℕ
escaped b =
    if b == 110 then Some 10
    else (if b == 116 then Some 9
    else (if b == 92 then Some 92
    else None))

-- between single quotes a quote and a zero, too
abbrev pub escaped_character : ℕ → Option ℕ
escaped_character b = if b == 39 then Some 39 else (if b == 48 then Some 0 else escaped b)

-- the value so far, how many bytes it and the opening quote have, and what follows: the closing quote
abbrev pub closed : Option ℕ → ℕ → List ℕ → Piece
closed None n bs = piece'.BadByte (n - 1)
closed (Some v) n [] = piece'.BadByte n
closed (Some v) n (b ∷ bs) = if b == 39 then piece'.Is (kind.Num (pos v)) (n + 1) else piece'.BadByte n

abbrev pub after_backslash : List ℕ → Piece
after_backslash [] = piece'.BadByte 2
after_backslash (b ∷ bs) = closed (escaped_character b) 3 bs

-- a character constant is a number; this is what follows its opening quote
abbrev pub character : List ℕ → Piece
character [] = piece'.BadByte 1
character (b ∷ bs) = if b == 92 then after_backslash bs else closed (if is_plain 39 b then Some b else None) 2 bs

-- ---- strings (C99, 6.4.5), of the forms that `printf` takes here

abbrev pub writes_or_spoils : Option ℕ → Turn
writes_or_spoils None = turn'.Spoils
writes_or_spoils (Some b) = turn'.Writes (writes.Byte b)

abbrev pub turn : Within → ℕ → Turn
turn within.Plain b =
    if b == 34 then turn'.Closes
    else (if b == 92 then turn'.Goes within.Backslash
    else (if b == 37 then turn'.Goes within.Percent
    else (if is_plain 34 b then turn'.Writes (writes.Byte b) else turn'.Spoils)))
turn within.Backslash b = if b == 34 then turn'.Writes (writes.Byte 34) else writes_or_spoils (escaped b)
turn within.Percent b = if b == 37 then turn'.Writes (writes.Byte 37) else (if b == 108 then turn'.Goes within.PercentL else turn'.Spoils)
turn within.PercentL b = if b == 100 then turn'.Writes writes.Number else turn'.Spoils

abbrev pub turned : Turn → List PrintPiece → ℕ → (Within → List PrintPiece → Piece) → Piece
turned (turn'.Writes p) ps n go = go within.Plain (ps ++ p ∷ [])
turned (turn'.Goes w) ps n go = go w ps
turned turn'.Closes ps n go = piece'.Is (kind.Format ps) (n + 1)
turned turn'.Spoils ps n go = piece'.BadByte n

-- a string of which n bytes were read, which write these pieces; this is what follows
abbrev pub string : Within → List PrintPiece → ℕ → List ℕ → Piece
string w ps n [] = piece'.BadByte n
string w ps n (b ∷ bs) = turned (turn w b) ps n (λ v qs. string v qs (n + 1) bs)

-- ---- comments (C99, 6.4.9)

abbrev pub one_more : Option ℕ → Option ℕ
one_more None = None
one_more (Some n) = Some (n + 1)

-- how many bytes stand up to and with the next `*/`
abbrev pub comment : List ℕ → Option ℕ
comment [] = None
comment (a ∷ []) = None
comment (a ∷ b ∷ bs) = if (a == 42) && (b == 47) then Some 2 else one_more (comment (b ∷ bs))

-- how many lines end in these bytes
abbrev pub newlines : List ℕ → ℕ
newlines bs = count_by (λ b. b == 10) bs

abbrev pub commented : Option ℕ → List ℕ → Piece
commented None bs = piece'.Unended
commented (Some n) bs = piece'.Blank (n + 2) (newlines (take n bs))

abbrev pub is_no_newline : ℕ → Bool
is_no_newline b = not (b == 10)

-- the bytes up to the end of the line
abbrev pub line_rest : List ℕ → List ℕ
line_rest bs = take_while is_no_newline bs

-- ---- words and marks (C99, 6.4.1, 6.4.6)

-- the other keywords of C99
abbrev pub is_other : List ℕ → Bool
is_other bs =
    bytes_eq bs (codes "auto") || bytes_eq bs (codes "case") || bytes_eq bs (codes "char") || bytes_eq bs (codes "const") || bytes_eq bs (codes "default") || bytes_eq bs (codes "double") || bytes_eq bs (codes "enum")
    || bytes_eq bs (codes "extern") || bytes_eq bs (codes "float") || bytes_eq bs (codes "goto") || bytes_eq bs (codes "inline") || bytes_eq bs (codes "register") || bytes_eq bs (codes "restrict")
    || bytes_eq bs (codes "short") || bytes_eq bs (codes "signed") || bytes_eq bs (codes "sizeof") || bytes_eq bs (codes "static") || bytes_eq bs (codes "struct") || bytes_eq bs (codes "switch")
    || bytes_eq bs (codes "typedef") || bytes_eq bs (codes "union") || bytes_eq bs (codes "unsigned") || bytes_eq bs (codes "volatile") || bytes_eq bs (codes "_Bool") || bytes_eq bs (codes "_Complex")
    || bytes_eq bs (codes "_Imaginary")

abbrev pub keyword_of_calls : List ℕ → Option Word
keyword_of_calls bs =
    if bytes_eq bs (codes "main") then Some word.Main
    else (if bytes_eq bs (codes "putchar") then Some word.Putchar
    else (if bytes_eq bs (codes "printf") then Some word.Printf
    else (if bytes_eq bs (codes "getchar") then Some word.Getchar
    else (if bytes_eq bs (codes "CHECKPOINT_HERE") then Some word.Checkpoint
    else (if bytes_eq bs (codes "EXCLUDE_HERE") then Some word.Exclude
    else (if bytes_eq bs (codes "EOF") then Some word.Eof
    else (if bytes_eq bs (codes "NULL") then Some word.Null
    else (if is_other bs then Some word.Other
    else None))))))))

-- a keyword is never a name
abbrev pub keyword : List ℕ → Option Word
keyword bs =
    if bytes_eq bs (codes "int") then Some word.Int
    else (if bytes_eq bs (codes "long") then Some word.Long
    else (if bytes_eq bs (codes "void") then Some word.Void
    else (if bytes_eq bs (codes "return") then Some word.Return
    else (if bytes_eq bs (codes "if") then Some word.If
    else (if bytes_eq bs (codes "else") then Some word.Else
    else (if bytes_eq bs (codes "while") then Some word.While
    else (if bytes_eq bs (codes "for") then Some word.For
    else (if bytes_eq bs (codes "do") then Some word.Do
    else (if bytes_eq bs (codes "break") then Some word.Break
    else (if bytes_eq bs (codes "continue") then Some word.Continue
    else keyword_of_calls bs))))))))))

-- a mark of two bytes: the longest is taken
abbrev pub long_mark : ℕ → ℕ → Option Word
long_mark b c =
    if (b == 61) && (c == 61) then Some word.EqualEqual
    else (if (b == 33) && (c == 61) then Some word.Unequal
    else (if (b == 60) && (c == 61) then Some word.AtMost
    else (if (b == 62) && (c == 61) then Some word.AtLeast
    else (if (b == 60) && (c == 60) then Some word.ShiftLeft
    else (if (b == 62) && (c == 62) then Some word.ShiftRight
    else (if (b == 38) && (c == 38) then Some word.AndAnd
    else (if (b == 124) && (c == 124) then Some word.OrOr
    else None)))))))

-- the marks that take no value of an expression
abbrev pub bracket : ℕ → Option Word
bracket b =
    if b == 40 then Some word.LParen
    else (if b == 41 then Some word.RParen
    else (if b == 123 then Some word.LBrace
    else (if b == 125 then Some word.RBrace
    else (if b == 91 then Some word.LBracket
    else (if b == 93 then Some word.RBracket
    else (if b == 59 then Some word.Semi
    else (if b == 44 then Some word.Comma
    else (if b == 61 then Some word.Assign
    else None))))))))

-- a mark of one byte
abbrev pub short_mark : ℕ → Option Word
short_mark b =
    if b == 124 then Some word.Bar
    else (if b == 94 then Some word.Caret
    else (if b == 38 then Some word.Ampersand
    else (if b == 60 then Some word.Less
    else (if b == 62 then Some word.Greater
    else (if b == 43 then Some word.Plus
    else (if b == 45 then Some word.Minus
    else (if b == 42 then Some word.Star
    else (if b == 47 then Some word.Slash
    else (if b == 37 then Some word.Percent
    else (if b == 33 then Some word.Bang
    else (if b == 126 then Some word.Tilde
    else bracket b)))))))))))

-- ---- what stands at the front

-- the longest run of letters, digits and `_`
abbrev pub run : List ℕ → List ℕ
run bs = take_while is_word bs

abbrev pub numbered : Option ℕ → ℕ → Piece
numbered None n = piece'.BadNumber
numbered (Some v) n = piece'.Is (kind.Num (pos v)) n

abbrev pub named : Option Word → List ℕ → Piece
named (Some w) bs = piece'.Is (kind.Word w) (length bs)
named None bs = piece'.Is (kind.Name bs) (length bs)

abbrev pub marked_short : Option Word → Piece
marked_short None = piece'.BadByte 0
marked_short (Some w) = piece'.Is (kind.Word w) 1

abbrev pub marked : Option Word → ℕ → Piece
marked None b = marked_short (short_mark b)
marked (Some w) b = piece'.Is (kind.Word w) 2

-- what follows `/`: a comment, or the mark is taken
abbrev pub slashed : List ℕ → Piece
slashed bs =
    if next_byte bs == 42 then commented (comment (drop 1 bs)) (drop 1 bs)
    else (if next_byte bs == 47 then piece'.Blank (length (line_rest bs) + 1) 0
    else marked (long_mark 47 (next_byte bs)) 47)

-- a mark, a string, a character constant or a comment begins with b
unfoldable pub mark_piece : ℕ → List ℕ → Piece
mark_piece b bs =
    if b == 39 then character bs
    else (if b == 34 then string within.Plain [] 1 bs
    else (if b == 35 then piece'.Hash
    else (if b == 47 then slashed bs
    else marked (long_mark b (next_byte bs)) b)))

-- what stands at the front of a text that is not over
unfoldable pub piece : List ℕ → Piece
piece [] = piece'.BadByte 0
piece (b ∷ bs) =
    if b == 10 then piece'.Blank 1 1
    else (if is_blank b then piece'.Blank 1 0
    else (if is_digit b then numbered (number (unsuffixed (run (b ∷ bs)))) (length (run (b ∷ bs)))
    else (if is_word b then named (keyword (run (b ∷ bs))) (run (b ∷ bs))
    else mark_piece b bs)))

-- ---- lines that begin with `#` (C99, 6.10)

abbrev pub with_kind : Piece → (ℕ → List Kind) → List Kind
with_kind (piece'.Blank n m) go = go n
with_kind (piece'.Is x n) go = x ∷ go n
with_kind _ go = kind.Word word.Other ∷ []

-- the kinds of the tokens of a line, in at most so many pieces; what is spoiled counts as a keyword of no use, and ends them
abbrev pub kinds_within : ℕ → List ℕ → List Kind
kinds_within n [] = []
kinds_within zero bs = []
kinds_within (suc n) bs = with_kind (piece bs) (λ k. kinds_within n (drop k bs))

abbrev pub kinds : List ℕ → List Kind
kinds bs = kinds_within (length bs) bs

abbrev pub constant : List ℕ → ℤ → Directive
constant x v = directive'.Define (record { name = x; number = v })

-- a name and a number, with a minus or without; no number of a text is the least one
abbrev pub definition : List Kind → Directive
definition (kind.Name x ∷ kind.Num v ∷ []) = constant x v
definition (kind.Name x ∷ kind.Word word.Minus ∷ kind.Num v ∷ []) = constant x (int_wrapping_neg w64 v)
definition _ = directive'.Bad

abbrev pub directive_of : List ℕ → List Kind → Directive
directive_of bs ks = if bytes_eq bs (codes "include") then directive'.Include else (if bytes_eq bs (codes "define") then definition ks else directive'.Bad)

-- what a line says, by the tokens behind its `#`
abbrev pub directive : List Kind → Directive
directive (kind.Name bs ∷ ks) = directive_of bs ks
directive _ = directive'.Bad

-- ---- the whole text

-- the first fault of a text that has no tokens; places count from 0
pub data Spoiled : Type 0 where
  BadByte : ℕ → Spoiled
  BadNumber : ℕ → Spoiled
  UnendedComment : Spoiled

-- the tokens and the constants of a text, each in order
pub record Scanned : Type 0 where
  pub tokens : List Token
  pub constants : List Constant

abbrev pub Scan : Type 0
Scan = Result Scanned Spoiled

-- where a token stands: its line, and how many constants the text has made before it
pub record Spot : Type 0 where
  pub line : ℕ
  pub constants : ℕ

abbrev pub at : Spot → Kind → Token
at s x = record { kind = x; line = s.line; constants = s.constants }

-- how far the text was taken apart: its bytes, where a token would stand, and that none stands in this line yet
pub record Here : Type 0 where
  pub place : ℕ
  pub spot : Spot
  pub fresh : Bool

abbrev pub start : Here
start = record { place = 0; spot = record { line = 1; constants = 0 }; fresh = true }

-- behind blanks in which so many lines end
abbrev pub passed : Here → ℕ → ℕ → Here
passed h n m = record { place = h.place + n; spot = record { line = h.spot.line + m; constants = h.spot.constants }; fresh = h.fresh || nat_lt 0 m }

-- behind a token
abbrev pub taken : Here → ℕ → Here
taken h n = record { place = h.place + n; spot = h.spot; fresh = false }

-- behind a line that makes a constant
abbrev pub made : Here → ℕ → Here
made h n = record { place = h.place + n; spot = record { line = h.spot.line; constants = h.spot.constants + 1 }; fresh = false }

abbrev pub with_token : Token → Scan → Scan
with_token t (Ok s) = Ok (record s { tokens = t ∷ s.tokens })
with_token t (Err e) = Err e

abbrev pub with_constant : Constant → Scan → Scan
with_constant c (Ok s) = Ok (record s { constants = c ∷ s.constants })
with_constant c (Err e) = Err e

-- a line that begins with `#` and has n bytes in all
abbrev pub directed : Directive → Here → ℕ → (Here → ℕ → Scan) → Scan
directed directive'.Include h n go = go (passed h n 0) n
directed (directive'.Define c) h n go = with_constant c (go (made h n) n)
directed directive'.Bad h n go = Err (BadByte h.place)

-- `#` has a meaning only where it begins a line's tokens
abbrev pub hashed : Bool → Here → List ℕ → (Here → ℕ → Scan) → Scan
hashed true h line go = directed (directive (kinds line)) h (length line + 1) go
hashed false h line go = Err (BadByte h.place)

-- a piece of a text; what goes on takes where it is and how many bytes the piece has
abbrev pub step : Piece → Here → List ℕ → (Here → ℕ → Scan) → Scan
step (piece'.Blank n m) h bs go = go (passed h n m) n
step (piece'.Is x n) h bs go = with_token (at h.spot x) (go (taken h n) n)
step piece'.Hash h bs go = hashed h.fresh h (line_rest (drop 1 bs)) go
step (piece'.BadByte n) h bs go = Err (BadByte (h.place + n))
step piece'.BadNumber h bs go = Err (BadNumber h.place)
step piece'.Unended h bs go = Err UnendedComment

-- the rest of a text, in at most so many pieces
abbrev pub scan_from : ℕ → Here → List ℕ → Scan
scan_from n h [] = Ok (record { tokens = []; constants = [] })
scan_from zero h bs = Ok (record { tokens = []; constants = [] })
scan_from (suc n) h bs = step (piece bs) h bs (λ g k. scan_from n g (drop k bs))

-- each piece has a byte or more, so that there are no more pieces than bytes
abbrev pub scan : List ℕ → Scan
scan text = scan_from (length text) start text

-- these are the tokens of the text, each with its place, and its constants
abbrev pub Scans : List ℕ → Scanned → Type 0
Scans text s = scan text ≡ Ok s

-- the text has no tokens, and this is its first fault
abbrev pub IsSpoiled : List ℕ → Spoiled → Type 0
IsSpoiled text e = scan text ≡ Err e
