-- What is read takes tokens.
use Rattle.std.proofs.Common.{ℕ, ◌<◌, List, ◌∷◌, length, ap, arith}
use Rattle.c_tree.specs.declared.token.Token.{Token}
use Rattle.c_tree.specs.declared.token.Word.TheVariants as word
use Rattle.c_tree.specs.Expressions.{Form, Num, Eof, Null, Named, Index, Address, AddressAt, Brackets, Sign, Both, the, mark, tokens}
use Rattle.c_reader.specs.Reading.{value}
use Rattle.c_reader.proofs.Sound.{value_sound}
use Rattle.c_reader.proofs.Listings.{Takes}

pub form_grows : (f : Form) (ts : List Token) → length ts < length (tokens f ts)
form_grows (Num s n) ts = omega arith
form_grows (Eof s) ts = omega arith
form_grows (Null s) ts = omega arith
form_grows (Named s x) ts = omega arith
form_grows (Index s x o f c) ts = omega (arith, form_grows f (the c word.RBracket ∷ ts))
form_grows (Address s n x) ts = omega arith
form_grows (AddressAt s n x o f c) ts = omega (arith, form_grows f (the c word.RBracket ∷ ts))
form_grows (Brackets o f c) ts = omega (arith, form_grows f (the c word.RParen ∷ ts))
form_grows (Sign s op f) ts = omega (arith, form_grows f ts)
form_grows (Both f s op g) ts = omega (arith, form_grows f (the s (mark op) ∷ tokens g ts), form_grows g ts)

pub value_takes : (d : ℕ) → Takes (value d)
value_takes d ts x h = let s = value_sound d ts x h in omega (arith, ap length s.tokens_are, form_grows s.form x.rest)
