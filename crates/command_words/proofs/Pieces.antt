-- The pieces of a word between marks.
use Rattle.std.proofs.Common.{◌≡◌, ◌<◌, ◌≤◌, ◌∙◌, refl, sym, ap, ℕ, suc, zero, List, [], ◌∷◌, ◌++◌, length, append_assoc, subst, MatchOption, Bor, option_and_then, Option, Some, None, Bool, true, false, ◌==◌, arith}
use Rattle.std.specs.Option.{option_map}
use Rattle.command_words.specs.Options.{Word}
use Rattle.command_words.specs.Stops.{front, behind, with_byte, pieces, stop_of, stops_of_each}
use Rattle.command_words.specs.declared.stops.Stop.{Stop}

-- none where there is no word
abbrev pub pieces_of : ℕ → Option Word → List Word
pieces_of mark None = []
pieces_of mark (Some word) = pieces mark word

-- how long a word is, with one more
abbrev pub size_of : Option Word → ℕ
size_of None = 0
size_of (Some word) = suc (length word)

-- the first piece, and those behind the mark
pub first_piece : (mark : ℕ) (word : Word) → pieces mark word ≡ front mark word ∷ pieces_of mark (behind mark word)
first_piece mark [] = refl
first_piece mark (b ∷ bs) = elim (b == mark) as (λ t. (b == mark) ≡ t → pieces mark (b ∷ bs) ≡ front mark (b ∷ bs) ∷ pieces_of mark (behind mark (b ∷ bs))) [
  | true ↦ λ is. rw is refl
  | false ↦ λ is. rw is (ap (with_byte b) (first_piece mark bs))
] refl

pub behind_shorter : (mark : ℕ) (word : Word) → size_of (behind mark word) < suc (length word)
behind_shorter mark [] = omega arith
behind_shorter mark (b ∷ bs) = elim (b == mark) as (λ t. (b == mark) ≡ t → size_of (behind mark (b ∷ bs)) < suc (length (b ∷ bs))) [
  | true ↦ λ is. rw is (omega arith)
  | false ↦ λ is. rw is (let less = behind_shorter mark bs in omega (arith, less))
] refl

-- the words that are lent
abbrev pub lent : Option (Bor Word) → Option Word
lent o = option_map (λ w. w.now) o

pub same_behind : (r : Option (Bor Word)) (b : Option Word) → MatchOption r (b ≡ None) (λ x. b ≡ Some x.now) → lent r ≡ b
same_behind None b is = sym is
same_behind (Some x) b is = sym is

-- ---- the stops of a list

first_stop : (word : Word) → stops_of_each (pieces 44 word) ≡ option_and_then (λ stop. option_map (λ stops. stop ∷ stops) (stops_of_each (pieces_of 44 (behind 44 word)))) (stop_of (front 44 word))
first_stop word = ap stops_of_each (first_piece 44 word)

mapped : (items : List Stop) (stop : Stop) (o : Option (List Stop)) → option_map (λ more. items ++ more) (option_map (λ stops. stop ∷ stops) o) ≡ option_map (λ more. (items ++ stop ∷ []) ++ more) o
mapped items stop None = refl
mapped items stop (Some xs) = ap Some (sym (append_assoc items (stop ∷ []) xs))

-- the stops of a list that was read so far are these, and behind them those of the words that are left
abbrev pub AreSoFar : List Stop → Option Word → (word : Word) → Type 0
AreSoFar items rest word = stops_of_each (pieces 44 word) ≡ option_map (λ more. items ++ more) (stops_of_each (pieces_of 44 rest))

pub no_stop : (items : List Stop) (rest : Option (Bor Word)) (item : Bor Word) (word : Word) → rest ≡ Some item → AreSoFar items (lent rest) word → stop_of (front 44 item.now) ≡ None → stops_of_each (pieces 44 word) ≡ None
no_stop items rest item word is so_far none =
    let now : AreSoFar items (Some item.now) word = subst (λ o. AreSoFar items (lent o) word) is so_far in
    now ∙ ap (option_map (λ more. items ++ more)) (first_stop item.now ∙ ap (option_and_then (λ stop. option_map (λ stops. stop ∷ stops) (stops_of_each (pieces_of 44 (behind 44 item.now))))) none)

pub one_stop : (items : List Stop) (rest : Option (Bor Word)) (item : Bor Word) (word : Word) (stop : Stop) (then : Option (Bor Word)) → rest ≡ Some item → AreSoFar items (lent rest) word → stop_of (front 44 item.now) ≡ Some stop → lent then ≡ behind 44 item.now
    → AreSoFar (items ++ stop ∷ []) (lent then) word
one_stop items rest item word stop then is so_far some same =
    let now : AreSoFar items (Some item.now) word = subst (λ o. AreSoFar items (lent o) word) is so_far in
    let left = stops_of_each (pieces_of 44 (behind 44 item.now)) in
    subst (λ o. AreSoFar (items ++ stop ∷ []) o word) (sym same)
    (now ∙ ap (option_map (λ more. items ++ more)) (first_stop item.now ∙ ap (option_and_then (λ s. option_map (λ stops. s ∷ stops) left)) some) ∙ mapped items stop left)
