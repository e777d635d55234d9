-- The code of single statements: it does to the machine what they do to a state.
use Rattle.std.proofs.Common.{◌≡◌, ℕ, suc, ◌+◌, List, [], ◌∷◌, ◌++◌, length, Option, Some, None, Result, Ok, Err, Bool, true, false, cond, refl, sym, ap, ◌∙◌, subst, arith, length-append, count_by, pos}
use Rattle.std.proofs.lemmas.Bool.{and_parts}
use Rattle.std.proofs.lemmas.List.Recursion.{is_count_by}
use Rattle.std.specs.Prelude.{slice_get, slice_set}
use Rattle.std.specs.List.{list_all}
use Rattle.ckpt_base.specs.declared.trap.Trap.{Trap}
use Rattle.ckpt_base.specs.Pointer.{cell_of}
use Rattle.c_tree.specs.declared.tree.PrintPiece.{PrintPiece}
use Rattle.c_tree.specs.declared.tree.PrintPiece.TheVariants as print
use Rattle.c_tree.specs.declared.resolved.RExpr.{RExpr}
use Rattle.c_tree.specs.declared.resolved.RPlace.{RPlace}
use Rattle.c_tree.specs.declared.resolved.RPlace.TheVariants as place
use Rattle.c_tree.specs.State.{State, ToLocal, Through, target, write, written, set, store, declare, value, ◌>>=◌}
use Rattle.c_tree.specs.Kinds.{World as Rules, kind, agree, place_kind, stores, starts, answers, is_variable, is_number, is_hole, are_given}
use Rattle.machine_code.specs.declared.instr.Instr.{Instr}
use Rattle.machine_code.specs.declared.instr.Instr.TheVariants as instr
use Rattle.machine_code.specs.declared.event.Caller.{Caller}
use Rattle.machine_code.specs.CodeView.{CodeView}
use Rattle.machine_code.specs.Row.{Done, row, ran}
use Rattle.machine_code.specs.Row as row'
use Rattle.machine_code.specs.Run.{World, unprotected, row_at, Reaches}
use Rattle.machine_code.proofs.RunLaws.{reaches_on}
use Rattle.code_maker.specs.ExprCode.{Block, both, then_one, expr_block}
use Rattle.code_maker.specs.NodeCode.{set_block, given_block, keep_answer}
use Rattle.code_maker.proofs.Has.{HasAt, has_front, has_back}
use Rattle.code_maker.proofs.Stand.{machine, stand, Fails, fails_on, Gives, gives_answer, reaches_self, reaches_done, reaches_ran}
use Rattle.code_maker.proofs.ExprRuns.{AddressesFit, expr_runs, pointed_some}

-- ---- lists

set_behind : (xs ys : List ℕ) (i a : ℕ) → slice_set (xs ++ ys) (length xs + i) a ≡ xs ++ slice_set ys i a
set_behind [] ys i a = let e : 0 + i ≡ i = omega arith in ap (λ n. slice_set ys n a) e
set_behind (x ∷ xs) ys i a =
    let e : length (x ∷ xs) + i ≡ suc (length xs + i) = omega arith in
    ap (λ n. slice_set (x ∷ (xs ++ ys)) n a) e ∙ ap (λ l. x ∷ l) (set_behind xs ys i a)

bind_twice : {A B C : Type 0} → (r : Result A Trap) (f : A → B) (g : B → Result C Trap) → ((r >>= (λ a. Ok (f a))) >>= g) ≡ (r >>= (λ a. g (f a)))
bind_twice (Ok a) f g = refl
bind_twice (Err e) f g = refl

-- ---- what the rules say of kinds

abbrev pub HasKind : Rules → RExpr → Type 0
HasKind w e = (x : Bool) × (kind w e ≡ Some x)

abbrev pub HaveKinds : Rules → List RExpr → Type 0
HaveKinds w [] = Unit {0}
HaveKinds w (e ∷ es) = HasKind w e × HaveKinds w es

pub agree_some : (a b : Option Bool) → agree a b ≡ true → ((x : Bool) × (a ≡ Some x)) × ((y : Bool) × (b ≡ Some y))
agree_some (Some false) (Some false) h = ((false, refl), (false, refl))
agree_some (Some true) (Some true) h = ((true, refl), (true, refl))
agree_some (Some false) (Some true) h = absurd (cc)
agree_some (Some true) (Some false) h = absurd (cc)
agree_some (Some x) None h = absurd (absurd_agree x h)
  where
    absurd_agree : (x : Bool) → agree (Some x) None ≡ true → ⊥
    absurd_agree true h = cc
    absurd_agree false h = cc
agree_some None b h = absurd (cc)

pub agree_kind : (w : Rules) (a : Option Bool) (e : RExpr) → agree a (kind w e) ≡ true → HasKind w e
agree_kind w a e h = (agree_some a (kind w e) h).1

pub given_kinds : (w : Rules) (ps : List Bool) (es : List RExpr) → are_given w ps es ≡ true → HaveKinds w es
given_kinds w [] [] h = tt
given_kinds w [] (e ∷ es) h = absurd (cc)
given_kinds w (p ∷ ps) [] h = tt
given_kinds w (p ∷ ps) (e ∷ es) h = let q = and_parts _ _ h in (agree_kind w (Some p) e q.0, given_kinds w ps es q.1)

pub given_count : (w : Rules) (ps : List Bool) (es : List RExpr) → are_given w ps es ≡ true → length ps ≡ length es
given_count w [] [] h = refl
given_count w [] (e ∷ es) h = absurd (cc)
given_count w (p ∷ ps) [] h = absurd (cc)
given_count w (p ∷ ps) (e ∷ es) h = let q = and_parts (agree (Some p) (kind w e)) (are_given w ps es) h in ap suc (given_count w ps es q.1)

pub numbers_kinds : (w : Rules) (es : List RExpr) → list_all (is_number w) es ≡ true → HaveKinds w es
numbers_kinds w [] h = tt
numbers_kinds w (e ∷ es) h = let q = and_parts (is_number w e) (list_all (is_number w) es) h in (agree_kind w (Some false) e q.0, numbers_kinds w es q.1)

-- an answer is stored in a variable, if anywhere
abbrev pub IsKept : Option RPlace → Type 0
IsKept None = Unit {0}
IsKept (Some (place.Cell d)) = Unit {0}
IsKept (Some (place.Local i)) = Unit {0}
IsKept (Some (place.At e)) = ⊥

pub answers_kept : (w : Rules) (d : Option RPlace) (k : Option Bool) → answers w d k ≡ true → IsKept d
answers_kept w None k h = tt
answers_kept w (Some (place.Cell d)) k h = tt
answers_kept w (Some (place.Local i)) k h = tt
answers_kept w (Some (place.At e)) k h = absurd (cc)

pub answers_some : (w : Rules) (d : Option RPlace) (k : Option Bool) → answers w d k ≡ true → (x : Bool) × (k ≡ Some x)
answers_some w None (Some x) h = (x, refl)
answers_some w None None h = absurd (cc)
answers_some w (Some p) k h = let q = and_parts (is_variable w p) (stores w p k) h in (agree_some (place_kind w p) k q.1).1

-- the holes of a print
abbrev pub holes : List PrintPiece → ℕ
holes [] = 0
holes (print.Byte b ∷ ps) = holes ps
holes (print.Number ∷ ps) = 1 + holes ps

pub holes_counted : (ps : List PrintPiece) → holes ps ≡ count_by is_hole ps
holes_counted = is_count_by holes is_hole refl by_piece
  where
    by_piece : (p : PrintPiece) (ps : List PrintPiece) → holes (p ∷ ps) ≡ cond (is_hole p) (1 + holes ps) (holes ps)
    by_piece (print.Byte b) ps = refl
    by_piece print.Number ps = refl

module _ (c : CodeView) (low : List ℕ) (ks : List Caller) where
  -- the run comes to place q in the state that an action leaves, with no operands, or it traps
  pub record Acted (w : World) (s : State) (q : ℕ) (t : State) : Type 0 where
    pub comes : Reaches c w (stand low ks t q [])
    pub ticks : t.ticks ≡ s.ticks
    pub objects : t.variables.objects ≡ s.variables.objects

  abbrev pub Acts : World → State → ℕ → Result State Trap → Type 0
  Acts w s q (Ok t) = Acted w s q t
  Acts w s q (Err e) = Fails c low ks s w e

  pub acts_on : (w v : World) (s : State) (q : ℕ) (r : Result State Trap) → Reaches c w v → Acts v s q r → Acts w s q r
  acts_on w v s q (Ok t) h g = record { comes = reaches_on c w v _ h g.comes; ticks = g.ticks; objects = g.objects }
  acts_on w v s q (Err e) h g = fails_on c low ks s w v e h g

  pub acts_then : (w : World) (s : State) (q q' : ℕ) (ops : List ℕ) (r : Result ℕ Trap) (f : ℕ → Result State Trap) → Gives c low ks s w q ops r → ((a : ℕ) → Acts (stand low ks s q (a ∷ ops)) s q' (f a)) → Acts w s q' (r >>= f)
  acts_then w s q q' ops (Ok a) f g h = acts_on w _ s q' (f a) g (h a)
  acts_then w s q q' ops (Err e) f g h = g

  pub acts_at : (w : World) (s : State) (q q' : ℕ) (r : Result State Trap) → q ≡ q' → Acts w s q r → Acts w s q' r
  acts_at w s q q' r e g = subst (λ z. Acts w s z r) e g

  -- ---- stores

  acts_cell : (s : State) (q d a : ℕ) → slice_get c.instrs q ≡ Some (instr.StoreC d) → Acts (stand low ks s q (a ∷ [])) s (q + 1) (Ok (written d a s))
  acts_cell s q d a at = record { comes = reaches_done c (stand low ks s q (a ∷ [])) (instr.StoreC d) _ at refl; ticks = refl; objects = refl }

  acts_local : (s : State) (q i a : ℕ) → slice_get c.instrs q ≡ Some (instr.StoreL i) → Acts (stand low ks s q (a ∷ [])) s (q + 1) (write (ToLocal i) a s)
  acts_local s q i a at =
      let t : State = record s { variables = record s.variables { locals = slice_set s.variables.locals i a } } in
      let is : row c unprotected (machine low ks s q (a ∷ [])) s.variables.cells (instr.StoreL i) ≡ ran (machine low ks t (q + 1) []) s.variables.cells
      = ap (λ ls. ran (record { place = q + 1; operands = []; below = 0; locals = ls; locals_below = length low; callers = ks; ticks = s.ticks }) s.variables.cells) (set_behind low s.variables.locals i a) in
      record { comes = reaches_ran c (stand low ks s q (a ∷ [])) (instr.StoreL i) (machine low ks t (q + 1) []) s.variables.cells at is; ticks = refl; objects = refl }

  put_acts : (s : State) (q a p : ℕ) (r : Result ℕ Trap) → slice_get c.instrs q ≡ Some instr.Put → row c unprotected (machine low ks s q (a ∷ p ∷ [])) s.variables.cells instr.Put ≡ row'.put unprotected (machine low ks s q (a ∷ p ∷ [])) s.variables.cells r
      → Acts (stand low ks s q (a ∷ p ∷ [])) s (q + 1) (r >>= (λ d. Ok (written d a s)))
  put_acts s q a p (Ok d) at is = record { comes = reaches_done c (stand low ks s q (a ∷ p ∷ [])) instr.Put _ at is; ticks = refl; objects = refl }
  put_acts s q a p (Err e) at is = record {
    place = q;
    operands = a ∷ p ∷ [];
    comes = reaches_self c (stand low ks s q (a ∷ p ∷ []));
    event = ap (λ o. (row_at c unprotected (machine low ks s q (a ∷ p ∷ [])) s.variables.cells o).event) at ∙ ap (λ (d : Done). d.event) is;
  }

  acts_through : (s : State) (q p a : ℕ) → s.variables.objects ≡ c.objects → slice_get c.instrs q ≡ Some instr.Put → Acts (stand low ks s q (a ∷ p ∷ [])) s (q + 1) (write (Through p) a s)
  acts_through s q p a objects at = put_acts s q a p (cell_of s.variables.objects p) at (ap (λ os. row'.put unprotected (machine low ks s q (a ∷ p ∷ [])) s.variables.cells (cell_of os p)) (sym objects))

  -- keeps an answer
  pub keep_acts : (s : State) (q a : ℕ) (d : Option RPlace) → IsKept d → HasAt c.instrs q (keep_answer d) → Acts (stand low ks s q (a ∷ [])) s (q + length (keep_answer d)) (store d a s)
  keep_acts s q a None k has = record { comes = reaches_ran c (stand low ks s q (a ∷ [])) instr.Drop (machine low ks s (q + 1) []) s.variables.cells has.0 refl; ticks = refl; objects = refl }
  keep_acts s q a (Some (place.Cell d)) k has = acts_cell s q d a has.0
  keep_acts s q a (Some (place.Local i)) k has = acts_local s q i a has.0
  keep_acts s q a (Some (place.At e)) k has = absurd k

module _ (c : CodeView) (w : Rules) (fit : AddressesFit w) (low : List ℕ) (ks : List Caller) (s : State) (objects : s.variables.objects ≡ c.objects) where
  -- the value of an expression that has a kind
  pub value_runs : (e : RExpr) → HasKind w e → (q : ℕ) (ops : List ℕ) → HasAt c.instrs q (expr_block e q) → Gives c low ks s (stand low ks s q ops) (q + length (expr_block e q)) ops (value e s.variables)
  value_runs e k = expr_runs c w fit low ks s objects e k.0 k.1

  -- stores what a block leaves
  module _ (b : Block) (r : Result ℕ Trap) (runs : (q : ℕ) (ops : List ℕ) → HasAt c.instrs q (b q) → Gives c low ks s (stand low ks s q ops) (q + length (b q)) ops r) where
    one_acts : (q : ℕ) (i : Instr) (f : ℕ → Result State Trap) → HasAt c.instrs q (b q ++ i ∷ []) → ((z a : ℕ) → slice_get c.instrs z ≡ Some i → Acts c low ks (stand low ks s z (a ∷ [])) s (z + 1) (f a))
        → Acts c low ks (stand low ks s q []) s (q + length (b q ++ i ∷ [])) (r >>= f)
    one_acts q i f has h =
        let z = q + length (b q) in
        let len = length-append (b q) (i ∷ []) in
        acts_at c low ks (stand low ks s q []) s (z + 1) (q + length (b q ++ i ∷ [])) (r >>= f) (omega (arith, len))
        (acts_then c low ks (stand low ks s q []) s z (z + 1) [] r f (runs q [] (has_front c.instrs q (b q) (i ∷ []) has)) (λ a. h z a (has_back c.instrs q (b q) (i ∷ []) has).0))

    through_acts : (e : RExpr) → HasKind w e → (q : ℕ) → HasAt c.instrs q (then_one (both (expr_block e) b) instr.Put q)
        → Acts c low ks (stand low ks s q []) s (q + length (then_one (both (expr_block e) b) instr.Put q)) (value e s.variables >>= (λ p. r >>= (λ a. write (Through p) a s)))
    through_acts e k q has =
        let x = expr_block e q in
        let q1 = q + length x in
        let q2 = q1 + length (b q1) in
        let has_both = has_front c.instrs q (x ++ b q1) (instr.Put ∷ []) has in
        let len = length-append x (b q1) in
        let len' = length-append (x ++ b q1) (instr.Put ∷ []) in
        let at = (has_back c.instrs q (x ++ b q1) (instr.Put ∷ []) has).0 in
        let at' : slice_get c.instrs q2 ≡ Some instr.Put = subst (λ z. slice_get c.instrs z ≡ Some instr.Put) (omega (arith, len)) at in
        acts_at c low ks (stand low ks s q []) s (q2 + 1) (q + length (then_one (both (expr_block e) b) instr.Put q)) _ (omega (arith, len, len'))
        (acts_then c low ks (stand low ks s q []) s q1 (q2 + 1) [] (value e s.variables) _ (value_runs e k q [] (has_front c.instrs q x (b q1) has_both))
        (λ p. acts_then c low ks (stand low ks s q1 (p ∷ [])) s q2 (q2 + 1) (p ∷ []) r _ (runs q1 (p ∷ []) (has_back c.instrs q x (b q1) has_both))
        (λ a. acts_through c low ks s q2 p a objects at')))

    -- the place is found first, then the value
    set_acts : (d : RPlace) → ((x : Bool) × (place_kind w d ≡ Some x)) → (q : ℕ) → HasAt c.instrs q (set_block d b q)
        → Acts c low ks (stand low ks s q []) s (q + length (set_block d b q)) (target d s.variables >>= (λ t. r >>= (λ a. write t a s)))
    set_acts (place.Cell d) k q has = one_acts q (instr.StoreC d) _ has (λ z a at. acts_cell c low ks s z d a at)
    set_acts (place.Local i) k q has = one_acts q (instr.StoreL i) _ has (λ z a at. acts_local c low ks s z i a at)
    set_acts (place.At e) k q has =
        subst (λ (v : Result State Trap). Acts c low ks (stand low ks s q []) s (q + length (then_one (both (expr_block e) b) instr.Put q)) v) (sym (bind_twice (value e s.variables) Through (λ t. r >>= (λ a. write t a s))))
        (through_acts e (pointed_some (kind w e) k.0 k.1) q has)

  pub assign_acts : (d : RPlace) (e : RExpr) → stores w d (kind w e) ≡ true → (q : ℕ) → HasAt c.instrs q (set_block d (expr_block e) q) → Acts c low ks (stand low ks s q []) s (q + length (set_block d (expr_block e) q)) (set d e s)
  assign_acts d e h = let k = agree_some (place_kind w d) (kind w e) h in set_acts (expr_block e) (value e s.variables) (value_runs e k.1) d k.0

  none_acts : (d : RPlace) → is_variable w d ≡ true → (q : ℕ) → HasAt c.instrs q (set_block d (given_block None) q) → Acts c low ks (stand low ks s q []) s (q + length (set_block d (given_block None) q)) (store (Some d) 0 s)
  none_acts (place.Cell d) h q has =
      let e : q + 1 + 1 ≡ q + 2 = omega arith in
      acts_on c low ks (stand low ks s q []) (stand low ks s (q + 1) (0 ∷ [])) s (q + 2) (Ok (written d 0 s)) (gives_answer c low ks s q [] 0 (instr.Num (pos 0)) (Ok 0) has.0 refl)
      (acts_at c low ks (stand low ks s (q + 1) (0 ∷ [])) s (q + 1 + 1) (q + 2) (Ok (written d 0 s)) e (acts_cell c low ks s (q + 1) d 0 has.1.0))
  none_acts (place.Local i) h q has =
      let e : q + 1 + 1 ≡ q + 2 = omega arith in
      acts_on c low ks (stand low ks s q []) (stand low ks s (q + 1) (0 ∷ [])) s (q + 2) (write (ToLocal i) 0 s) (gives_answer c low ks s q [] 0 (instr.Num (pos 0)) (Ok 0) has.0 refl)
      (acts_at c low ks (stand low ks s (q + 1) (0 ∷ [])) s (q + 1 + 1) (q + 2) (write (ToLocal i) 0 s) e (acts_local c low ks s (q + 1) i 0 has.1.0))
  none_acts (place.At e) h q has = absurd (cc)

  pub declare_acts : (d : RPlace) (e : Option RExpr) → starts w d e ≡ true → (q : ℕ) → HasAt c.instrs q (set_block d (given_block e) q) → Acts c low ks (stand low ks s q []) s (q + length (set_block d (given_block e) q)) (declare d e s)
  declare_acts d None h = none_acts d h
  declare_acts d (Some e) h = assign_acts d e (and_parts (is_variable w d) (stores w d (kind w e)) h).1
