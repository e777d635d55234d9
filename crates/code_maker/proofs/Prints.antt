-- The code of several values, and of what is printed.
use Rattle.std.proofs.Common.{◌≡◌, ℕ, zero, suc, ◌+◌, ◌-◌, ◌<◌, List, [], ◌∷◌, ◌++◌, length, map, Result, Ok, Err, true, refl, sym, ap, ◌∙◌, subst, arith, length-append, append_assoc, append-nil, count_by, get_or, eqb-true}
use Rattle.std.proofs.lemmas.Bool.{and_parts}
use Rattle.std.proofs.lemmas.List.{map-append, length-reverse, get_or-reverse}
use Rattle.std.specs.Prelude.{reverse, nat_eq}
use Rattle.std.specs.List.{list_all}
use Rattle.std.specs.Fmt.{signed_decimal}
use mathlib.Core.List.{reverse_aux}
use Rattle.ckpt_base.specs.declared.trap.Trap.{Trap}
use Rattle.ckpt_base.specs.Word.{signed}
use Rattle.ckpt_base.specs.Event as run
use Rattle.c_tree.specs.declared.tree.PrintPiece.{PrintPiece}
use Rattle.c_tree.specs.declared.tree.PrintPiece.TheVariants as print
use Rattle.c_tree.specs.declared.resolved.RExpr.{RExpr}
use Rattle.c_tree.specs.State.{State, Variables, printed, write_out, value, values, ◌>>=◌}
use Rattle.c_tree.specs.Kinds.{World as Rules, is_number, is_hole, prints}
use Rattle.machine_code.specs.declared.instr.Instr.TheVariants as instr
use Rattle.machine_code.specs.declared.event.Caller.{Caller}
use Rattle.machine_code.specs.CodeView.{CodeView}
use Rattle.machine_code.specs.Run.{World, Reaches}
use Rattle.machine_code.proofs.RunLaws.{reaches_on}
use Rattle.code_maker.specs.ExprCode.{expr_block, values_block}
use Rattle.code_maker.specs.NodeCode.{piece_code, drops, print_code}
use Rattle.code_maker.proofs.Has.{HasAt, has_front, has_back}
use Rattle.code_maker.proofs.Stand.{machine, stand, Fails, fails_on, Gives, reaches_self, reaches_done, reaches_ran}
use Rattle.code_maker.proofs.ExprRuns.{AddressesFit}
use Rattle.code_maker.proofs.Acts.{HaveKinds, value_runs, holes, holes_counted, numbers_kinds, Acts, acts_at}

module _ (c : CodeView) (low : List ℕ) (ks : List Caller) (t : State) where
  -- the run comes to place q with the values on top, the last one topmost, or traps
  abbrev pub GivesAll : World → ℕ → List ℕ → Result (List ℕ) Trap → Type 0
  GivesAll w q ops (Ok as') = Reaches c w (stand low ks t q (reverse_aux as' ops))
  GivesAll w q ops (Err e) = Fails c low ks t w e

  all_then : (w : World) (q q' : ℕ) (ops : List ℕ) (r : Result ℕ Trap) (rs : Result (List ℕ) Trap) → Gives c low ks t w q ops r → ((a : ℕ) → GivesAll (stand low ks t q (a ∷ ops)) q' (a ∷ ops) rs)
      → GivesAll w q' ops (r >>= (λ a. rs >>= (λ as'. Ok (a ∷ as'))))
  all_then w q q' ops (Ok a) (Ok as') g h = reaches_on c w _ _ g (h a)
  all_then w q q' ops (Ok a) (Err e) g h = fails_on c low ks t w _ e g (h a)
  all_then w q q' ops (Err e) rs g h = g

  all_at : (w : World) (q q' : ℕ) (ops : List ℕ) (r : Result (List ℕ) Trap) → q ≡ q' → GivesAll w q ops r → GivesAll w q' ops r
  all_at w q q' ops r e g = subst (λ z. GivesAll w z ops r) e g

module _ (c : CodeView) (w : Rules) (fit : AddressesFit w) (low : List ℕ) (ks : List Caller) (s : State) (objects : s.variables.objects ≡ c.objects) where
  pub values_run : (es : List RExpr) → HaveKinds w es → (q : ℕ) (ops : List ℕ) → HasAt c.instrs q (values_block es q) → GivesAll c low ks s (stand low ks s q ops) (q + length (values_block es q)) ops (values es s.variables)
  values_run [] k q ops has = all_at c low ks s (stand low ks s q ops) q _ ops (Ok []) (omega arith) (reaches_self c (stand low ks s q ops))
  values_run (e ∷ es) k q ops has =
      let x = expr_block e q in
      let q1 = q + length x in
      let y = values_block es q1 in
      let len = length-append x y in
      all_at c low ks s (stand low ks s q ops) (q1 + length y) _ ops _ (omega (arith, len))
      (all_then c low ks s (stand low ks s q ops) q1 (q1 + length y) ops (value e s.variables) (values es s.variables) (value_runs c w fit low ks s objects e k.0 q ops (has_front c.instrs q x y has))
      (λ a. values_run es k.1 q1 (a ∷ ops) (has_back c.instrs q x y has)))

-- as many values as expressions
pub values_count : (es : List RExpr) (vs : Variables) (as' : List ℕ) → values es vs ≡ Ok as' → length as' ≡ length es
values_count [] vs [] h = refl
values_count [] vs (a ∷ as') h = absurd (cc)
values_count (e ∷ es) vs as' h = by_parts (value e vs) (values es vs) (values_count es vs) h
  where
    by_parts : (r : Result ℕ Trap) (rs : Result (List ℕ) Trap) → ((bs : List ℕ) → rs ≡ Ok bs → length bs ≡ length es) → (r >>= (λ a. rs >>= (λ bs. Ok (a ∷ bs)))) ≡ Ok as' → length as' ≡ length (e ∷ es)
    by_parts (Err t) rs ih q = absurd (cc)
    by_parts (Ok a) (Err t) ih q = absurd (cc)
    by_parts (Ok a) (Ok bs) ih q =
        let is : a ∷ bs ≡ as' = cc in
        ap length (sym is) ∙ ap suc (ih bs refl)

-- ---- printing

module _ (c : CodeView) (low : List ℕ) (ks : List Caller) where
  with_events : List run.Event → State → State
  with_events es s = record s { events = es }

  -- the next values stand in the operands below those that were written
  abbrev Written : List ℕ → ℕ → ℕ → List ℕ → Type 0
  Written ops n k as' = (j : ℕ) → j < length as' → get_or ops (n - 1 - (k + j)) 0 ≡ get_or as' j 0

  written_more : (ops : List ℕ) (n k a : ℕ) (as' : List ℕ) → Written ops n k (a ∷ as') → Written ops n (k + 1) as'
  written_more ops n k a as' h j lt =
      let e : n - 1 - (k + 1 + j) ≡ n - 1 - (k + suc j) = omega arith in
      ap (λ m. get_or ops m 0) e ∙ h (suc j) (omega arith)

  pieces_run : (ps : List PrintPiece) (n k : ℕ) (ops as' : List ℕ) (s : State) (q : ℕ) → Written ops n k as' → holes ps ≡ length as' → HasAt c.instrs q (piece_code n k ps)
      → Reaches c (stand low ks s q ops) (stand low ks (with_events (s.events ++ map run.Byte (printed ps as')) s) (q + length (piece_code n k ps)) ops)
  unfolding with_events
  pieces_run [] n k ops as' s q h e has =
      let z : q ≡ q + 0 = omega arith in
      subst (λ p. Reaches c (stand low ks s q ops) (stand low ks (with_events (s.events ++ []) s) p ops)) z
      (subst (λ es. Reaches c (stand low ks s q ops) (stand low ks (with_events es s) q ops)) (sym (append-nil s.events)) (reaches_self c (stand low ks s q ops)))
  pieces_run (print.Byte b ∷ ps) n k ops as' s q h e has =
      let t = with_events (s.events ++ run.Byte b ∷ []) s in
      let one : Reaches c (stand low ks s q ops) (stand low ks t (q + 1) ops) = reaches_done c (stand low ks s q ops) (instr.OutB b) _ has.0 refl in
      let more = pieces_run ps n k ops as' t (q + 1) h e has.1 in
      let z : q + 1 + length (piece_code n k ps) ≡ q + length (piece_code n k (print.Byte b ∷ ps)) = omega arith in
      let all = reaches_on c _ _ _ one more in
      let all' = subst (λ p. Reaches c (stand low ks s q ops) (stand low ks (with_events (t.events ++ map run.Byte (printed ps as')) s) p ops)) z all in
      subst (λ es. Reaches c (stand low ks s q ops) (stand low ks (with_events es s) (q + length (piece_code n k (print.Byte b ∷ ps))) ops)) (append_assoc s.events (run.Byte b ∷ []) (map run.Byte (printed ps as'))) all'
  pieces_run (print.Number ∷ ps) n k ops [] s q h e has = absurd (no_hole (holes ps) e)
    where
      no_hole : (m : ℕ) → 1 + m ≡ length {A = ℕ} [] → ⊥
      no_hole m e = omega arith
  pieces_run (print.Number ∷ ps) n k ops (a ∷ as') s q h e has =
      let bytes = signed_decimal (signed a) in
      let top_is : get_or ops (n - 1 - k) 0 ≡ a = (let z : n - 1 - k ≡ n - 1 - (k + 0) = omega arith in ap (λ m. get_or ops m 0) z ∙ h 0 (omega arith)) in
      let t = with_events (s.events ++ map run.Byte bytes) s in
      let one0 : Reaches c (stand low ks s q ops) (stand low ks (with_events (s.events ++ map run.Byte (signed_decimal (signed (get_or ops (n - 1 - k) 0)))) s) (q + 1) ops) = reaches_done c (stand low ks s q ops) (instr.OutN (n - 1 - k)) _ has.0 refl in
      let one = subst (λ v. Reaches c (stand low ks s q ops) (stand low ks (with_events (s.events ++ map run.Byte (signed_decimal (signed v))) s) (q + 1) ops)) top_is one0 in
      let more = pieces_run ps n (k + 1) ops as' t (q + 1) (written_more ops n k a as' h) (omega arith) has.1 in
      let z : q + 1 + length (piece_code n (k + 1) ps) ≡ q + length (piece_code n k (print.Number ∷ ps)) = omega arith in
      let all = reaches_on c _ _ _ one more in
      let all' = subst (λ p. Reaches c (stand low ks s q ops) (stand low ks (with_events (t.events ++ map run.Byte (printed ps as')) s) p ops)) z all in
      let es_are = append_assoc s.events (map run.Byte bytes) (map run.Byte (printed ps as')) ∙ ap (λ es. s.events ++ es) (sym (map-append run.Byte bytes (printed ps as'))) in
      subst (λ es. Reaches c (stand low ks s q ops) (stand low ks (with_events es s) (q + length (piece_code n k (print.Number ∷ ps))) ops)) es_are all'

  drops_run : (n : ℕ) (ops : List ℕ) (s : State) (q : ℕ) → length ops ≡ n → HasAt c.instrs q (drops n) → Reaches c (stand low ks s q ops) (stand low ks s (q + length (drops n)) [])
  drops_run zero [] s q e has = let z : q ≡ q + 0 = omega arith in subst (λ p. Reaches c (stand low ks s q []) (stand low ks s p [])) z (reaches_self c (stand low ks s q []))
  drops_run zero (a ∷ ops) s q e has = absurd (omega arith)
  drops_run (suc n) [] s q e has = absurd (omega arith)
  drops_run (suc n) (a ∷ ops) s q e has =
      let z : q + 1 + length (drops n) ≡ q + length (drops (suc n)) = omega arith in
      let one : Reaches c (stand low ks s q (a ∷ ops)) (stand low ks s (q + 1) ops) = reaches_ran c (stand low ks s q (a ∷ ops)) instr.Drop (machine low ks s (q + 1) ops) s.variables.cells has.0 refl in
      subst (λ p. Reaches c (stand low ks s q (a ∷ ops)) (stand low ks s p [])) z (reaches_on c _ _ _ one (drops_run n ops s (q + 1) (omega arith) has.1))

  print_done : (n : ℕ) (ps : List PrintPiece) (as' : List ℕ) (s : State) (q : ℕ) → length as' ≡ n → holes ps ≡ n → HasAt c.instrs q (print_code n ps)
      → Reaches c (stand low ks s q (reverse as')) (stand low ks (record s { events = s.events ++ map run.Byte (printed ps as') }) (q + length (print_code n ps)) [])
  unfolding with_events
  print_done n ps as' s q e f has =
      let ws : Written (reverse as') n 0 as' = λ j lt.
      (let z : n - 1 - (0 + j) ≡ length as' - 1 - j = omega arith in
      let back : length as' - 1 - (length as' - 1 - j) ≡ j = omega arith in
      ap (λ m. get_or (reverse as') m 0) z ∙ get_or-reverse as' (length as' - 1 - j) 0 (omega arith) ∙ ap (λ m. get_or as' m 0) back) in
      let a = piece_code n 0 ps in
      let t : State = record s { events = s.events ++ map run.Byte (printed ps as') } in
      let first = pieces_run ps n 0 (reverse as') as' s q ws (f ∙ sym e) (has_front c.instrs q a (drops n) has) in
      let second = drops_run n (reverse as') t (q + length a) (length-reverse as' ∙ e) (has_back c.instrs q a (drops n) has) in
      let len = length-append a (drops n) in
      let z : q + length a + length (drops n) ≡ q + length (print_code n ps) = omega (arith, len) in
      subst (λ p. Reaches c (stand low ks s q (reverse as')) (stand low ks t p [])) z (reaches_on c _ _ _ first second)

  printed_acts : (es : List RExpr) (ps : List PrintPiece) (s : State) (q q' : ℕ) (w : World) (r : Result (List ℕ) Trap) → values es s.variables ≡ r → GivesAll c low ks s w q [] r → holes ps ≡ length es → q' ≡ q + length (print_code (length es) ps)
      → HasAt c.instrs q (print_code (length es) ps) → Acts c low ks w s q' (r >>= (λ as'. Ok (record s { events = s.events ++ map run.Byte (printed ps as') })))
  printed_acts es ps s q q' w (Err e) is g h z has = g
  printed_acts es ps s q q' w (Ok as') is g h z has =
      let t : State = record s { events = s.events ++ map run.Byte (printed ps as') } in
      acts_at c low ks w s (q + length (print_code (length es) ps)) q' (Ok t) (sym z) (record { comes = reaches_on c w _ _ g (print_done (length es) ps as' s q (values_count es s.variables as' is) h has); ticks = refl; objects = refl })

pub print_acts : (c : CodeView) (w : Rules) (fit : AddressesFit w) (low : List ℕ) (ks : List Caller) (s : State) → s.variables.objects ≡ c.objects → (ps : List PrintPiece) (es : List RExpr) → prints w ps es ≡ true → (q : ℕ)
    → HasAt c.instrs q (values_block es q ++ print_code (length es) ps) → Acts c low ks (stand low ks s q []) s (q + length (values_block es q ++ print_code (length es) ps)) (write_out ps es s)
print_acts c w fit low ks s objects ps es h q has =
    let k = and_parts (nat_eq (length es) (count_by is_hole ps)) (list_all (is_number w) es) h in
    let x = values_block es q in
    let y = print_code (length es) ps in
    let len = length-append x y in
    printed_acts c low ks es ps s (q + length x) _ (stand low ks s q []) (values es s.variables) refl (values_run c w fit low ks s objects es (numbers_kinds w es k.1) q [] (has_front c.instrs q x y has))
    (holes_counted ps ∙ sym (eqb-true (length es) (count_by is_hole ps) k.0)) (omega (arith, len)) (has_back c.instrs q x y has)
