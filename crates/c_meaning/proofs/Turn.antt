-- Items that are taken, and tests that were given their tick.
use Rattle.std.proofs.Common.{◌≡◌, ℕ, suc, ◌+◌, List, [], ◌∷◌, ◌++◌, map, reverse, Option, Some, None, Result, Ok, Bool, true, false, cond, refl, sym, ap, ◌∙◌}
use Rattle.std.specs.Prelude.{if◌then◌else◌}
use Rattle.std.specs.Borrow.{Bor}
use Rattle.ckpt_base.specs.declared.trap.Trap.{Trap}
use Rattle.ckpt_base.specs.declared.ending.Ending.TheVariants.{Ended, Going}
use Rattle.ckpt_base.specs.declared.ending.Ending.{Ending}
use Rattle.c_tree.specs.Layout.{objects, first_words}
use Rattle.c_tree.specs.declared.resolved.RFunction.{RFunction}
use Rattle.c_tree.specs.declared.resolved.Resolved.{Resolved}
use Rattle.ckpt_base.specs.Word.{word_holds, signed}
use Rattle.ckpt_base.specs.Event.{Event}
use Rattle.ckpt_base.specs.Run as run
use Rattle.ckpt_base.specs.Run.{Run}
use Rattle.c_tree.specs.declared.resolved.RAssign.{RAssign}
use Rattle.c_tree.specs.declared.resolved.RArm.{RArm, out-RArm}
use Rattle.c_tree.specs.declared.resolved.RStmt.{RStmt}
use Rattle.c_tree.specs.declared.resolved.RStmt.TheFolds.{fold_out-RArm}
use Rattle.c_tree.specs.State.{State, Value, value, set, first_state}
use Rattle.c_tree.specs.Meaning.{Then, Ways, Calls, Piece, ArmPiece, tick, given, acts, chooses, all_of, tests, piece_at, arm_at, piece, main_ways, calls_within, meaning}
use Rattle.c_meaning.specs.declared.progress.Progress.{Progress}
use Rattle.c_meaning.specs.declared.evaluator.Evaluator.{Evaluator}
use Rattle.c_meaning.specs.declared.work.Loop.{Loop}
use Rattle.c_meaning.specs.declared.work.Item.{Item}
use Rattle.c_meaning.specs.declared.work.Item.TheVariants as item
use Rattle.c_meaning.specs.Plain.{IsPlain}
use Rattle.c_meaning.specs.Memory.{variables, test_of}
use Rattle.c_meaning.specs.Working.{todo, calls, before, ways, ways_on, behind, state, update_of, looping, turn_ways, arm_piece, last_piece, From, Taken, Stands}
use Rattle.c_meaning.proofs.Going.{moved, moved_at, added}
use Rattle.c_meaning.proofs.Enter.{Ticks, turning, loop_ticks}

-- ---- items that are taken

-- the run goes on with an item that was taken away, and does not end a call
pub came : (e : Evaluator) (i j : Item) (n : ℕ) (r : Run) → i ≡ j → ((ms : List ℕ) → behind j e ms ≡ ways_on e ms) → Taken i e n r → (m : ℕ) × From (λ w. (before (calls e) j m w).next) e n r
came e i j n r is h x = (
  x.number,
  record {
    events = x.events;
    numbers = x.numbers;
    shown = x.shown;
    goes = x.goes ∙ ap (λ (j : Item). (before (calls e) j x.number (behind j e x.numbers)).next (state e.progress x.events) n) is
        ∙ ap (λ (w : Ways). (before (calls e) j x.number w).next (state e.progress x.events) n) (h x.numbers);
  },
)

-- the first of some statements stands before the others
pub first_split : (e e' : Evaluator) (i : Item) (ss more : Bor (List RStmt)) (s : RStmt) → i ≡ item.Rest ss → ss.now ≡ s ∷ more.now → e'.progress ≡ e.progress → todo e' ≡ item.Rest more ∷ todo e
    → (m n : ℕ) (r : Run) → From (λ w. (before (calls e) i m w).next) e n r → From ((piece (calls e') s).does m) e' n r
first_split e e' i ss more s is cut same t m n r = moved e e' (λ w. (before (calls e) i m w).next) ((piece (calls e') s).does m) (λ ms. (m + (piece (calls e) s).size) ∷ ms) n r same (λ ms s' n. ap (λ (f : Then). f s' n) (
    ap (λ (j : Item). (before (calls e) j m (ways_on e ms)).next) is
    ∙ ap (λ (v : List RStmt). all_of (map (piece (calls e)) v) m (ways_on e ms)) cut
    ∙ ap (λ (w : Ways). (piece (calls e) s).does m w) (sym (added e e' (item.Rest more) same t (m + (piece (calls e) s).size) ms))
    ∙ ap (λ (p : Progress). (piece (calls (record e { progress = p })) s).does m (ways_on e' ((m + (piece (calls e) s).size) ∷ ms))) (sym same)))

pub turn_ticks : (e : Evaluator) (i : Item) (l : Loop) → i ≡ item.Turn l → (m n : ℕ) (r : Run) → From (λ w. (before (calls e) i m w).next) e n r → Ticks (turning (calls e) l.test l.update l.body.now) e n r
turn_ticks e i l is m n r = loop_ticks e l.test l.update l.body.now _ m n r (λ w. ap (λ (j : Item). (before (calls e) j m w).next) is)

pub again_ticks : (e : Evaluator) (i : Item) (l : Loop) → i ≡ item.Again l → l.update ≡ None → (m n : ℕ) (r : Run) → From (λ w. (before (calls e) i m w).next) e n r → Ticks (turning (calls e) l.test l.update l.body.now) e n r
again_ticks e i l is none m n r = loop_ticks e l.test l.update l.body.now _ m n r (λ w. ap (λ (j : Item). (before (calls e) j m w).next) is ∙ ap (λ (u : Option (Bor RAssign)). update_of u (looping (calls e) l m w)) none)

pub update_ticks : (e e' : Evaluator) (i : Item) (l : Loop) (a : Bor RAssign) → i ≡ item.Again l → l.update ≡ Some a → e'.progress ≡ e.progress → todo e' ≡ item.Turn l ∷ todo e
    → (m n : ℕ) (r : Run) → From (λ w. (before (calls e) i m w).next) e n r → Ticks (λ k w. acts (set a.now.place a.now.value) w.next) e' n r
update_ticks e e' i l a is some same t m n r y = (
  m,
  moved e e' (λ w. (before (calls e) i m w).next) (λ w. tick (acts (set a.now.place a.now.value) w.next)) (λ ms. m ∷ ms) n r same (λ ms s n. ap (λ (f : Then). f s n) (
      ap (λ (j : Item). (before (calls e) j m (ways_on e ms)).next) is
      ∙ ap (λ (u : Option (Bor RAssign)). update_of u (looping (calls e) l m (ways_on e ms))) some
      ∙ ap (λ (w : Ways). tick (acts (set a.now.place a.now.value) w.next)) (sym (added e e' (item.Turn l) same t m ms)))) y,
)

-- ---- tests

chooses_is : (v : Value) (x y : Then) (s : State) (n a : ℕ) (b : Bool) → Ok a ≡ v s.variables → word_holds a ≡ b → chooses v x y s n ≡ cond b (x s n) (y s n)
chooses_is v x y s n a b h t = ap (λ (r : Result ℕ Trap). given r s (λ (a : ℕ). if word_holds a then x s n else y s n)) (sym h) ∙ ap (λ (b : Bool). cond b (x s n) (y s n)) t

arm_is : (c : Calls) (a : RArm) → arm_piece c a ≡ record { test = value (out-RArm a).test; body = piece c (out-RArm a).body }
arm_is c a = fold_out-RArm Piece ArmPiece (piece_at c) (arm_at c) a

module _ (e e' : Evaluator) (a : RArm) (more : Bor (List RArm)) (last : Bor (Option RStmt)) (v : ℕ) (h : Ok v ≡ value (out-RArm a).test (variables e.progress.memory)) (same : e'.progress ≡ e.progress) (m n : ℕ) (r : Run) where
  abbrev chosen : Ways → Then
  chosen w = let p = arm_piece (calls e) a in chooses p.test (p.body.does (m + 1) w) (tests (map (arm_piece (calls e)) more.now) (last_piece (calls e) last.now) (m + 1 + p.body.size) w)

  chosen_is : (b : Bool) → word_holds v ≡ b → (w : Ways) (es : List Event) → chosen w (state e.progress es) n
      ≡ cond b ((piece (calls e) (out-RArm a).body).does (m + 1) w (state e.progress es) n) (tests (map (arm_piece (calls e)) more.now) (last_piece (calls e) last.now) (m + 1 + (piece (calls e) (out-RArm a).body).size) w (state e.progress es) n)
  chosen_is b t w es =
      ap (λ (p : ArmPiece). chooses p.test (p.body.does (m + 1) w) (tests (map (arm_piece (calls e)) more.now) (last_piece (calls e) last.now) (m + 1 + p.body.size) w) (state e.progress es) n) (arm_is (calls e) a)
      ∙ chooses_is (value (out-RArm a).test) ((piece (calls e) (out-RArm a).body).does (m + 1) w) (tests (map (arm_piece (calls e)) more.now) (last_piece (calls e) last.now) (m + 1 + (piece (calls e) (out-RArm a).body).size) w) (state e.progress es) n v b h t

  pub arm_holds : (b : Bor RStmt) → b.now ≡ (out-RArm a).body → word_holds v ≡ true → todo e' ≡ item.One b ∷ todo e → From chosen e n r → Stands e' n r
  arm_holds b bs t u = moved_at e e' chosen (λ w. w.next) (λ ms. (m + 1) ∷ ms) n r same (λ ms es.
      chosen_is true t (ways_on e ms) es ∙ ap (λ (x : RStmt). (piece (calls e) x).does (m + 1) (ways_on e ms) (state e.progress es) n) (sym bs)
      ∙ ap (λ (w : Ways). w.next (state e.progress es) n) (sym (added e e' (item.One b) same u (m + 1) ms)))

  pub arm_fails : word_holds v ≡ false → todo e' ≡ item.Tests more last ∷ todo e → From chosen e n r → Stands e' n r
  arm_fails t u =
      let k = m + 1 + (piece (calls e) (out-RArm a).body).size in
      moved_at e e' chosen (λ w. w.next) (λ ms. k ∷ ms) n r same (λ ms es.
      chosen_is false t (ways_on e ms) es ∙ ap (λ (w : Ways). w.next (state e.progress es) n) (sym (added e e' (item.Tests more last) same u k ms)))

-- a loop whose test holds begins its body
pub turn_holds : (e : Evaluator) (l : Loop) (v : ℕ) → Ok v ≡ test_of l.test (variables e.progress.memory) → word_holds v ≡ true
    → (m n : ℕ) (r : Run) → From (turning (calls e) l.test l.update l.body.now m) e n r → From (λ w. (piece (calls e) l.body.now).does m (turn_ways (calls e) l m w)) e n r
turn_holds e l v h t m n r = moved_at e e (turning (calls e) l.test l.update l.body.now m) (λ w. (piece (calls e) l.body.now).does m (turn_ways (calls e) l m w)) (λ ms. ms) n r refl (λ ms es.
    chooses_is (test_of l.test) ((piece (calls e) l.body.now).does m (turn_ways (calls e) l m (ways_on e ms))) (ways_on e ms).next (state e.progress es) n v true h t)

-- ---- ends

-- nothing is left to do
pub at_end : (e e' : Evaluator) (n : ℕ) (r : Run) → todo e ≡ [] → e'.progress ≡ e.progress → Stands e n r → IsPlain e'.progress.output (Ended (signed 0)) e'.progress.ticks r
at_end e e' n r t same x =
    let g = x.goes ∙ ap (λ (is : List Item). (ways e.progress.functions.now e.progress.allowed is x.numbers).next (state e.progress x.events) n) t in record {
      same_output = ap (λ (p : Progress). p.output) same ∙ x.shown ∙ ap (λ (r : Run). run.output r.events) (sym g);
      same_ending = ap (λ (r : Run). r.ending) (sym g);
      same_ticks = ap (λ (p : Progress). p.ticks) same ∙ ap (λ (r : Run). r.ticks) (sym g);
    }

-- no tick is left
pub none_left : (e : Evaluator) (to : Ways → Then) (n : ℕ) (r : Run) → n ≡ 0 → From (λ w. tick (to w)) e n r → IsPlain e.progress.output Going e.progress.ticks r
none_left e to n r z f =
    let g = f.goes ∙ ap (λ (n : ℕ). tick (to (ways_on e f.numbers)) (state e.progress f.events) n) z in record {
      same_output = f.shown ∙ ap (λ (r : Run). run.output r.events) (sym g);
      same_ending = ap (λ (r : Run). r.ending) (sym g);
      same_ticks = ap (λ (r : Run). r.ticks) (sym g);
    }

-- a tick was taken
pub one_taken : (e : Evaluator) (to : Ways → Then) (n k : ℕ) (r : Run) → n ≡ suc k → From (λ w. tick (to w)) e n r → From to (record e { progress = record e.progress { ticks = e.progress.ticks + 1 } }) k r
one_taken e to n k r z f = record {
  events = f.events;
  numbers = f.numbers;
  shown = f.shown;
  goes = f.goes ∙ ap (λ (n : ℕ). tick (to (ways_on e f.numbers)) (state e.progress f.events) n) z;
}

-- ---- starts

starts_at : (p : Progress) (tree : Resolved) (input : Bor (List ℕ)) → p.memory.objects ≡ objects tree → p.memory.cells ≡ first_words tree → p.memory.locals ≡ [] → p.input.now ≡ input.now → p.ticks ≡ 0 → state p [] ≡ first_state tree input.now
starts_at p tree input os cs ls is ks = rw (os, cs, ls, is, ks) refl

pub started : (e : Evaluator) (p : Progress) (w : List Item) (b : Bor RStmt) (tree : Resolved) (input : Bor (List ℕ)) → e.progress ≡ p → todo e ≡ item.One b ∷ reverse w → w ≡ [] → b.now ≡ tree.main.body → p.functions.now ≡ tree.functions → p.allowed ≡ 1000
    → p.memory.objects ≡ objects tree → p.memory.cells ≡ first_words tree → p.memory.locals ≡ [] → p.input.now ≡ input.now → p.output ≡ [] → p.ticks ≡ 0 → (n : ℕ) → Stands e n (meaning tree input.now n)
started e p w b tree input same t none bs fs as' objs cs ls is os ks n = record {
  events = [];
  numbers = 0 ∷ [];
  shown = ap (λ (p : Progress). p.output) same ∙ os;
  goes = sym (ap (λ (is : List Item). (ways e.progress.functions.now e.progress.allowed is (0 ∷ [])).next (state e.progress []) n) (t ∙ ap (λ (w : List Item). item.One b ∷ reverse w) none)
      ∙ ap (λ (p : Progress). (piece (calls_within p.functions.now p.allowed) b.now).does 0 main_ways (state p []) n) same
      ∙ ap (λ (x : RStmt). (piece (calls_within p.functions.now p.allowed) x).does 0 main_ways (state p []) n) bs
      ∙ ap (λ (a : ℕ). (piece (calls_within p.functions.now a) tree.main.body).does 0 main_ways (state p []) n) as'
      ∙ ap (λ (fs : List RFunction). (piece (calls_within fs 1000) tree.main.body).does 0 main_ways (state p []) n) fs
      ∙ ap (λ (s : State). (piece (calls_within tree.functions 1000) tree.main.body).does 0 main_ways s n) (starts_at p tree input objs cs ls is ks));
}

pub plain_is : (bytes room out shown : List ℕ) (g : Ending) (k k' : ℕ) (r : Run) → bytes ≡ room ++ out → room ≡ [] → out ≡ shown → k' ≡ k → IsPlain shown g k r → IsPlain bytes g k' r
plain_is bytes room out shown g k k' r a b c d x = record { same_output = a ∙ ap (λ (v : List ℕ). v ++ out) b ∙ c ∙ x.same_output; same_ending = x.same_ending; same_ticks = d ∙ x.same_ticks }
