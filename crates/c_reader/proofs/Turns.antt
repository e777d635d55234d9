-- The reader's loop.
use Rattle.std.proofs.Common.{◌≡◌, ◌≢◌, ℕ, zero, suc, ◌+◌, ◌-◌, ◌<◌, ◌≤◌, List, Option, Some, None, refl, ap, sym, ◌∙◌, arith}
use Rattle.c_tree.specs.declared.token.Token.{Token}
use Rattle.c_tree.specs.declared.tree.Binary.{Binary}
use Rattle.c_tree.specs.Expressions.{binds}
use Rattle.c_reader.specs.Reading.{Deep, Inner, ◌>>=◌, first, operator, tail, joined, turn, more, below, expr}
use Rattle.c_reader.proofs.TokenKinds.{lt_true, lt_false}

-- to go on from here gives what the whole gives, in turns enough
pub record Going (d least : ℕ) (ts : List Token) (x : Deep) : Type 0 where
  pub turns : ℕ
  pub enough : d ≤ turns + x.depth
  pub same : more (below d) d turns least x ≡ expr d least ts

pub below_zero : (d least : ℕ) (ts : List Token) → d ≡ 0 → below d least ts ≡ None
unfolding below
below_zero d least ts h = ap (λ n. below n least ts) h

pub below_some : (d least : ℕ) (ts : List Token) → d ≢ 0 → below d least ts ≡ expr (d - 1) least ts
unfolding below expr
below_some zero least ts h = absurd (h refl)
below_some (suc d) least ts h = let e : suc d - 1 ≡ d = omega arith in rw e refl

pub starts : (d least : ℕ) (ts : List Token) (x : Deep) → first (below d) ts ≡ Some x → Going d least ts x
unfolding expr
starts d least ts x h = record { turns = d; enough = omega arith; same = sym (ap (λ r. r >>= more (below d) d d least) h) }

pub starts_not : (d least : ℕ) (ts : List Token) → first (below d) ts ≡ None → expr d least ts ≡ None
unfolding expr
starts_not d least ts h = ap (λ r. r >>= more (below d) d d least) h

-- with a turn left or with none, the loop does this
turned : (inner : Inner) (d n least : ℕ) (x : Deep) (o : Option Binary) (r : Option Deep) → operator x.rest ≡ o → ((go : Deep → Option Deep) → turn inner d least go x o ≡ r) → more inner d n least x ≡ r
turned inner d zero least x o r e h = ap (turn inner d least (λ _. None) x) e ∙ h (λ _. None)
turned inner d (suc n) least x o r e h = ap (turn inner d least (more inner d n least) x) e ∙ h (more inner d n least)

goes : (d least : ℕ) (ts : List Token) (x : Deep) (op : Binary) (y : Deep) (n : ℕ) → d ≤ n + x.depth → more (below d) d n least x ≡ expr d least ts → operator x.rest ≡ Some op → least ≤ binds op → x.depth < d → below d (binds op + 1) (tail x.rest) ≡ Some y → Going d least ts (joined op x y)
goes d least ts x op y zero en same o l h b = absurd (omega arith)
goes d least ts x op y (suc n) en same o l h b =
    record {
      turns = n;
      enough = omega arith;
      same = sym (ap (turn (below d) d least (more (below d) d n least) x) o ∙ rw (lt_false (binds op) least l, lt_true x.depth d h, b) refl) ∙ same;
    }

module _ (d least : ℕ) (ts : List Token) (x : Deep) (g : Going d least ts x) where
  pub no_operator : operator x.rest ≡ None → expr d least ts ≡ Some x
  no_operator o = sym g.same ∙ turned (below d) d g.turns least x None (Some x) o (λ go. refl)

  pub looser : (op : Binary) → operator x.rest ≡ Some op → binds op < least → expr d least ts ≡ Some x
  looser op o l = sym g.same ∙ turned (below d) d g.turns least x (Some op) (Some x) o (λ go. rw (lt_true (binds op) least l) refl)

  pub too_deep : (op : Binary) → operator x.rest ≡ Some op → least ≤ binds op → d ≤ x.depth → expr d least ts ≡ None
  too_deep op o l h = sym g.same ∙ turned (below d) d g.turns least x (Some op) None o (λ go. rw (lt_false (binds op) least l, lt_false x.depth d h) refl)

  pub no_right : (op : Binary) → operator x.rest ≡ Some op → least ≤ binds op → x.depth < d → below d (binds op + 1) (tail x.rest) ≡ None → expr d least ts ≡ None
  no_right op o l h b = sym g.same ∙ turned (below d) d g.turns least x (Some op) None o (λ go. rw (lt_false (binds op) least l, lt_true x.depth d h, b) refl)

  pub goes_on : (op : Binary) (y : Deep) → operator x.rest ≡ Some op → least ≤ binds op → x.depth < d → below d (binds op + 1) (tail x.rest) ≡ Some y → Going d least ts (joined op x y)
  goes_on op y o l h b = goes d least ts x op y g.turns g.enough g.same o l h b
