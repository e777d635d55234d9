-- The loops of the reader of statements.
use Rattle.std.proofs.Common.{◌≡◌, ◌≢◌, ℕ, zero, suc, ◌-◌, ◌<◌, ◌≤◌, List, [], ◌∷◌, ◌++◌, length, Option, Some, None, refl, sym, ap, ◌∙◌, arith, Bool, true}
use Rattle.c_tree.specs.declared.token.Token.{Token}
use Rattle.c_tree.specs.declared.token.Word.TheVariants as word
use Rattle.c_tree.specs.declared.tree.Arm.{Arm}
use Rattle.c_tree.specs.declared.tree.Stmt.{Stmt}
use Rattle.c_tree.specs.declared.tree.Stmt.TheVariants as stmt'
use Rattle.c_reader.specs.declared.look.Fault.{Fault}
use Rattle.c_reader.specs.declared.look.Fault.TheVariants.{Memory, Unexpected}
use Rattle.c_reader.specs.Gives.{Fails}
use Rattle.c_reader.specs.Reading.{Got, got, Read, ◌>>=◌, after, tail}
use Rattle.c_tree.specs.Statements.{first_line}
use Rattle.c_reader.specs.declared.singles.Start.{Start}
use Rattle.c_reader.specs.declared.singles.Start.TheVariants as start'
use Rattle.c_reader.specs.ReadingStatements.{condition, head, start, holds_other, statement_of, entry, block_turn, block, arm, last_arm, chain_on, chain, statement, stmt_within}
use Rattle.c_reader.proofs.TokenKinds.{after_is}
use Rattle.c_reader.proofs.StatementSound.{entry_takes, arm_takes}

pub stmt_zero : (d : ℕ) (b : Bool) (ts : List Token) → d ≡ 0 → stmt_within d b ts ≡ None
unfolding stmt_within
stmt_zero d b ts h = ap (λ n. stmt_within n b ts) h

pub stmt_some : (d : ℕ) (b : Bool) (ts : List Token) → d ≢ 0 → stmt_within d b ts ≡ statement (d - 1) (stmt_within (d - 1)) b ts
unfolding stmt_within
stmt_some zero b ts h = absurd (h refl)
stmt_some (suc d) b ts h = let e : suc d - 1 ≡ d = omega arith in rw e refl

-- ---- at the bound

bind_none : {A B : Type 0} (o : Option A) (f : A → Option B) → ((x : A) → f x ≡ None) → (o >>= f) ≡ None
bind_none None f h = refl
bind_none (Some x) f h = h x

no_deeper : {A : Type 0} (b : Bool) (ts : List Token) (f : Got Stmt → Option A) → (stmt_within 0 b ts >>= f) ≡ None
unfolding stmt_within
no_deeper b ts f = refl

arm_at_bound : (b : Bool) (ts : List Token) → arm 0 (stmt_within 0) b ts ≡ None
arm_at_bound b ts = bind_none (condition 0 ts) _ (λ x. no_deeper b x.rest _)

chain_at_bound : (b : Bool) (l n : ℕ) (xs : List Arm) (ts : List Token) → chain 0 (stmt_within 0) b l n xs ts ≡ None
chain_at_bound b l zero xs ts = refl
chain_at_bound b l (suc n) xs ts = ap (λ o. o >>= (λ a. chain_on (stmt_within 0) b l (chain 0 (stmt_within 0) b l n) (xs ++ a.value ∷ []) a.rest (after word.Else a.rest))) (arm_at_bound b ts)

at_bound : (b : Bool) (l : ℕ) (st : Start) (ts : List Token) → holds_other st ≡ true → statement_of 0 (stmt_within 0) b l st ts ≡ None
at_bound b l start'.If ts h = chain_at_bound b l (length (tail ts)) [] (tail ts)
at_bound b l start'.While ts h = bind_none (condition 0 (tail ts)) _ (λ x. no_deeper true x.rest _)
at_bound b l start'.Do ts h = no_deeper true (tail ts) _
at_bound b l start'.For ts h = bind_none (head 0 (tail ts)) _ (λ x. no_deeper true x.rest _)
at_bound b l _ ts h = absurd cc

-- a statement that holds another is deeper than the bound
pub no_room : (d : ℕ) (b : Bool) (st : Start) (ts : List Token) → d ≡ 0 → st ≡ start ts → holds_other st ≡ true → statement d (stmt_within d) b ts ≡ None
no_room d b st ts z e h = ap (λ n. statement n (stmt_within n) b ts) z ∙ at_bound b (first_line ts) (start ts) ts (ap holds_other (sym e) ∙ h)

-- ---- blocks

-- to go on from here gives what the whole gives, in turns enough
pub record GoingBlock (d : ℕ) (b : Bool) (ts : List Token) (xs : List Stmt) (rest : List Token) : Type 0 where
  pub turns : ℕ
  pub enough : length rest ≤ turns
  pub same : block d (stmt_within d) b turns xs rest ≡ block d (stmt_within d) b (length ts) [] ts

pub block_starts : (d : ℕ) (b : Bool) (ts : List Token) → GoingBlock d b ts [] ts
block_starts d b ts = record { turns = length ts; enough = omega arith; same = refl }

-- with a turn left or with none, the block does this
turned : (d : ℕ) (b : Bool) (n : ℕ) (xs : List Stmt) (rest : List Token) (o : Option (List Token)) (r : Read (List Stmt)) → after word.RBrace rest ≡ o
    → ((go : List Stmt → List Token → Read (List Stmt)) → block_turn d (stmt_within d) b go xs rest o ≡ r) → block d (stmt_within d) b n xs rest ≡ r
turned d b zero xs rest o r e f = ap (block_turn d (stmt_within d) b (λ _ _. None) xs rest) e ∙ f (λ _ _. None)
turned d b (suc n) xs rest o r e f = ap (block_turn d (stmt_within d) b (block d (stmt_within d) b n) xs rest) e ∙ f (block d (stmt_within d) b n)

goes : (d : ℕ) (b : Bool) (ts : List Token) (xs : List Stmt) (rest : List Token) (s : Got Stmt) (n : ℕ) → length rest ≤ n → block d (stmt_within d) b n xs rest ≡ block d (stmt_within d) b (length ts) [] ts → after word.RBrace rest ≡ None → entry d (stmt_within d) b rest ≡ Some s → GoingBlock d b ts (xs ++ s.value ∷ []) s.rest
goes d b ts xs rest s zero en same e r = absurd (omega (arith, entry_takes d b rest s r))
goes d b ts xs rest s (suc n) en same e r =
    record {
      turns = n;
      enough = omega (arith, entry_takes d b rest s r);
      same = sym (ap (block_turn d (stmt_within d) b (block d (stmt_within d) b n) xs rest) e ∙ ap (λ o. o >>= (λ s. block d (stmt_within d) b n (xs ++ s.value ∷ []) s.rest)) r) ∙ same;
    }

module _ (d : ℕ) (b : Bool) (ts : List Token) (xs : List Stmt) (rest : List Token) (g : GoingBlock d b ts xs rest) where
  pub block_ends : (us : List Token) → after word.RBrace rest ≡ Some us → block d (stmt_within d) b (length ts) [] ts ≡ Some (got xs us)
  block_ends us e = sym g.same ∙ turned d b g.turns xs rest (Some us) _ e (λ go. refl)

  pub block_fails : after word.RBrace rest ≡ None → entry d (stmt_within d) b rest ≡ None → block d (stmt_within d) b (length ts) [] ts ≡ None
  block_fails e r = sym g.same ∙ turned d b g.turns xs rest None None e (λ go. ap (λ o. o >>= (λ s. go (xs ++ s.value ∷ []) s.rest)) r)

  pub block_goes_on : (s : Got Stmt) → after word.RBrace rest ≡ None → entry d (stmt_within d) b rest ≡ Some s → GoingBlock d b ts (xs ++ s.value ∷ []) s.rest
  block_goes_on s e r = goes d b ts xs rest s g.turns g.enough g.same e r

-- ---- the arms of an `if`

-- the same for the arms
pub record GoingChain (d : ℕ) (b : Bool) (l : ℕ) (ts : List Token) (xs : List Arm) (rest : List Token) : Type 0 where
  pub turns : ℕ
  pub enough : length rest ≤ turns
  pub same : chain d (stmt_within d) b l turns xs rest ≡ chain d (stmt_within d) b l (length ts) [] ts

pub chain_starts : (d : ℕ) (b : Bool) (l : ℕ) (ts : List Token) → GoingChain d b l ts [] ts
chain_starts d b l ts = record { turns = length ts; enough = omega arith; same = refl }

pub next_shorter : (d : ℕ) (b : Bool) (ts us vs : List Token) (a : Got Arm) → arm d (stmt_within d) b ts ≡ Some a → after word.Else a.rest ≡ Some us → after word.If us ≡ Some vs → length vs < length ts
next_shorter d b ts us vs a h e i =
    let x = after_is word.Else a.rest us e in
    let y = after_is word.If us vs i in
    omega (arith, arm_takes d b ts a h, ap length x.1, ap length y.1)

-- an arm was read, with the turns that are left behind it
record ArmRead (d : ℕ) (b : Bool) (l : ℕ) (ts : List Token) (xs : List Arm) (a : Got Arm) : Type 0 where
  turns : ℕ
  enough : length a.rest ≤ turns
  same : chain d (stmt_within d) b l (length ts) [] ts ≡ chain_on (stmt_within d) b l (chain d (stmt_within d) b l turns) (xs ++ a.value ∷ []) a.rest (after word.Else a.rest)

arm_is_read : (d : ℕ) (b : Bool) (l : ℕ) (ts : List Token) (xs : List Arm) (rest : List Token) (a : Got Arm) (n : ℕ) → length rest ≤ n → chain d (stmt_within d) b l n xs rest ≡ chain d (stmt_within d) b l (length ts) [] ts → arm d (stmt_within d) b rest ≡ Some a → ArmRead d b l ts xs a
arm_is_read d b l ts xs rest a zero en same r = absurd (omega (arith, arm_takes d b rest a r))
arm_is_read d b l ts xs rest a (suc n) en same r =
    record {
      turns = n;
      enough = omega (arith, arm_takes d b rest a r);
      same = sym same ∙ ap (λ o. o >>= (λ a. chain_on (stmt_within d) b l (chain d (stmt_within d) b l n) (xs ++ a.value ∷ []) a.rest (after word.Else a.rest))) r;
    }

no_arm : (d : ℕ) (b : Bool) (l n : ℕ) (xs : List Arm) (rest : List Token) → arm d (stmt_within d) b rest ≡ None → chain d (stmt_within d) b l n xs rest ≡ None
no_arm d b l zero xs rest r = refl
no_arm d b l (suc n) xs rest r = ap (λ o. o >>= (λ a. chain_on (stmt_within d) b l (chain d (stmt_within d) b l n) (xs ++ a.value ∷ []) a.rest (after word.Else a.rest))) r

module _ (d : ℕ) (b : Bool) (l : ℕ) (ts : List Token) (xs : List Arm) (rest : List Token) (g : GoingChain d b l ts xs rest) where
  pub arm_fails : arm d (stmt_within d) b rest ≡ None → chain d (stmt_within d) b l (length ts) [] ts ≡ None
  arm_fails r = sym g.same ∙ no_arm d b l g.turns xs rest r

  module _ (a : Got Arm) (r : arm d (stmt_within d) b rest ≡ Some a) where
    pub chain_ends : after word.Else a.rest ≡ None → chain d (stmt_within d) b l (length ts) [] ts ≡ Some (got (stmt'.If l (xs ++ a.value ∷ []) None) a.rest)
    chain_ends e =
        let k = arm_is_read d b l ts xs rest a g.turns g.enough g.same r in
        k.same ∙ ap (chain_on (stmt_within d) b l (chain d (stmt_within d) b l k.turns) (xs ++ a.value ∷ []) a.rest) e

    module _ (us : List Token) (e : after word.Else a.rest ≡ Some us) where
      pub chain_goes_on : (vs : List Token) → after word.If us ≡ Some vs → GoingChain d b l ts (xs ++ a.value ∷ []) vs
      chain_goes_on vs i =
          let k = arm_is_read d b l ts xs rest a g.turns g.enough g.same r in
          let x = after_is word.Else a.rest us e in
          let y = after_is word.If us vs i in
          record {
            turns = k.turns;
            enough = omega (arith, k.enough, ap length x.1, ap length y.1);
            same = sym (k.same ∙ ap (chain_on (stmt_within d) b l (chain d (stmt_within d) b l k.turns) (xs ++ a.value ∷ []) a.rest) e ∙ ap (last_arm (stmt_within d) b l (chain d (stmt_within d) b l k.turns) (xs ++ a.value ∷ []) us) i);
          }

      -- behind the last `else` the chain is what the last arm is
      pub chain_last : after word.If us ≡ None → chain d (stmt_within d) b l (length ts) [] ts ≡ last_arm (stmt_within d) b l (λ _ _. None) (xs ++ a.value ∷ []) us None
      chain_last i =
          let k = arm_is_read d b l ts xs rest a g.turns g.enough g.same r in
          k.same ∙ ap (chain_on (stmt_within d) b l (chain d (stmt_within d) b l k.turns) (xs ++ a.value ∷ []) a.rest) e ∙ ap (last_arm (stmt_within d) b l (chain d (stmt_within d) b l k.turns) (xs ++ a.value ∷ []) us) i

-- a fault of a part is a fault of the whole
pub fails_along : {X Y : Type 0} → (e : Fault) (r : Option X) (s : Option Y) → (r ≡ None → s ≡ None) → Fails e r → Fails e s
fails_along Memory r s h f = tt
fails_along (Unexpected left) r s h f = h f
