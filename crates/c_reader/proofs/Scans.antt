-- The scan, piece after piece.
use Rattle.std.proofs.Common.{◌≡◌, ℕ, zero, suc, ◌+◌, ◌<◌, ◌≤◌, List, [], ◌∷◌, ◌++◌, length, drop, Ok, Err, refl, sym, ap, ◌∙◌, arith, append_assoc, append-nil, length-drop, subst, true, false, Bool}
use Rattle.std.specs.Prelude.{if◌then◌else◌}
use Rattle.c_tree.specs.declared.token.Token.{Token}
use Rattle.c_tree.specs.declared.token.Kind.{Kind}
use Rattle.c_tree.specs.declared.token.Piece.TheVariants as p
use Rattle.c_tree.specs.declared.token.Directive.{Directive}
use Rattle.c_tree.specs.declared.token.Directive.TheVariants as d
use Rattle.c_tree.specs.declared.tree.Constant.{Constant}
use Rattle.c_tree.specs.Scan as spec
use Rattle.c_tree.specs.Scan.{BadByte, BadNumber, UnendedComment, Scan, piece, step, hashed, directed, directive, kinds, line_rest, with_token, with_constant, scan_from, scan}
use Rattle.c_reader.specs.declared.fault.ReadFault.{ReadFault}
use Rattle.c_reader.specs.declared.fault.ReadFault.TheVariants as fault
use Rattle.c_reader.specs.declared.here.Here.{Here}
use Rattle.c_reader.specs.declared.scan.Scanned.{Scanned}
use Rattle.c_reader.specs.Scanning.{here, found, with_rest, IsWithin, Moved, Stops, FailsScan}

one_token : (s : Scanned) (t : Token) (h : Here) (r : Scan) → with_rest s (with_token t r) ≡ with_rest (record { tokens = s.tokens ++ t ∷ []; constants = s.constants; here = h }) r
one_token s t h (Ok r) = ap (λ ts. Ok (record { tokens = ts; constants = s.constants ++ r.constants })) (sym (append_assoc s.tokens (t ∷ []) r.tokens))
one_token s t h (Err e) = refl

one_constant : (s : Scanned) (c : Constant) (h : Here) (r : Scan) → with_rest s (with_constant c r) ≡ with_rest (record { tokens = s.tokens; constants = s.constants ++ c ∷ []; here = h }) r
one_constant s c h (Ok r) = ap (λ cs. Ok (record { tokens = s.tokens ++ r.tokens; constants = cs })) (sym (append_assoc s.constants (c ∷ []) r.constants))
one_constant s c h (Err e) = refl

other_here : (ts : List Token) (cs : List Constant) (h g : Here) (r : Scan) → with_rest (record { tokens = ts; constants = cs; here = h }) r ≡ with_rest (record { tokens = ts; constants = cs; here = g }) r
other_here ts cs h g (Ok r) = refl
other_here ts cs h g (Err e) = refl

hashed_is : (b : Bool) (h : spec.Here) (line : List ℕ) (go : spec.Here → ℕ → Scan) → hashed b h line go ≡ directed (if b then directive (kinds line) else d.Bad) h (length line + 1) go
hashed_is true h line go = refl
hashed_is false h line go = refl

module _ (s : Scanned) (rest : List ℕ) (w : IsWithin s.here (length rest)) where
  pub blank : (n m : ℕ) (h : Here) → piece rest ≡ p.Blank n m → (0 < n) × (n ≤ length rest) × (m ≤ n) → here h ≡ spec.passed (here s.here) n m → Moved s (record { tokens = s.tokens; constants = s.constants; here = h }) rest n
  blank n m h e t q =
      let a : h.place ≡ s.here.place + n = ap (λ (g : spec.Here). g.place) q in
      let b : h.line ≡ s.here.line + m = ap (λ (g : spec.Here). g.spot.line) q in
      let c : h.constants ≡ s.here.constants = ap (λ (g : spec.Here). g.spot.constants) q in
      record {
        some = t.0;
        most = t.1;
        within = record { place = omega (arith, a, w.place, t.1); line = omega (arith, a, b, w.line, t.2); constants = omega (arith, a, c, w.constants) };
        same = λ go.
            ap (λ x. with_rest s (step x (here s.here) rest go)) e
            ∙ ap (λ g. with_rest s (go g n)) (sym q)
            ∙ other_here s.tokens s.constants s.here h (go (here h) n);
      }

  pub token : (x : Kind) (n : ℕ) (h : Here) → piece rest ≡ p.Is x n → (0 < n) × (n ≤ length rest) → here h ≡ spec.taken (here s.here) n
      → Moved s (record { tokens = s.tokens ++ record { kind = x; line = s.here.line; constants = s.here.constants } ∷ []; constants = s.constants; here = h }) rest n
  token x n h e t q =
      let a : h.place ≡ s.here.place + n = ap (λ (g : spec.Here). g.place) q in
      let b : h.line ≡ s.here.line = ap (λ (g : spec.Here). g.spot.line) q in
      let c : h.constants ≡ s.here.constants = ap (λ (g : spec.Here). g.spot.constants) q in
      record {
        some = t.0;
        most = t.1;
        within = record { place = omega (arith, a, w.place, t.1); line = omega (arith, a, b, w.line); constants = omega (arith, a, c, w.constants) };
        same = λ go.
            ap (λ x. with_rest s (step x (here s.here) rest go)) e
            ∙ ap (λ g. with_rest s (with_token (record { kind = x; line = s.here.line; constants = s.here.constants }) (go g n))) (sym q)
            ∙ one_token s (record { kind = x; line = s.here.line; constants = s.here.constants }) h (go (here h) n);
      }

  -- a line that begins with `#`, by what it says
  module _ (says : Directive) (e : piece rest ≡ p.Hash) (line : List ℕ) (r : line ≡ line_rest (drop 1 rest)) (y : says ≡ (if s.here.fresh then directive (kinds line) else d.Bad)) where
    says_is : (go : spec.Here → ℕ → Scan) → with_rest s (step (piece rest) (here s.here) rest go) ≡ with_rest s (directed says (here s.here) (length line + 1) go)
    says_is go =
        ap (λ x. with_rest s (step x (here s.here) rest go)) e
        ∙ ap (λ l. with_rest s (hashed s.here.fresh (here s.here) l go)) (sym r)
        ∙ ap (with_rest s) (hashed_is s.here.fresh (here s.here) line go)
        ∙ ap (λ z. with_rest s (directed z (here s.here) (length line + 1) go)) (sym y)

    pub include : (h : Here) → says ≡ d.Include → length line + 1 ≤ length rest → here h ≡ spec.passed (here s.here) (length line + 1) 0 → Moved s (record { tokens = s.tokens; constants = s.constants; here = h }) rest (length line + 1)
    include h i l q =
        let a : h.place ≡ s.here.place + (length line + 1) = ap (λ (g : spec.Here). g.place) q in
        let b : h.line ≡ s.here.line + 0 = ap (λ (g : spec.Here). g.spot.line) q in
        let c : h.constants ≡ s.here.constants = ap (λ (g : spec.Here). g.spot.constants) q in
        record {
          some = omega arith;
          most = l;
          within = record { place = omega (arith, a, w.place, l); line = omega (arith, a, b, w.line); constants = omega (arith, a, c, w.constants) };
          same = λ go.
              says_is go
              ∙ ap (λ z. with_rest s (directed z (here s.here) (length line + 1) go)) i
              ∙ ap (λ g. with_rest s (go g (length line + 1))) (sym q)
              ∙ other_here s.tokens s.constants s.here h (go (here h) (length line + 1));
        }

    pub define : (x : Constant) (h : Here) → says ≡ d.Define x → length line + 1 ≤ length rest → here h ≡ spec.made (here s.here) (length line + 1) → Moved s (record { tokens = s.tokens; constants = s.constants ++ x ∷ []; here = h }) rest (length line + 1)
    define x h i l q =
        let a : h.place ≡ s.here.place + (length line + 1) = ap (λ (g : spec.Here). g.place) q in
        let b : h.line ≡ s.here.line = ap (λ (g : spec.Here). g.spot.line) q in
        let c : h.constants ≡ s.here.constants + 1 = ap (λ (g : spec.Here). g.spot.constants) q in
        record {
          some = omega arith;
          most = l;
          within = record { place = omega (arith, a, w.place, l); line = omega (arith, a, b, w.line); constants = omega (arith, a, c, w.constants) };
          same = λ go.
              says_is go
              ∙ ap (λ z. with_rest s (directed z (here s.here) (length line + 1) go)) i
              ∙ ap (λ g. with_rest s (with_constant x (go g (length line + 1)))) (sym q)
              ∙ one_constant s x h (go (here h) (length line + 1));
        }

    pub bad_line : says ≡ d.Bad → Stops s rest (fault.BadByte s.here.place)
    bad_line i go = says_is go ∙ ap (λ z. with_rest s (directed z (here s.here) (length line + 1) go)) i

  pub bad_byte : (n : ℕ) → piece rest ≡ p.BadByte n → Stops s rest (fault.BadByte (s.here.place + n))
  bad_byte n e go = ap (λ x. with_rest s (step x (here s.here) rest go)) e

  pub bad_number : piece rest ≡ p.BadNumber → Stops s rest (fault.BadNumber s.here.place)
  bad_number e go = ap (λ x. with_rest s (step x (here s.here) rest go)) e

  pub unended : piece rest ≡ p.Unended → Stops s rest fault.UnendedComment
  unended e go = ap (λ x. with_rest s (step x (here s.here) rest go)) e

-- ---- the whole text

-- the scan of the whole is what was read so far and the scan from here on, in pieces enough
pub record Going (text : List ℕ) (s : Scanned) (rest : List ℕ) : Type 0 where
  pub turns : ℕ
  pub within : IsWithin s.here (length rest)
  pub enough : length rest ≤ turns
  pub same : scan text ≡ with_rest s (scan_from turns (here s.here) rest)

with_none : (ts : List Token) (cs : List Constant) (h : Here) → ts ≡ [] → cs ≡ [] → (r : Scan) → r ≡ with_rest (record { tokens = ts; constants = cs; here = h }) r
with_none ts cs h a b (Ok r) = ap (λ us. Ok (record { tokens = us ++ r.tokens; constants = r.constants })) (sym a) ∙ ap (λ us. Ok (record { tokens = ts ++ r.tokens; constants = us ++ r.constants })) (sym b)
with_none ts cs h a b (Err e) = refl

pub begins : (text : List ℕ) (h : Here) → length text ≤ 262144 → here h ≡ spec.start → Going text (record { tokens = []; constants = []; here = h }) text
begins text h l q =
    let a : h.place ≡ 0 = ap (λ (g : spec.Here). g.place) q in
    let b : h.line ≡ 1 = ap (λ (g : spec.Here). g.spot.line) q in
    let c : h.constants ≡ 0 = ap (λ (g : spec.Here). g.spot.constants) q in
    record {
      turns = length text;
      within = record { place = omega (arith, a, l); line = omega (arith, a, b); constants = omega (arith, a, c) };
      enough = omega arith;
      same = ap (λ g. scan_from (length text) g text) (sym q) ∙ with_none [] [] h refl refl (scan_from (length text) (here h) text);
    }

step_at : (n : ℕ) (h : spec.Here) (bs : List ℕ) → 0 < length bs → scan_from (suc n) h bs ≡ step (piece bs) h bs (λ g k. scan_from n g (drop k bs))
step_at n h [] l = absurd (omega arith)
step_at n h (b ∷ bs) l = refl

over_at : (n : ℕ) (h : spec.Here) (bs : List ℕ) → length bs ≡ 0 → scan_from n h bs ≡ Ok (record { tokens = []; constants = [] })
over_at zero h [] l = refl
over_at (suc n) h [] l = refl
over_at n h (b ∷ bs) l = absurd (omega arith)

nothing_more : (s : Scanned) → with_rest s (Ok (record { tokens = []; constants = [] })) ≡ Ok (found s)
nothing_more s = ap (λ ts. Ok (record { tokens = ts; constants = s.constants ++ [] })) (append-nil s.tokens) ∙ ap (λ cs. Ok (record { tokens = s.tokens; constants = cs })) (append-nil s.constants)

-- a turn is left before the end
record Turn (text : List ℕ) (s : Scanned) (rest : List ℕ) : Type 0 where
  more : ℕ
  enough : length rest ≤ suc more
  same : scan text ≡ with_rest s (step (piece rest) (here s.here) rest (λ g k. scan_from more g (drop k rest)))

turn_of : (text : List ℕ) (s : Scanned) (rest : List ℕ) (n : ℕ) → length rest ≤ n → scan text ≡ with_rest s (scan_from n (here s.here) rest) → 0 < length rest → Turn text s rest
turn_of text s rest zero e h l = absurd (omega arith)
turn_of text s rest (suc n) e h l = record { more = n; enough = e; same = h ∙ ap (with_rest s) (step_at n (here s.here) rest l) }

module _ (text : List ℕ) (s : Scanned) (rest : List ℕ) (g : Going text s rest) where
  pub is_over : length rest ≡ 0 → scan text ≡ Ok (found s)
  is_over l = g.same ∙ ap (with_rest s) (over_at g.turns (here s.here) rest l) ∙ nothing_more s

  pub stops : (e : ReadFault) → 0 < length rest → Stops s rest e → FailsScan e (scan text)
  stops e l h =
      let t = turn_of text s rest g.turns g.enough g.same l in
      subst (FailsScan e) (sym t.same) (h (λ g k. scan_from t.more g (drop k rest)))

  pub goes_on : (r : Scanned) (n : ℕ) → 0 < length rest → Moved s r rest n → Going text r (drop n rest)
  goes_on r n l m =
      let t = turn_of text s rest g.turns g.enough g.same l in
      record {
        turns = t.more;
        within = subst (IsWithin r.here) (sym (length-drop n rest)) m.within;
        enough = omega (arith, t.enough, m.some, length-drop n rest);
        same = t.same ∙ m.same (λ g k. scan_from t.more g (drop k rest));
      }
