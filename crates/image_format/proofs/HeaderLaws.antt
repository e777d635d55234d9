-- A header that is read was spelled so, and one that is spelled so is read.
use Rattle.std.proofs.Common.{◌≡◌, refl, sym, ◌∙◌, ap, subst, ℕ, ◌+◌, ◌<◌, ◌≤◌, ◌^◌, ◌%◌, nat_lt, ◌==◌, ◌||◌, not, Bool, true, false, cond, List, [], ◌∷◌, ◌++◌, length, take, drop, Result, Ok, Err, IfOk, arith}
use Rattle.std.specs.Str.{bytes_eq}
use Rattle.std.specs.Int.{w8, w16, w32, byte_len, to_be_bytes, from_be_bytes}
use Rattle.std.proofs.lemmas.Bool.{eqb-true}
use Rattle.std.proofs.lemmas.Bool.Decides.{nat_tests}
use Rattle.std.proofs.lemmas.Slice.Eq.{bytes_eq-Decides}
use Rattle.std.proofs.lemmas.List.{take-append-drop, drop-drop, take_all, length-drop, length-take-le}
use Rattle.image_format.specs.declared.header.Header.{Header}
use Rattle.image_format.specs.declared.header.BadHeader.{BadHeader}
use Rattle.image_format.specs.Image.{IsBytes, IsHeldHeader}
use Rattle.image_format.specs.Spelling.{magic, is_open, header_bytes, SpellsHeader}
use Rattle.image_format.specs.Reading.{GivesHeader, field, header_at}
use Rattle.image_format.proofs.FieldLaws.{IsBytes-drop, IsBytes-take, IsWide, wide8, wide16, wide32, ok_is}

-- a test that did not fail
passed : {A : Type 0} (b : Bool) (d : ℕ) (r : Result A ℕ) (y : A) → cond b (Err d) r ≡ Ok y → (b ≡ false) × (r ≡ Ok y)
passed true d r y e = absurd cc
passed false d r y e = (refl, e)

-- five parts of 16 bytes
parts : (bytes : List ℕ) → length bytes ≡ 16 → bytes ≡ take 4 bytes ++ (take 4 (drop 4 bytes) ++ (take 4 (drop 8 bytes) ++ (take 2 (drop 12 bytes) ++ (take 1 (drop 14 bytes) ++ take 1 (drop 15 bytes)))))
parts bytes size =
    let last : take 1 (drop 15 bytes) ≡ drop 15 bytes = take_all 1 (drop 15 bytes) (omega (arith, length-drop 15 bytes)) in
    sym (take-append-drop 4 bytes)
    ∙ ap (λ (l : List ℕ). take 4 bytes ++ l) (next 4 4 bytes
    ∙ ap (λ (l : List ℕ). take 4 (drop 4 bytes) ++ l) (next 8 4 bytes
    ∙ ap (λ (l : List ℕ). take 4 (drop 8 bytes) ++ l) (next 12 2 bytes
    ∙ ap (λ (l : List ℕ). take 2 (drop 12 bytes) ++ l) (next 14 1 bytes
    ∙ ap (λ (l : List ℕ). take 1 (drop 14 bytes) ++ l) (sym last)))))
  where
    next : (m n : ℕ) (bytes : List ℕ) → drop m bytes ≡ take n (drop m bytes) ++ drop (m + n) bytes
    next m n bytes = sym (take-append-drop n (drop m bytes)) ∙ ap (λ (l : List ℕ). take n (drop m bytes) ++ l) (drop-drop n m bytes)

part_is : (w : _) (limit : ℕ) (wide : IsWide w limit) (place : ℕ) (bytes : List ℕ) → IsBytes bytes → place + byte_len w ≤ length bytes → to_be_bytes w (field w place bytes) ≡ take (byte_len w) (drop place bytes)
part_is w limit wide place bytes fits long = wide.back (take (byte_len w) (drop place bytes)) (length-take-le (byte_len w) (drop place bytes) (omega (arith, length-drop place bytes))) (IsBytes-take (byte_len w) (drop place bytes) (IsBytes-drop place bytes fits))

below : (w : _) (limit : ℕ) (wide : IsWide w limit) (place : ℕ) (bytes : List ℕ) → IsBytes bytes → field w place bytes < limit
below w limit wide place bytes fits = wide.below (take (byte_len w) (drop place bytes)) (IsBytes-take (byte_len w) (drop place bytes) (IsBytes-drop place bytes fits))

pub header_found : (bytes : List ℕ) (h : Header) → IsBytes bytes → length bytes ≡ 16 → header_at bytes ≡ Ok h → IsHeldHeader h × SpellsHeader h bytes
header_found bytes h fits size e =
    let generation = field w32 4 bytes in
    let every = field w32 8 bytes in
    let max = field w16 12 bytes in
    let reserved = field w8 14 bytes in
    let gate = field w8 15 bytes in
    let made : Header = record { generation = generation; every = every; max = max; gate_open = is_open gate } in
    let r4 : Result Header ℕ = cond (not (reserved == 0)) (Err 14) (Ok made) in
    let r3 : Result Header ℕ = cond (nat_lt max 2 || nat_lt 64 max) (Err 12) r4 in
    let r2 : Result Header ℕ = cond (nat_lt every 1) (Err 8) r3 in
    let r1 : Result Header ℕ = cond (nat_lt generation 1) (Err 4) r2 in
    let a = passed (not (bytes_eq (take 4 bytes) magic)) 0 r1 h e in
    let b = passed (nat_lt generation 1) 4 r2 h a.1 in
    let c = passed (nat_lt every 1) 8 r3 h b.1 in
    let d = passed (nat_lt max 2 || nat_lt 64 max) 12 r4 h c.1 in
    let f = passed (not (reserved == 0)) 14 (Ok made) h d.1 in
    let m : take 4 bytes ≡ magic = (bytes_eq-Decides (take 4 bytes) magic).0 (holds _ a.0) in
    let z : reserved ≡ 0 = eqb-true _ _ (holds _ f.0) in
    let g1 : 1 ≤ generation = grind (arith, nat_tests, b.0) in
    let g2 : 1 ≤ every = grind (arith, nat_tests, c.0) in
    let g3 : 2 ≤ max = grind (arith, nat_tests, d.0) in
    let g4 : max ≤ 64 = grind (arith, nat_tests, d.0) in
    let text : bytes ≡ header_bytes made gate =
    parts bytes size
    ∙ joined made gate reserved _ _ _ _ _ _ m (part_is w32 (2 ^ 32) wide32 4 bytes fits (omega arith)) (part_is w32 (2 ^ 32) wide32 8 bytes fits (omega arith)) (part_is w16 (2 ^ 16) wide16 12 bytes fits (omega arith)) (part_is w8 (2 ^ 8) wide8 14 bytes fits (omega arith)) (part_is w8 (2 ^ 8) wide8 15 bytes fits (omega arith)) z (below w8 (2 ^ 8) wide8 15 bytes fits) in
    subst (λ (x : Header). IsHeldHeader x × SpellsHeader x bytes) {x = made} (ok_is made h f.1) (
      record { generation = below w32 (2 ^ 32) wide32 4 bytes fits; every = below w32 (2 ^ 32) wide32 8 bytes fits; ranges = record { generation = g1; every = g2; max_least = g3; max_most = g4 } },
      record { gate = gate; bytes_are = text; gate_is = refl },
    )
  where
    holds : (b : Bool) → not b ≡ false → b ≡ true
    holds true e = refl
    holds false e = absurd cc

    joined : (h : Header) (gate reserved : ℕ) (p0 p1 p2 p3 p4 p5 : List ℕ) → p0 ≡ magic → to_be_bytes w32 h.generation ≡ p1 → to_be_bytes w32 h.every ≡ p2 → to_be_bytes w16 h.max ≡ p3 → to_be_bytes w8 reserved ≡ p4 → to_be_bytes w8 gate ≡ p5
        → reserved ≡ 0 → gate < 256 → p0 ++ (p1 ++ (p2 ++ (p3 ++ (p4 ++ p5)))) ≡ header_bytes h gate
    joined h gate reserved p0 p1 p2 p3 p4 p5 e0 e1 e2 e3 e4 e5 z lt =
        let g : gate % 256 ≡ gate = omega arith in
        let last : p5 ≡ gate ∷ [] = sym e5 ∙ ap (λ (n : ℕ). n ∷ []) g in
        let fourth : p4 ≡ 0 ∷ [] = sym e4 ∙ ap (to_be_bytes w8) z in
        rw (e0, ← e1, ← e2, ← e3, fourth, last) refl

pub header_only : (bytes : List ℕ) (h : Header) → IsHeldHeader h → SpellsHeader h bytes → header_at bytes ≡ Ok h
header_only bytes h is spelled =
    let r = is.ranges in
    let gate = spelled.gate in
    let g1 = r.generation in let g2 = r.every in let g3 = r.max_least in let g4 = r.max_most in
    let generation : from_be_bytes w32 (to_be_bytes w32 h.generation) ≡ h.generation = wide32.again h.generation is.generation in
    let every : from_be_bytes w32 (to_be_bytes w32 h.every) ≡ h.every = wide32.again h.every is.every in
    let max : from_be_bytes w16 (to_be_bytes w16 h.max) ≡ h.max = wide16.again h.max (omega arith) in
    let t1 : nat_lt h.generation 1 ≡ false = grind (arith, nat_tests) in
    let t2 : nat_lt h.every 1 ≡ false = grind (arith, nat_tests) in
    let t3 : (nat_lt h.max 2 || nat_lt 64 h.max) ≡ false = grind (arith, nat_tests) in
    ap header_at spelled.bytes_are ∙ rw (generation, every, max, t1, t2, t3) (ap (λ (b : Bool). Ok (record { generation = h.generation; every = h.every; max = h.max; gate_open = b })) (sym spelled.gate_is))

pub header_found_of : (bytes : List ℕ) (r : Result Header BadHeader) → IsBytes bytes → length bytes ≡ 16 → GivesHeader r (header_at bytes) → IfOk r (λ h. IsHeldHeader h × SpellsHeader h bytes)
header_found_of bytes (Ok h) fits size given = header_found bytes h fits size given
header_found_of bytes (Err e) fits size given = tt

pub header_only_of : (bytes : List ℕ) (r : Result Header BadHeader) → GivesHeader r (header_at bytes) → (h : Header) → IsHeldHeader h → SpellsHeader h bytes → GivesHeader r (Ok h)
header_only_of bytes (Ok x) given h is spelled = sym (header_only bytes h is spelled) ∙ given
header_only_of bytes (Err e) given h is spelled = sym (header_only bytes h is spelled) ∙ given
