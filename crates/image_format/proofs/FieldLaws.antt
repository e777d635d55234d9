-- A field that is read was spelled so, and one that is spelled so is read.
use Rattle.std.proofs.Common.{◌≡◌, ℕ, ◌+◌, ◌%◌, ◌^◌, ◌<◌, ◌≤◌, Bool, true, false, cond, ltb, List, [], ◌∷◌, ◌++◌, length, take, drop, Result, Ok, Err, refl, sym, ap, ◌∙◌, append_assoc, arith, inl, inr}
use Rattle.std.specs.Int.{Width, w8, w16, w32, w64, byte_len, from_be_bytes, to_be_bytes}
use Rattle.std.proofs.lemmas.Bool.{cases_lt, ltb-false, le-ltb}
use Rattle.std.proofs.lemmas.List.{take_at, drop_at, take-append-drop, length-append, length-take, length-take-le, get_or-drop, get_or-take, get_or_past}
use Rattle.std.proofs.lemmas.Nat.{be_bytes_2, be_bytes_4, be_bytes_8, from_be_bytes-to_be_bytes_2, from_be_bytes-to_be_bytes_4, from_be_bytes-to_be_bytes_8}
use Rattle.image_format.specs.Image.{IsBytes}
use Rattle.image_format.specs.Reading.{◌>>=◌, bytes_at, number_at, field_at}

pub IsBytes-drop : (n : ℕ) (bytes : List ℕ) → IsBytes bytes → IsBytes (drop n bytes)
IsBytes-drop n bytes h i = rw get_or-drop (h (n + i))

pub IsBytes-take : (n : ℕ) (bytes : List ℕ) → IsBytes bytes → IsBytes (take n bytes)
IsBytes-take n bytes h i =
    elim (cases_lt i n) [
      | inl lt ↦ rw (get_or-take n bytes i 0 lt) (h i)
      | inr le ↦ rw (get_or_past (take n bytes) i 0 (omega (arith, length-take n bytes))) (omega arith)
    ]

-- the value of a step that did not fail
pub bind_ok : {A B : Type 0} (r : Result A ℕ) (f : A → Result B ℕ) (y : B) → (r >>= f) ≡ Ok y → (x : A) × (r ≡ Ok x) × (f x ≡ Ok y)
bind_ok (Ok x) f y e = (x, refl, e)
bind_ok (Err d) f y e = absurd cc

-- tests that did not fail
pub guard_ok : {A : Type 0} (b : Bool) (d : ℕ) (x y : A) → cond b (Err d) (Ok x) ≡ Ok y → (b ≡ false) × (x ≡ y)
guard_ok true d x y e = absurd cc
guard_ok false d x y e = (refl, cc)

pub rule_ok : {A : Type 0} (b : Bool) (d : ℕ) (x y : A) → cond b (Ok x) (Err d) ≡ Ok y → (b ≡ true) × (x ≡ y)
rule_ok true d x y e = (refl, cc)
rule_ok false d x y e = absurd cc

both_ok : {A : Type 0} (a b : Bool) (d e : ℕ) (x y : A) → cond a (Err d) (cond b (Ok x) (Err e)) ≡ Ok y → (a ≡ false) × (b ≡ true) × (x ≡ y)
both_ok true b d e x y h = absurd cc
both_ok false true d e x y h = (refl, refl, cc)
both_ok false false d e x y h = absurd cc

abbrev done : {A : Type 0} → A → Result A ℕ
done x = Ok x

pub ok_is : {A : Type 0} (x y : A) → done x ≡ done y → x ≡ y
ok_is x y e = cc

-- what a reader took from the front
pub record Takes (bytes text rest : List ℕ) : Type 0 where
  pub parts : bytes ≡ text ++ rest
  pub rest_fits : IsBytes rest

pub Takes-then : (a x b y c : List ℕ) → Takes a x b → Takes b y c → Takes a (x ++ y) c
Takes-then a x b y c p q = record { parts = p.parts ∙ ap (λ (t : List ℕ). x ++ t) q.parts ∙ sym (append_assoc x y c); rest_fits = q.rest_fits }

-- ---- numbers

pub record IsWide (w : Width) (limit : ℕ) : Type 0 where
  pub len : (n : ℕ) → length (to_be_bytes w n) ≡ byte_len w
  pub back : (bytes : List ℕ) → length bytes ≡ byte_len w → IsBytes bytes → to_be_bytes w (from_be_bytes w bytes) ≡ bytes
  pub again : (n : ℕ) → n < limit → from_be_bytes w (to_be_bytes w n) ≡ n
  pub below : (bytes : List ℕ) → IsBytes bytes → from_be_bytes w bytes < limit

byte_back : (bytes : List ℕ) → length bytes ≡ 1 → IsBytes bytes → to_be_bytes w8 (from_be_bytes w8 bytes) ≡ bytes
byte_back [] len fits = absurd (omega arith)
byte_back (b ∷ []) len fits =
    let small : b < 256 = fits 0 in
    let e : (b % 256) ≡ b = omega arith in
    ap (λ (x : ℕ). x ∷ []) e
byte_back (b ∷ c ∷ bs) len fits = absurd (omega arith)

pub wide8 : IsWide w8 (2 ^ 8)
wide8 = record {
  len = λ n. refl;
  back = byte_back;
  again = λ n lt. (omega arith);
  below = λ bytes fits. omega (arith, fits 0);
}

pub wide16 : IsWide w16 (2 ^ 16)
wide16 = record {
  len = λ n. refl;
  back = λ bytes len fits. be_bytes_2 bytes _ len fits refl;
  again = λ n lt. from_be_bytes-to_be_bytes_2 n lt;
  below = λ bytes fits. omega (arith, fits 0, fits 1);
}

pub wide32 : IsWide w32 (2 ^ 32)
wide32 = record {
  len = λ n. refl;
  back = λ bytes len fits. be_bytes_4 bytes _ len fits refl;
  again = λ n lt. from_be_bytes-to_be_bytes_4 n lt;
  below = λ bytes fits. omega (arith, fits 0, fits 1, fits 2, fits 3);
}

pub wide64 : IsWide w64 (2 ^ 64)
wide64 = record {
  len = λ n. refl;
  back = λ bytes len fits. be_bytes_8 bytes _ len fits refl;
  again = λ n lt. from_be_bytes-to_be_bytes_8 n lt;
  below = λ bytes fits. omega (arith, fits 0, fits 1, fits 2, fits 3, fits 4, fits 5, fits 6, fits 7);
}

-- the number at the front of bytes that are long enough
front_takes : (w : Width) (limit : ℕ) (wide : IsWide w limit) (bytes : List ℕ) (n : ℕ) (rest : List ℕ) → IsBytes bytes → ltb (length bytes) (byte_len w) ≡ false → from_be_bytes w (take (byte_len w) bytes) ≡ n → drop (byte_len w) bytes ≡ rest
    → Takes bytes (to_be_bytes w n) rest × (n < limit)
front_takes w limit wide bytes n rest fits not_short n-is rest-is =
    let long : byte_len w ≤ length bytes = ltb-false _ _ not_short in
    let front : to_be_bytes w n ≡ take (byte_len w) bytes = rw (← n-is) (wide.back (take (byte_len w) bytes) (omega (arith, length-take (byte_len w) bytes)) (IsBytes-take (byte_len w) bytes fits)) in
    (record { parts = rw (front, ← rest-is) (sym (take-append-drop (byte_len w) bytes)); rest_fits = rw (← rest-is) (IsBytes-drop (byte_len w) bytes fits) }, rw (← n-is) (wide.below (take (byte_len w) bytes) (IsBytes-take (byte_len w) bytes fits)))

pub number_takes : (w : Width) (limit : ℕ) (wide : IsWide w limit) (end : ℕ) (bytes : List ℕ) (x : ℕ × List ℕ) → IsBytes bytes → number_at w end bytes ≡ Ok x → Takes bytes (to_be_bytes w x.0) x.1 × (x.0 < limit)
number_takes w limit wide end bytes x fits e =
    let g = guard_ok (ltb (length bytes) (byte_len w)) end (from_be_bytes w (take (byte_len w) bytes), drop (byte_len w) bytes) x e in
    front_takes w limit wide bytes x.0 x.1 fits g.0 (ap (λ (p : ℕ × List ℕ). p.0) g.1) (ap (λ (p : ℕ × List ℕ). p.1) g.1)

pub field_takes : (w : Width) (limit : ℕ) (wide : IsWide w limit) (holds : ℕ → Bool) (place end : ℕ) (bytes : List ℕ) (x : ℕ × List ℕ) → IsBytes bytes → field_at w holds place end bytes ≡ Ok x
    → Takes bytes (to_be_bytes w x.0) x.1 × (x.0 < limit) × (holds x.0 ≡ true)
field_takes w limit wide holds place end bytes x fits e =
    let n = from_be_bytes w (take (byte_len w) bytes) in
    let g = both_ok (ltb (length bytes) (byte_len w)) (holds n) end place (n, drop (byte_len w) bytes) x e in
    let n-is = ap (λ (p : ℕ × List ℕ). p.0) g.2 in
    let t = front_takes w limit wide bytes x.0 x.1 fits g.0 n-is (ap (λ (p : ℕ × List ℕ). p.1) g.2) in
    (t.0, t.1, ap holds (sym n-is) ∙ g.1)

pub bytes_takes : (n end : ℕ) (bytes : List ℕ) (x : List ℕ × List ℕ) → IsBytes bytes → bytes_at n end bytes ≡ Ok x → Takes bytes x.0 x.1 × (length x.0 ≡ n) × IsBytes x.0
bytes_takes n end bytes x fits e =
    let g = guard_ok (ltb (length bytes) n) end (take n bytes, drop n bytes) x e in
    let front : take n bytes ≡ x.0 = ap (λ (p : List ℕ × List ℕ). p.0) g.1 in
    let rest : drop n bytes ≡ x.1 = ap (λ (p : List ℕ × List ℕ). p.1) g.1 in
    let long : n ≤ length bytes = ltb-false _ _ g.0 in
    (record { parts = rw (← front, ← rest) (sym (take-append-drop n bytes)); rest_fits = rw (← rest) (IsBytes-drop n bytes fits) }, rw (← front) (length-take-le n bytes long), rw (← front) (IsBytes-take n bytes fits))

-- ---- and back

pub number_again : (w : Width) (limit : ℕ) (wide : IsWide w limit) (n end : ℕ) (rest : List ℕ) → n < limit → number_at w end (to_be_bytes w n ++ rest) ≡ Ok (n, rest)
number_again w limit wide n end rest lt =
    let len = wide.len n in
    let long : ltb (length (to_be_bytes w n ++ rest)) (byte_len w) ≡ false = le-ltb _ _ (omega (arith, length-append (to_be_bytes w n) rest)) in
    rw (long, take_at (to_be_bytes w n) rest (byte_len w) len, drop_at (to_be_bytes w n) rest (byte_len w) len, wide.again n lt) refl

pub field_again : (w : Width) (limit : ℕ) (wide : IsWide w limit) (holds : ℕ → Bool) (place end n : ℕ) (rest : List ℕ) → n < limit → holds n ≡ true → field_at w holds place end (to_be_bytes w n ++ rest) ≡ Ok (n, rest)
field_again w limit wide holds place end n rest lt meets =
    let len = wide.len n in
    let long : ltb (length (to_be_bytes w n ++ rest)) (byte_len w) ≡ false = le-ltb _ _ (omega (arith, length-append (to_be_bytes w n) rest)) in
    rw (long, take_at (to_be_bytes w n) rest (byte_len w) len, drop_at (to_be_bytes w n) rest (byte_len w) len, wide.again n lt, meets) refl

pub bytes_again : (n end : ℕ) (front rest : List ℕ) → length front ≡ n → bytes_at n end (front ++ rest) ≡ Ok (front, rest)
bytes_again n end front rest len =
    let long : ltb (length (front ++ rest)) n ≡ false = le-ltb _ _ (omega (arith, length-append front rest)) in
    rw (long, take_at front rest n len, drop_at front rest n len) refl
