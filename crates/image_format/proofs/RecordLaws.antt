-- A record that is read was spelled so, and one that is spelled so is read.
use Rattle.std.proofs.Common.{◌≡◌, refl, sym, ◌∙◌, ap, subst, ℕ, ◌+◌, ◌-◌, ◌*◌, ◌%◌, ◌<◌, ◌≤◌, ◌^◌, nat_le, nat_lt, ◌==◌, ◌&&◌, ◌||◌, Bool, true, false, cond, List, [], ◌∷◌, ◌++◌, length, Ok, Err, arith, append_assoc, length-append}
use Rattle.std.specs.List.{flat_map}
use Rattle.std.specs.Int.{w8, w16, w32, w64, to_be_bytes}
use Rattle.std.proofs.lemmas.Bool.{eqb-true}
use Rattle.std.proofs.lemmas.Bool.Decides.{nat_tests}
use Rattle.image_format.specs.declared.fields.Fields.{Fields}
use Rattle.image_format.specs.declared.fields.Marks.{Marks}
use Rattle.image_format.specs.Image.{WordRun, Image, IsBytes, IsDigest, AreFields, AreRuns, IsImage}
use Rattle.image_format.specs.Spelling.{marks_bytes, places_bytes, counts_bytes, head_bytes, run_bytes, runs_length, length_with, text, spelling}
use Rattle.image_format.specs.Reading.{◌>>=◌, bytes_at, number_at, field_at, marks_at, places_at, counts_at, Head, head_at, runs_at, Front, record_at}
use Rattle.image_format.proofs.FieldLaws.{bind_ok, rule_ok, ok_is, Takes, Takes-then, wide8, wide16, wide32, wide64, number_takes, field_takes, bytes_takes, number_again, field_again, bytes_again}
use Rattle.image_format.proofs.RunLaws.{length_runs, runs_take, runs_again}

-- ---- what is read is spelled so

pub record MarksTaken (bytes : List ℕ) (x : ℕ × List ℕ × List ℕ × List ℕ) : Type 0 where
  pub takes : Takes bytes (marks_bytes (record { source = x.1; input = x.2 }) x.0) x.3
  pub source : IsDigest x.1
  pub input : IsDigest x.2
  pub least : 109 ≤ x.0
  pub most : x.0 ≤ 3145837

pub marks_taken : (end : ℕ) (bytes : List ℕ) (x : ℕ × List ℕ × List ℕ × List ℕ) → IsBytes bytes → marks_at end bytes ≡ Ok x → MarksTaken bytes x
unfolding marks_at
marks_taken end bytes x fits e =
    let a = bind_ok (field_at w8 (λ n. n == 73) 0 end bytes) (λ tag. field_at w32 (λ n. nat_le 109 n && nat_le n 3145837) 1 end tag.1 >>= λ whole. bytes_at 32 end whole.1 >>= λ source. bytes_at 32 end source.1 >>= λ input. Ok (whole.0, source.0, input.0, input.1)) x e in
    let b = bind_ok (field_at w32 (λ n. nat_le 109 n && nat_le n 3145837) 1 end a.0.1) (λ whole. bytes_at 32 end whole.1 >>= λ source. bytes_at 32 end source.1 >>= λ input. Ok (whole.0, source.0, input.0, input.1)) x a.2 in
    let c = bind_ok (bytes_at 32 end b.0.1) (λ source. bytes_at 32 end source.1 >>= λ input. Ok (b.0.0, source.0, input.0, input.1)) x b.2 in
    let d = bind_ok (bytes_at 32 end c.0.1) (λ input. Ok (b.0.0, c.0.0, input.0, input.1)) x c.2 in
    let t0 = field_takes w8 (2 ^ 8) wide8 (λ n. n == 73) 0 end bytes a.0 fits a.1 in
    let t1 = field_takes w32 (2 ^ 32) wide32 (λ n. nat_le 109 n && nat_le n 3145837) 1 end a.0.1 b.0 t0.0.rest_fits b.1 in
    let t2 = bytes_takes 32 end b.0.1 c.0 t1.0.rest_fits c.1 in
    let t3 = bytes_takes 32 end c.0.1 d.0 t2.0.rest_fits d.1 in
    let tag : a.0.0 ≡ 73 = eqb-true _ _ t0.2 in
    let t0' : Takes bytes (73 ∷ []) a.0.1 = subst (λ (n : ℕ). Takes bytes (to_be_bytes w8 n) a.0.1) tag t0.0 in
    let e23 = Takes-then b.0.1 c.0.0 c.0.1 d.0.0 d.0.1 t2.0 t3.0 in
    let e13 = Takes-then a.0.1 (to_be_bytes w32 b.0.0) b.0.1 (c.0.0 ++ d.0.0) d.0.1 t1.0 e23 in
    let e03 = Takes-then bytes (73 ∷ []) a.0.1 (to_be_bytes w32 b.0.0 ++ (c.0.0 ++ d.0.0)) d.0.1 t0' e13 in
    let least : 109 ≤ b.0.0 = grind (arith, nat_tests, t1.2) in
    let most : b.0.0 ≤ 3145837 = grind (arith, nat_tests, t1.2) in
    let made : ℕ × List ℕ × List ℕ × List ℕ = (b.0.0, c.0.0, d.0.0, d.0.1) in
    subst (λ (y : ℕ × List ℕ × List ℕ × List ℕ). MarksTaken bytes y) {x = made} (ok_is made x d.2) (record { takes = e03; source = (t2.1, t2.2); input = (t3.1, t3.2); least = least; most = most })

pub record PlacesTaken (bytes : List ℕ) (x : ℕ × ℕ × ℕ × ℕ × List ℕ) : Type 0 where
  pub takes : Takes bytes (to_be_bytes w32 x.0 ++ (to_be_bytes w64 x.1 ++ (to_be_bytes w64 x.2 ++ to_be_bytes w64 x.3))) x.4
  pub node : x.0 ≤ 2047
  pub steps : 1 ≤ x.1
  pub steps_fit : x.1 < 2 ^ 64
  pub input_place : x.2 ≤ 16777216
  pub output_length : x.3 < 2 ^ 64

pub places_taken : (end : ℕ) (bytes : List ℕ) (x : ℕ × ℕ × ℕ × ℕ × List ℕ) → IsBytes bytes → places_at end bytes ≡ Ok x → PlacesTaken bytes x
unfolding places_at
places_taken end bytes x fits e =
    let a = bind_ok (field_at w32 (λ n. nat_le n 2047) 69 end bytes) (λ node. field_at w64 (λ n. nat_le 1 n) 73 end node.1 >>= λ steps. field_at w64 (λ n. nat_le n 16777216) 81 end steps.1 >>= λ input_place. number_at w64 end input_place.1 >>= λ output_length. Ok (node.0, steps.0, input_place.0, output_length.0, output_length.1)) x e in
    let b = bind_ok (field_at w64 (λ n. nat_le 1 n) 73 end a.0.1) (λ steps. field_at w64 (λ n. nat_le n 16777216) 81 end steps.1 >>= λ input_place. number_at w64 end input_place.1 >>= λ output_length. Ok (a.0.0, steps.0, input_place.0, output_length.0, output_length.1)) x a.2 in
    let c = bind_ok (field_at w64 (λ n. nat_le n 16777216) 81 end b.0.1) (λ input_place. number_at w64 end input_place.1 >>= λ output_length. Ok (a.0.0, b.0.0, input_place.0, output_length.0, output_length.1)) x b.2 in
    let d = bind_ok (number_at w64 end c.0.1) (λ output_length. Ok (a.0.0, b.0.0, c.0.0, output_length.0, output_length.1)) x c.2 in
    let t0 = field_takes w32 (2 ^ 32) wide32 (λ n. nat_le n 2047) 69 end bytes a.0 fits a.1 in
    let t1 = field_takes w64 (2 ^ 64) wide64 (λ n. nat_le 1 n) 73 end a.0.1 b.0 t0.0.rest_fits b.1 in
    let t2 = field_takes w64 (2 ^ 64) wide64 (λ n. nat_le n 16777216) 81 end b.0.1 c.0 t1.0.rest_fits c.1 in
    let t3 = number_takes w64 (2 ^ 64) wide64 end c.0.1 d.0 t2.0.rest_fits d.1 in
    let e23 = Takes-then b.0.1 (to_be_bytes w64 c.0.0) c.0.1 (to_be_bytes w64 d.0.0) d.0.1 t2.0 t3.0 in
    let e13 = Takes-then a.0.1 (to_be_bytes w64 b.0.0) b.0.1 (to_be_bytes w64 c.0.0 ++ to_be_bytes w64 d.0.0) d.0.1 t1.0 e23 in
    let e03 = Takes-then bytes (to_be_bytes w32 a.0.0) a.0.1 (to_be_bytes w64 b.0.0 ++ (to_be_bytes w64 c.0.0 ++ to_be_bytes w64 d.0.0)) d.0.1 t0.0 e13 in
    let node : a.0.0 ≤ 2047 = grind (arith, nat_tests, t0.2) in
    let steps : 1 ≤ b.0.0 = grind (arith, nat_tests, t1.2) in
    let input_place : c.0.0 ≤ 16777216 = grind (arith, nat_tests, t2.2) in
    let made : ℕ × ℕ × ℕ × ℕ × List ℕ = (a.0.0, b.0.0, c.0.0, d.0.0, d.0.1) in
    subst (λ (y : ℕ × ℕ × ℕ × ℕ × List ℕ). PlacesTaken bytes y) {x = made} (ok_is made x d.2) (record { takes = e03; node = node; steps = steps; steps_fit = t1.1; input_place = input_place; output_length = t3.1 })

pub record CountsTaken (bytes : List ℕ) (x : ℕ × Bool × ℕ × ℕ × List ℕ) : Type 0 where
  pub takes : Takes bytes (to_be_bytes w16 x.0 ++ ((cond x.1 1 0 ∷ []) ++ (to_be_bytes w32 x.2 ++ to_be_bytes w32 x.3))) x.4
  pub directive : x.0 ≤ 64
  pub left_out : x.1 ≡ true → 1 ≤ x.0
  pub number : 1 ≤ x.2
  pub number_fits : x.2 < 2 ^ 32
  pub count : x.3 ≤ 131072

-- a flag that was read is the byte that spells it
flag_byte : (n : ℕ) → n ≤ 1 → cond (n == 1) 1 0 ≡ n
flag_byte n le = grind (arith, nat_tests)

pub counts_taken : (end : ℕ) (bytes : List ℕ) (x : ℕ × Bool × ℕ × ℕ × List ℕ) → IsBytes bytes → counts_at end bytes ≡ Ok x → CountsTaken bytes x
unfolding counts_at
counts_taken end bytes x fits e =
    let a = bind_ok (field_at w16 (λ n. nat_le n 64) 97 end bytes) (λ directive. field_at w8 (λ n. nat_le n 1 && (nat_le 1 directive.0 || n == 0)) 99 end directive.1 >>= λ left_out. field_at w32 (λ n. nat_le 1 n) 100 end left_out.1 >>= λ number. field_at w32 (λ n. nat_le n 131072) 104 end number.1 >>= λ count. Ok (directive.0, left_out.0 == 1, number.0, count.0, count.1)) x e in
    let b = bind_ok (field_at w8 (λ n. nat_le n 1 && (nat_le 1 a.0.0 || n == 0)) 99 end a.0.1) (λ left_out. field_at w32 (λ n. nat_le 1 n) 100 end left_out.1 >>= λ number. field_at w32 (λ n. nat_le n 131072) 104 end number.1 >>= λ count. Ok (a.0.0, left_out.0 == 1, number.0, count.0, count.1)) x a.2 in
    let c = bind_ok (field_at w32 (λ n. nat_le 1 n) 100 end b.0.1) (λ number. field_at w32 (λ n. nat_le n 131072) 104 end number.1 >>= λ count. Ok (a.0.0, b.0.0 == 1, number.0, count.0, count.1)) x b.2 in
    let d = bind_ok (field_at w32 (λ n. nat_le n 131072) 104 end c.0.1) (λ count. Ok (a.0.0, b.0.0 == 1, c.0.0, count.0, count.1)) x c.2 in
    let t0 = field_takes w16 (2 ^ 16) wide16 (λ n. nat_le n 64) 97 end bytes a.0 fits a.1 in
    let t1 = field_takes w8 (2 ^ 8) wide8 (λ n. nat_le n 1 && (nat_le 1 a.0.0 || n == 0)) 99 end a.0.1 b.0 t0.0.rest_fits b.1 in
    let t2 = field_takes w32 (2 ^ 32) wide32 (λ n. nat_le 1 n) 100 end b.0.1 c.0 t1.0.rest_fits c.1 in
    let t3 = field_takes w32 (2 ^ 32) wide32 (λ n. nat_le n 131072) 104 end c.0.1 d.0 t2.0.rest_fits d.1 in
    let low : b.0.0 ≤ 1 = grind (arith, nat_tests, t1.2) in
    let byte : (b.0.0 % 256) ≡ cond (b.0.0 == 1) 1 0 = (let f = flag_byte b.0.0 low in omega arith) in
    let t1' : Takes a.0.1 (cond (b.0.0 == 1) 1 0 ∷ []) b.0.1 = subst (λ (n : ℕ). Takes a.0.1 (n ∷ []) b.0.1) byte t1.0 in
    let e23 = Takes-then b.0.1 (to_be_bytes w32 c.0.0) c.0.1 (to_be_bytes w32 d.0.0) d.0.1 t2.0 t3.0 in
    let e13 = Takes-then a.0.1 (cond (b.0.0 == 1) 1 0 ∷ []) b.0.1 (to_be_bytes w32 c.0.0 ++ to_be_bytes w32 d.0.0) d.0.1 t1' e23 in
    let e03 = Takes-then bytes (to_be_bytes w16 a.0.0) a.0.1 ((cond (b.0.0 == 1) 1 0 ∷ []) ++ (to_be_bytes w32 c.0.0 ++ to_be_bytes w32 d.0.0)) d.0.1 t0.0 e13 in
    let directive : a.0.0 ≤ 64 = grind (arith, nat_tests, t0.2) in
    let left_out : (b.0.0 == 1) ≡ true → 1 ≤ a.0.0 = λ one. (let f : b.0.0 ≡ 1 = eqb-true _ _ one in grind (arith, nat_tests, t1.2)) in
    let number : 1 ≤ c.0.0 = grind (arith, nat_tests, t2.2) in
    let count : d.0.0 ≤ 131072 = grind (arith, nat_tests, t3.2) in
    let made : ℕ × Bool × ℕ × ℕ × List ℕ = (a.0.0, b.0.0 == 1, c.0.0, d.0.0, d.0.1) in
    subst (λ (y : ℕ × Bool × ℕ × ℕ × List ℕ). CountsTaken bytes y) {x = made} (ok_is made x d.2) (record { takes = e03; directive = directive; left_out = left_out; number = number; number_fits = t2.1; count = count })

pub record HeadTaken (bytes : List ℕ) (x : Head × List ℕ) : Type 0 where
  pub takes : Takes bytes (head_bytes x.0.fields x.0.whole x.0.count) x.1
  pub fields : AreFields x.0.fields
  pub count : x.0.count ≤ 131072

pub head_taken : (bytes : List ℕ) (x : Head × List ℕ) → IsBytes bytes → head_at bytes ≡ Ok x → HeadTaken bytes x
unfolding head_at
head_taken bytes x fits e =
    let end = length bytes in
    let a = bind_ok (marks_at end bytes) (λ marks. places_at end marks.3 >>= λ places. counts_at end places.4 >>= λ counts. Ok (record { whole = marks.0; fields = record { marks = record { source = marks.1; input = marks.2 }; node = places.0; steps = places.1; input_place = places.2; output_length = places.3; directive = counts.0; left_out = counts.1; number = counts.2 }; count = counts.3 }, counts.4)) x e in
    let m = a.0 in
    let b = bind_ok (places_at end m.3) (λ places. counts_at end places.4 >>= λ counts. Ok (record { whole = m.0; fields = record { marks = record { source = m.1; input = m.2 }; node = places.0; steps = places.1; input_place = places.2; output_length = places.3; directive = counts.0; left_out = counts.1; number = counts.2 }; count = counts.3 }, counts.4)) x a.2 in
    let p = b.0 in
    let c = bind_ok (counts_at end p.4) (λ counts. Ok (record { whole = m.0; fields = record { marks = record { source = m.1; input = m.2 }; node = p.0; steps = p.1; input_place = p.2; output_length = p.3; directive = counts.0; left_out = counts.1; number = counts.2 }; count = counts.3 }, counts.4)) x b.2 in
    let n = c.0 in
    let t0 = marks_taken end bytes m fits a.1 in
    let t1 = places_taken end m.3 p t0.takes.rest_fits b.1 in
    let t2 = counts_taken end p.4 n t1.takes.rest_fits c.1 in
    let f : Fields = record { marks = record { source = m.1; input = m.2 }; node = p.0; steps = p.1; input_place = p.2; output_length = p.3; directive = n.0; left_out = n.1; number = n.2 } in
    let e12 = Takes-then m.3 (places_bytes f) p.4 (counts_bytes f n.3) n.4 t1.takes t2.takes in
    let e02 = Takes-then bytes (marks_bytes f.marks m.0) m.3 (places_bytes f ++ counts_bytes f n.3) n.4 t0.takes e12 in
    let made : Head × List ℕ = (record { whole = m.0; fields = f; count = n.3 }, n.4) in
    subst (λ (y : Head × List ℕ). HeadTaken bytes y) {x = made} (ok_is made x c.2)
    (record { takes = e02; fields = record { source = t0.source; input = t0.input; steps = t1.steps_fit; output_length = t1.output_length; number = t2.number_fits; ranges = record { node = t1.node; steps = t1.steps; input_place = t1.input_place; directive = t2.directive; left_out = t2.left_out; number = t2.number } }; count = t2.count })

digests : (source input : List ℕ) → length source ≡ 32 → length input ≡ 32 → length (source ++ input) ≡ 64
digests source input a b = omega (arith, length-append source input)

pub head_length : (f : Fields) (whole count : ℕ) → AreFields f → length (head_bytes f whole count) ≡ 108
head_length f whole count are =
    let two = digests f.marks.source f.marks.input are.source.0 are.input.0 in
    omega (arith, length-append (f.marks.source ++ f.marks.input) (to_be_bytes w32 f.node ++ (to_be_bytes w64 f.steps ++ (to_be_bytes w64 f.input_place ++ to_be_bytes w64 f.output_length)) ++ (to_be_bytes w16 f.directive ++ ((cond f.left_out 1 0 ∷ []) ++ (to_be_bytes w32 f.number ++ to_be_bytes w32 count)))))

pub record_taken : (bytes : List ℕ) (x : Front) → IsBytes bytes → record_at bytes ≡ Ok x → IsImage x.image × (bytes ≡ spelling x.image x.gate ++ x.rest) × (x.gate < 256)
unfolding record_at
record_taken bytes x fits e =
    let end = length bytes in
    let a = bind_ok (head_at bytes) (λ head. runs_at head.0.count end 0 head.1 >>= λ runs. number_at w8 end runs.1 >>= λ gate. cond (head.0.whole == end - length gate.1) (Ok (record { image = record { fields = head.0.fields; runs = runs.0 }; gate = gate.0; rest = gate.1 })) (Err 1)) x e in
    let h = a.0 in
    let b = bind_ok (runs_at h.0.count end 0 h.1) (λ runs. number_at w8 end runs.1 >>= λ gate. cond (h.0.whole == end - length gate.1) (Ok (record { image = record { fields = h.0.fields; runs = runs.0 }; gate = gate.0; rest = gate.1 })) (Err 1)) x a.2 in
    let r = b.0 in
    let c = bind_ok (number_at w8 end r.1) (λ gate. cond (h.0.whole == end - length gate.1) (Ok (record { image = record { fields = h.0.fields; runs = r.0 }; gate = gate.0; rest = gate.1 })) (Err 1)) x b.2 in
    let g = c.0 in
    let made : Front = record { image = record { fields = h.0.fields; runs = r.0 }; gate = g.0; rest = g.1 } in
    let d = rule_ok (h.0.whole == end - length g.1) 1 made x c.2 in
    let t0 = head_taken bytes h fits a.1 in
    let t1 = runs_take h.0.count end 0 h.1 r t0.takes.rest_fits b.1 in
    let t2 = number_takes w8 (2 ^ 8) wide8 end r.1 g t1.0.rest_fits c.1 in
    let byte : (g.0 % 256) ≡ g.0 = (let f = t2.1 in omega arith) in
    let t2' : Takes r.1 (g.0 ∷ []) g.1 = subst (λ (n : ℕ). Takes r.1 (n ∷ []) g.1) byte t2.0 in
    let e12 = Takes-then h.1 (flat_map run_bytes r.0) r.1 (g.0 ∷ []) g.1 t1.0 t2' in
    let e02 = Takes-then bytes (head_bytes h.0.fields h.0.whole h.0.count) h.1 (flat_map run_bytes r.0 ++ g.0 ∷ []) g.1 t0.takes e12 in
    let whole : h.0.whole ≡ length_with r.0 = eqb-true _ _ d.0 ∙ size h.0.fields h.0.whole h.0.count r.0 g.0 g.1 bytes t0.fields e02.parts in
    let parts : bytes ≡ spelling made.image g.0 ++ g.1 = e02.parts ∙ ap (λ (n : ℕ). head_bytes h.0.fields n h.0.count ++ (flat_map run_bytes r.0 ++ g.0 ∷ []) ++ g.1) whole ∙ ap (λ (n : ℕ). head_bytes h.0.fields (length_with r.0) n ++ (flat_map run_bytes r.0 ++ g.0 ∷ []) ++ g.1) (sym t1.1) ∙ ap (λ (l : List ℕ). l ++ g.1) (sym (append_assoc (head_bytes h.0.fields (length_with r.0) (length r.0)) (flat_map run_bytes r.0) (g.0 ∷ []))) in
    let few = t0.count in let n = t1.1 in
    let is : IsImage made.image = record { fields = t0.fields; runs = t1.2; count = omega arith } in
    subst (λ (y : Front). IsImage y.image × (bytes ≡ spelling y.image y.gate ++ y.rest) × (y.gate < 256)) {x = made} d.1 (is, parts, t2.1)
  where
    size : (f : Fields) (whole count : ℕ) (runs : List WordRun) (gate : ℕ) (rest bytes : List ℕ) → AreFields f → bytes ≡ (head_bytes f whole count ++ (flat_map run_bytes runs ++ gate ∷ [])) ++ rest → length bytes - length rest ≡ length_with runs
    size f whole count runs gate rest bytes are parts =
        let n = head_length f whole count are in
        let r = length_runs runs in
        let all = ap length parts ∙ length-append (head_bytes f whole count ++ (flat_map run_bytes runs ++ gate ∷ [])) rest in
        let text = length-append (head_bytes f whole count) (flat_map run_bytes runs ++ gate ∷ []) in
        let last = length-append (flat_map run_bytes runs) (gate ∷ []) in
        omega arith

-- ---- and what is spelled so is read

one_test : (a b : ℕ) → a ≤ b → nat_le a b ≡ true
one_test a b le = grind (arith, nat_tests)

two_tests : (a b c : ℕ) → a ≤ b → b ≤ c → (nat_le a b && nat_le b c) ≡ true
two_tests a b c low high = grind (arith, nat_tests)

marks_again : (end : ℕ) (m : Marks) (whole : ℕ) (rest : List ℕ) → IsDigest m.source → IsDigest m.input → 109 ≤ whole → whole ≤ 3145837 → marks_at end (marks_bytes m whole ++ rest) ≡ Ok (whole, m.source, m.input, rest)
unfolding marks_at
marks_again end m whole rest source input least most =
    let after = m.source ++ (m.input ++ rest) in
    let regrouped : marks_bytes m whole ++ rest ≡ to_be_bytes w8 73 ++ (to_be_bytes w32 whole ++ after) = ap (λ (l : List ℕ). 73 ∷ (to_be_bytes w32 whole ++ l)) (append_assoc m.source m.input rest) in
    ap (marks_at end) regrouped
    ∙ rw (
      field_again w8 (2 ^ 8) wide8 (λ n. n == 73) 0 end 73 (to_be_bytes w32 whole ++ after) (omega arith) refl,
      field_again w32 (2 ^ 32) wide32 (λ n. nat_le 109 n && nat_le n 3145837) 1 end whole after (omega arith) (two_tests 109 whole 3145837 least most),
      bytes_again 32 end m.source (m.input ++ rest) source.0,
      bytes_again 32 end m.input rest input.0,
    ) refl

places_again : (end : ℕ) (f : Fields) (rest : List ℕ) → AreFields f → places_at end (places_bytes f ++ rest) ≡ Ok (f.node, f.steps, f.input_place, f.output_length, rest)
unfolding places_at
places_again end f rest are =
    let r = are.ranges in
    let node = r.node in let steps = r.steps in let input_place = r.input_place in
    rw (
      field_again w32 (2 ^ 32) wide32 (λ n. nat_le n 2047) 69 end f.node (to_be_bytes w64 f.steps ++ (to_be_bytes w64 f.input_place ++ (to_be_bytes w64 f.output_length ++ rest))) (omega arith) (one_test f.node 2047 node),
      field_again w64 (2 ^ 64) wide64 (λ n. nat_le 1 n) 73 end f.steps (to_be_bytes w64 f.input_place ++ (to_be_bytes w64 f.output_length ++ rest)) are.steps (one_test 1 f.steps steps),
      field_again w64 (2 ^ 64) wide64 (λ n. nat_le n 16777216) 81 end f.input_place (to_be_bytes w64 f.output_length ++ rest) (omega arith) (one_test f.input_place 16777216 input_place),
      number_again w64 (2 ^ 64) wide64 f.output_length end rest are.output_length,
    ) refl

flag_test : (b : Bool) (d : ℕ) → (b ≡ true → 1 ≤ d) → (nat_le (cond b 1 0) 1 && (nat_le 1 d || cond b 1 0 == 0)) ≡ true
flag_test true d some = let more = some refl in grind (arith, nat_tests)
flag_test false d some = grind (arith, nat_tests)

flag_back : (b : Bool) → (cond b 1 0 == 1) ≡ b
flag_back true = refl
flag_back false = refl

flag_bytes : (b : Bool) → to_be_bytes w8 (cond b 1 0) ≡ cond b 1 0 ∷ []
flag_bytes true = refl
flag_bytes false = refl

flag_fits : (b : Bool) → cond b 1 0 < 2 ^ 8
flag_fits true = omega arith
flag_fits false = omega arith

counts_again : (end : ℕ) (f : Fields) (count : ℕ) (rest : List ℕ) → AreFields f → count ≤ 131072 → counts_at end (counts_bytes f count ++ rest) ≡ Ok (f.directive, f.left_out, f.number, count, rest)
unfolding counts_at
counts_again end f count rest are few =
    let r = are.ranges in
    let directive = r.directive in let number = r.number in
    let after = to_be_bytes w32 f.number ++ (to_be_bytes w32 count ++ rest) in
    let regrouped : counts_bytes f count ++ rest ≡ to_be_bytes w16 f.directive ++ (to_be_bytes w8 (cond f.left_out 1 0) ++ after) = ap (λ (l : List ℕ). to_be_bytes w16 f.directive ++ (l ++ after)) (sym (flag_bytes f.left_out)) in
    ap (counts_at end) regrouped
    ∙ rw (
      field_again w16 (2 ^ 16) wide16 (λ n. nat_le n 64) 97 end f.directive (to_be_bytes w8 (cond f.left_out 1 0) ++ after) (omega arith) (one_test f.directive 64 directive),
      field_again w8 (2 ^ 8) wide8 (λ n. nat_le n 1 && (nat_le 1 f.directive || n == 0)) 99 end (cond f.left_out 1 0) after (flag_fits f.left_out) (flag_test f.left_out f.directive r.left_out),
      field_again w32 (2 ^ 32) wide32 (λ n. nat_le 1 n) 100 end f.number (to_be_bytes w32 count ++ rest) are.number (one_test 1 f.number number),
      field_again w32 (2 ^ 32) wide32 (λ n. nat_le n 131072) 104 end count rest (omega arith) (one_test count 131072 few),
      flag_back f.left_out,
    ) refl

head_again : (f : Fields) (whole count : ℕ) (rest : List ℕ) → AreFields f → 109 ≤ whole → whole ≤ 3145837 → count ≤ 131072 → head_at (head_bytes f whole count ++ rest) ≡ Ok (record { whole = whole; fields = f; count = count }, rest)
unfolding head_at
head_again f whole count rest are least most few =
    let bytes = head_bytes f whole count ++ rest in
    let after = places_bytes f ++ (counts_bytes f count ++ rest) in
    let regrouped : bytes ≡ marks_bytes f.marks whole ++ after = append_assoc (marks_bytes f.marks whole) (places_bytes f ++ counts_bytes f count) rest ∙ ap (λ (l : List ℕ). marks_bytes f.marks whole ++ l) (append_assoc (places_bytes f) (counts_bytes f count) rest) in
    let a = ap (marks_at (length bytes)) regrouped ∙ marks_again (length bytes) f.marks whole after are.source are.input least most in
    rw (a, places_again (length bytes) f (counts_bytes f count ++ rest) are, counts_again (length bytes) f count rest are few) refl

runs_short : (least : ℕ) (runs : List WordRun) → least ≤ 262145 → AreRuns least runs → runs_length runs + 8 * least ≤ 2097160
runs_short least [] le are = omega arith
runs_short least (r ∷ runs) le are =
    let low = are.0.rises in let high = are.0.within in
    let more = runs_short (r.first + length r.words + 1) runs (omega arith) are.1 in
    omega arith

last_byte : (end gate : ℕ) (rest : List ℕ) → number_at w8 end (gate ∷ rest) ≡ Ok (gate, rest)
last_byte end gate rest =
    let long : nat_lt (length (gate ∷ rest)) 1 ≡ false = grind (arith, nat_tests) in
    ap (λ (b : Bool). cond b (Err end) (Ok (gate, rest))) long

pub record_again : (i : Image) (gate : ℕ) (rest : List ℕ) → IsImage i → record_at (spelling i gate ++ rest) ≡ Ok (record { image = i; gate = gate; rest = rest })
unfolding record_at
record_again i gate rest is =
    let bytes = spelling i gate ++ rest in
    let whole = length_with i.runs in
    let count = length i.runs in
    let short = runs_short 0 i.runs (omega arith) is.runs in
    let after = flat_map run_bytes i.runs ++ (gate ∷ rest) in
    let regrouped : bytes ≡ head_bytes i.fields whole count ++ after = append_assoc (text i) (gate ∷ []) rest ∙ append_assoc (head_bytes i.fields whole count) (flat_map run_bytes i.runs) (gate ∷ rest) in
    let head = ap head_at regrouped ∙ head_again i.fields whole count after is.fields (omega arith) (omega arith) is.count in
    let n = head_length i.fields whole count is.fields in
    let r = length_runs i.runs in
    let all = ap length regrouped ∙ length-append (head_bytes i.fields whole count) after in
    let most = length-append (flat_map run_bytes i.runs) (gate ∷ rest) in
    let size : (whole == length bytes - length rest) ≡ true = grind (arith, nat_tests) in
    rw (head, runs_again (length bytes) 0 i.runs (gate ∷ rest) is.runs, last_byte (length bytes) gate rest, size) refl

-- how long a record is
pub text_length : (i : Image) → IsImage i → length (text i) + 1 ≡ length_with i.runs
text_length i is =
    let n = head_length i.fields (length_with i.runs) (length i.runs) is.fields in
    let r = length_runs i.runs in
    let all = length-append (head_bytes i.fields (length_with i.runs) (length i.runs)) (flat_map run_bytes i.runs) in
    omega arith

pub image_short : (i : Image) → IsImage i → length_with i.runs ≤ 2097269
image_short i is = let short = runs_short 0 i.runs (omega arith) is.runs in omega arith

pub one_front : (a b : Image) (g h : ℕ) (x y : List ℕ) → IsImage a → IsImage b → spelling a g ++ x ≡ spelling b h ++ y → (a ≡ b) × (g ≡ h) × (x ≡ y)
one_front a b g h x y is-a is-b same =
    let first : Front = record { image = a; gate = g; rest = x } in
    let second : Front = record { image = b; gate = h; rest = y } in
    let e : first ≡ second = ok_is first second (sym (record_again a g x is-a) ∙ ap record_at same ∙ record_again b h y is-b) in
    (ap (λ (f : Front). f.image) e, ap (λ (f : Front). f.gate) e, ap (λ (f : Front). f.rest) e)
