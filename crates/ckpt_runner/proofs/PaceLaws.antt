-- The sums of a pace.
use Rattle.std.proofs.Common.{◌≡◌, sym, ap, subst, ℕ, zero, suc, ◌+◌, ◌-◌, ◌<◌, ◌≤◌, List, arith}
use Rattle.ckpt_runner.specs.Pace.{pace_sum, InPace}

pub sum_more : (pace : List ℕ) (used a k : ℕ) → pace_sum pace used a ≤ pace_sum pace used (k + a)
sum_more pace used a zero = let e : a ≡ 0 + a = omega arith in subst (λ (n : ℕ). pace_sum pace used a ≤ pace_sum pace used n) e (omega arith)
sum_more pace used a (suc k) =
    let h = sum_more pace used a k in
    let n : suc k + a ≡ suc (k + a) = omega arith in
    let e : pace_sum pace used (suc k + a) ≡ pace_sum pace used (suc (k + a)) = ap (λ (n : ℕ). pace_sum pace used n) n in
    subst (λ (n : ℕ). pace_sum pace used a ≤ n) (sym e) (omega (arith, h))

-- a sum of more numbers is no less
pub sum_rises : (pace : List ℕ) (used a b : ℕ) → a ≤ b → pace_sum pace used a ≤ pace_sum pace used b
sum_rises pace used a b le = subst (λ (n : ℕ). pace_sum pace used a ≤ pace_sum pace used n) (let e : (b - a) + a ≡ b = omega arith in e) (sum_more pace used a (b - a))

-- the sum up to a call that is done has come
pub sum_come : (pace : List ℕ) (used total done since wait k : ℕ) → InPace pace used total done since wait → k ≤ done → pace_sum pace used k ≤ since
sum_come pace used total done since wait k i le = let s = i.so_far in let r = sum_rises pace used k done le in omega (arith, s, r)

-- the sum up to a call that is still to come has not
pub sum_to_come : (pace : List ℕ) (used total done since wait k : ℕ) → InPace pace used total done since wait → 0 < wait → done < k → k ≤ total → since < pace_sum pace used k
sum_to_come pace used total done since wait k i some less most =
    let c = i.countdown (omega (arith, less, most)) in
    let r = sum_rises pace used (suc done) k (omega (arith, less)) in
    omega (arith, c, r, some)
