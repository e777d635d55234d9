use Rattle.std.proofs.Common.{◌<◌, sym, subst, ℕ, w64, arith}
use Rattle.std.proofs.lemmas.Int.{of_z-to_z}
use Rattle.ckpt_runner.proofs.giving.value_of.Goals as goal

pub returns : goal.returns
returns c =
    let small : c.args.byte < 256 = let fits = c.ranges.byte.fits in omega (arith, fits) in
    let back = of_z-to_z w64 c.args.byte (omega (arith, small)) in
    record { answer = back; small = subst (λ (n : ℕ). n < 256) (sym back) small }
