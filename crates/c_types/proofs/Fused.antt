-- What is made of parts that are made.
use Rattle.std.proofs.Common.{◌≡◌, refl, List, [], ◌∷◌, map, ap}

pub fused : {X Y Z : Type 0} (f : Y → Z) (g : X → Y) (xs : List X) → map f (map g xs) ≡ map (λ x. f (g x)) xs
fused f g [] = refl
fused f g (x ∷ xs) = ap (λ ps. f (g x) ∷ ps) (fused f g xs)
