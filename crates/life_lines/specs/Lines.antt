-- The lines that tell of a life.
use Rattle.std.specs.Prelude.{ℕ, List, ◌++◌, codes}
use Rattle.std.specs.Fmt.{decimal, signed_decimal}
use Rattle.ckpt_base.specs.declared.ending.Ending.{Ending}
use Rattle.ckpt_base.specs.declared.ending.Ending.TheVariants.{Ended, Trapped, Going}

-- the image from which a life was resumed
abbrev pub resumed_line : (image step : ℕ) → List ℕ
resumed_line image step = codes "resumed image " ++ (decimal image ++ (codes " step " ++ (decimal step ++ codes "\n")))

-- how a run ended and how many steps it took
abbrev pub ending_line : Ending → ℕ → List ℕ
ending_line (Ended v) n = codes "end " ++ (signed_decimal v ++ (codes " steps " ++ (decimal n ++ codes "\n")))
ending_line (Trapped t) n = codes "trap " ++ (decimal t ++ (codes " steps " ++ (decimal n ++ codes "\n")))
ending_line Going n = codes "stopped steps " ++ (decimal n ++ codes "\n")

-- so many records were joined into one
abbrev pub joined_line : (records : ℕ) → List ℕ
joined_line records = codes "joined " ++ (decimal records ++ codes "\n")
