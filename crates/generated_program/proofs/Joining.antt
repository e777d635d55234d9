-- Lists appended one after another.
use Rattle.std.proofs.Common.{◌≡◌, ◌∙◌, ℕ, List, ◌++◌, append_assoc}

pub all_behind : (l a b c d e : List ℕ) → ((((l ++ a) ++ b) ++ c) ++ d) ++ e ≡ l ++ (a ++ (b ++ (c ++ (d ++ e))))
all_behind l a b c d e = append_assoc (((l ++ a) ++ b) ++ c) d e ∙ append_assoc ((l ++ a) ++ b) c (d ++ e) ∙ append_assoc (l ++ a) b (c ++ (d ++ e)) ∙ append_assoc l a (b ++ (c ++ (d ++ e)))
