use Rattle.std.proofs.Common.{◌≡◌, List, Some, ap, ◌∙◌}
use Rattle.c_tree.specs.declared.token.Token.{Token}
use Rattle.c_reader.specs.Reading.{got}
use Rattle.c_reader.proofs.Listings.{ends}
use Rattle.c_reader.proofs.ItemForms.{parameter_takes}
use Rattle.c_reader.proofs.functions.parameters.Goals as goal

got_same : {A : Type 0} (x y : A) (ts : List Token) → Some x ≡ Some y → Some (got x ts) ≡ Some (got y ts)
got_same x y ts e = let q : x ≡ y = cc in ap (λ z. Some (got z ts)) q

pub returns-in-None : goal.returns-in-None
returns-in-None c =
    record {
      answer =
          ends _ _ _ _ _ _ c.items.invariant parameter_takes (got c.in_ok-next.next c.in_ok-next.after.now) c.in_ok-next.ensures.answer c.in-None.ensures.answer
          ∙ got_same _ c.in_ok-parameters.parameters c.in_ok-next.after.now c.in_ok-parameters.ensures.answer;
    }
