use Rattle.std.proofs.Common.{◌≡◌, ◌+◌, sym, ◌∙◌, ap, rules, arith}
use Rattle.c_types.specs.File as spec
use Rattle.c_types.proofs.Stands.{stands_push, formed_push}
use Rattle.c_types.proofs.file.FileNames.push_object.Goals as goal

pub invariant_of-self-2 : goal.invariant_of-self-2
invariant_of-self-2 c =
    let place : c.args.object.cell ≡ spec.cell_number c.self.inside.cells = c.requires.place ∙ ap (λ f. spec.cell_number f.cells) (sym c.self.view_is) in
    let end : c.in-Some.cells ≡ c.self.inside.cells + c.args.object.length = grind (arith, c.in-Some.ensures) in record {
      stand = rw c.in_ok-push.ensures.ok (stands_push c.self.inside.objects 0 c.self.inside.cells c.in-Some.cells c.args.object c.self.invariant.stand place end);
      formed = rw c.in_ok-push.ensures.ok (formed_push c.self.inside.objects c.args.object c.self.invariant.formed c.requires.sized c.requires.first);
    }
