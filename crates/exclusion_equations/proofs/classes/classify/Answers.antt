use Rattle.std.proofs.Common.{ℕ, ◌<◌, ◌+◌, List, length, ap, sym, subst, arith}
use Rattle.exclusion_equations.specs.declared.signature.Signature.{Signature}
use Rattle.exclusion_equations.specs.Finding.{AreFound, AreSame, signature_at}
use Rattle.exclusion_equations.proofs.ClassLaws.{found_same, found_grown, signature_same}
use Rattle.exclusion_equations.proofs.classes.classify.Goals as goal

pub returns-in_ok-push-in-Some : goal.returns-in_ok-push-in-Some
returns-in_ok-push-in-Some c =
    let g = c.args.graph.now in
    let sigs = c.args.signatures.now.items in
    let k = c.in-Some.k in
    let h = c.requires.found in
    let f = c.in-Some.ensures.found in
    let same = subst (λ (x : List Signature). AreSame (signature_at x k) c.in_ok-wanted.wanted) c.deref.ensures.value f.1 in
    record {
      found = subst (λ (ns : List ℕ). AreFound g (c.args.c + 1) ns c.args.firsts.now.items sigs) (sym c.in_ok-push-in-Some.ensures.answer)
          (found_same g c.args.c c.args.numbers.now.items c.args.firsts.now.items sigs k h (omega (arith, f.0, ap (λ (x : List Signature). length x) c.deref.ensures.value, h.signatures_len))
          (signature_same g c.args.c (signature_at sigs k) c.in_ok-wanted.wanted same c.in_ok-wanted.ensures.answer));
    }

pub returns-in_ok-push_signature-in-None : goal.returns-in_ok-push_signature-in-None
returns-in_ok-push_signature-in-None c =
    let g = c.args.graph.now in
    let none = subst (λ (x : List Signature). (k : ℕ) → k < length x → AreSame (signature_at x k) c.in_ok-wanted.wanted → ⊥) c.deref.ensures.value c.in-None.ensures.none in
    record {
      found = found_grown g c.args.c c.args.numbers.now.items c.args.firsts.now.items c.args.signatures.now.items c.in_ok-wanted.wanted c.len.result c.push-in-None.new.list.items c.push-in-None-2.new.list.items c.push_signature.new.list.items
          (omega (arith, c.len.ensures, c.args.firsts.now.ok.0)) c.in_ok-push-in-None.ensures.answer c.in_ok-push-in-None-2.ensures.answer c.in_ok-push_signature-in-None.ensures.answer
          c.requires.found c.in_ok-wanted.ensures.wide c.in_ok-wanted.ensures.answer none;
    }
