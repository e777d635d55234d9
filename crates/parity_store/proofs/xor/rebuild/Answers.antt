use Rattle.std.proofs.Common.{rules, ◌≡◌, ◌∙◌, List, ℕ, ap, refl, sym, subst, arith, IsTrue}
use Rattle.std.specs.Prelude.{replicate}
use Rattle.disk_model.specs.Store.{Store, file_of}
use Rattle.disk_model.proofs.Calls.{steady_twice}
use Rattle.disk_model.proofs.Keeping.{untouched_still, untouched_twice}
use Rattle.parity_store.specs.Layout.{slot_in}
use Rattle.parity_store.specs.Writing.{sum_but}
use Rattle.parity_store.proofs.XorLaws.{but_none, but_more}
use Rattle.parity_store.proofs.xor.rebuild.Goals as goal

pub loop-i-init : goal.loop-i-init
loop-i-init g c = record {
  within = omega arith;
  sizes = (search rules, c.requires.slot);
  looked = untouched_still _;
  steady = record { tells = refl; tells_past = refl; faults = omega arith };
  counts = refl;
  so_far = λ tells. c.clear_slot.ensures.answer ∙ ap (λ (n : ℕ). replicate n 0) c.requires.sum ∙ sym (but_none c.args.k c.args.h.now.size (slot_in c.args.h.now (file_of c.args.file (g.D.Disk.view c.args.disk.now).seen)));
}

pub loop-i-preserved : goal.loop-i-preserved
loop-i-preserved g c = record {
  within = (let le = c.loop-i-test.true in omega (arith, le));
  sizes = c.add_other.ensures.sizes;
  looked = untouched_twice _ _ _ c.loop-i.invariant.looked c.add_other.ensures.looked;
  steady = steady_twice _ _ _ c.loop-i.invariant.steady c.add_other.ensures.steady;
  counts = c.in_ok-add_other.ensures.counts ∙ c.loop-i.invariant.counts;
  so_far = λ tells.
      let looked = c.loop-i.invariant.looked in
      let mid = subst IsTrue (sym looked.tells) tells in
      let i = c.loop-i.i in
      let h = c.args.h.now in
      let slots = slot_in h (file_of c.args.file (g.D.Disk.view c.args.disk.now).seen) in
      subst (λ (s : Store). c.add_other.new.sum ≡ sum_but c.args.k i c.loop-i.sum (slot_in h (file_of c.args.file s) i)) (looked.seen tells) (c.in_ok-add_other.ensures.answer mid)
      ∙ ap (λ (l : List ℕ). sum_but c.args.k i l (slots i)) (c.loop-i.invariant.so_far tells)
      ∙ sym (but_more c.args.k h.size slots i);
}
