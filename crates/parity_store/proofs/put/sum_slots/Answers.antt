use Rattle.std.specs.Prelude.{replicate}
use Rattle.std.proofs.Common.{rules, ◌≡◌, ◌∙◌, List, ℕ, ap, refl, sym, subst, arith, length, IsTrue}
use Rattle.disk_model.specs.Store.{file_of}
use Rattle.disk_model.proofs.Calls.{steady_twice}
use Rattle.disk_model.proofs.Keeping.{untouched_still, untouched_twice}
use Rattle.parity_store.specs.Slots.{exclusive_or}
use Rattle.parity_store.specs.Writing.{put_slot}
use Rattle.parity_store.proofs.XorLaws.{parity_none, parity_more}
use Rattle.parity_store.proofs.SlotLaws.{written_back}
use Rattle.parity_store.proofs.put.sum_slots.Goals as goal

pub loop-i-init : goal.loop-i-init
loop-i-init g c = record {
  within = omega arith;
  size = c.requires.size;
  kept = refl;
  looked = untouched_still _;
  steady = record { tells = refl; tells_past = refl; faults = omega arith };
  counts = refl;
  so_far = λ tells.
      let n : c.args.slots.now.parity.len ≡ length c.clear_slot.new.slot = search rules in
      let long : length c.as_mut_slice.result.now ≡ c.args.h.now.size = search rules in
      written_back c.clear_slot.new.slot c.args.slots.now.parity.items c.args.slots.now.parity.len n
      ∙ (c.clear_slot.ensures.answer ∙ ap (λ (m : ℕ). replicate m 0) long)
      ∙ sym (parity_none c.args.h.now.size (put_slot c.args.h.now (file_of c.args.file (g.D.Disk.view c.args.disk.now).seen) c.args.put.now.job c.args.put.now.bytes.now c.args.put.now.lost c.args.slots.now.rebuilt.items));
}

pub loop-i-preserved : goal.loop-i-preserved
loop-i-preserved g c = record {
  within = (let le = c.loop-i-test.true in omega (arith, le));
  size = c.add_fetched.ensures.size;
  kept = c.add_fetched.ensures.kept ∙ c.loop-i.invariant.kept;
  looked = untouched_twice _ _ _ c.loop-i.invariant.looked c.add_fetched.ensures.looked;
  steady = steady_twice _ _ _ c.loop-i.invariant.steady c.add_fetched.ensures.steady;
  counts = c.in_ok-add_fetched.ensures.counts ∙ c.loop-i.invariant.counts;
  so_far = λ tells.
      let looked = c.loop-i.invariant.looked in
      let mid = subst IsTrue (sym looked.tells) tells in
      let i = c.loop-i.i in
      let h = c.args.h.now in
      let slots = put_slot h (file_of c.args.file (g.D.Disk.view c.args.disk.now).seen) c.args.put.now.job c.args.put.now.bytes.now c.args.put.now.lost c.args.slots.now.rebuilt.items in
      c.in_ok-add_fetched.ensures.answer mid
      ∙ ap (λ (l : List ℕ). exclusive_or c.loop-i.slots.parity.items (put_slot h l c.args.put.now.job c.args.put.now.bytes.now c.args.put.now.lost c.loop-i.slots.rebuilt.items i)) (ap (file_of c.args.file) (looked.seen tells))
      ∙ ap (λ (r : _). exclusive_or c.loop-i.slots.parity.items (put_slot h (file_of c.args.file (g.D.Disk.view c.args.disk.now).seen) c.args.put.now.job c.args.put.now.bytes.now c.args.put.now.lost r.items i)) c.loop-i.invariant.kept
      ∙ ap (λ (l : List ℕ). exclusive_or l (slots i)) (c.loop-i.invariant.so_far tells)
      ∙ sym (parity_more h.size slots i);
}
