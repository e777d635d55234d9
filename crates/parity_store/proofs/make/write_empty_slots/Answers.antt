use Rattle.std.proofs.Common.{◌∙◌, refl, sym, subst, arith, IsTrue}
use Rattle.std.specs.Prelude.{replicate}
use Rattle.disk_model.proofs.Calls.{steady_twice}
use Rattle.parity_store.proofs.WritingLaws.{wrote_none, wrote_then, next_joined, none_joined}
use Rattle.parity_store.proofs.make.write_empty_slots.Goals as goal

pub loop-i-init : goal.loop-i-init
loop-i-init g c = record {
  within = omega arith;
  file = refl;
  place = (let begun = c.requires.begun in omega (arith, begun));
  steady = record { tells = refl; tells_past = refl; faults = omega arith };
  counts = refl;
  so_far = λ tells h text was. (none_joined c.args.pieces.now h (g.D.Disk.view c.args.disk.now) text (λ _. replicate c.args.size 0) was, wrote_none c.args.pieces.now.file h (g.D.Disk.view c.args.disk.now) tells (g.met.D.Disk.lawful c.args.disk.now tells) was.left);
}

pub push_zeros-requires-clause-writing : goal.push_zeros-requires-clause-writing
push_zeros-requires-clause-writing g c = λ mid.
    let tells = subst IsTrue c.loop-i.invariant.steady.tells mid in
    let s = c.requires.writing tells in
    (s.0, (_, (c.loop-i.invariant.so_far tells s.0 s.1.0 s.1.1).0))

pub returns-in_err-push_zeros-clause-wrote : goal.returns-in_err-push_zeros-clause-wrote
returns-in_err-push_zeros-clause-wrote g c = λ tells h text was.
    let mid = subst IsTrue (sym c.loop-i.invariant.steady.tells) tells in
    let so_far = c.loop-i.invariant.so_far tells h text was in
    wrote_then c.args.pieces.now.file _ h _ _ _ tells c.loop-i.invariant.file so_far.1 (c.push_zeros.ensures.wrote mid h _ so_far.0)

pub loop-i-preserved : goal.loop-i-preserved
loop-i-preserved g c = record {
  within = (let le = c.loop-i-test.true in omega (arith, le));
  file = c.push_zeros.ensures.file ∙ c.loop-i.invariant.file;
  place = (let p = c.in_ok-push_zeros.ensures.place in let q = c.loop-i.invariant.place in let most = c.requires.ranges.size_most in omega (arith, p, q, most));
  steady = steady_twice _ _ _ c.loop-i.invariant.steady c.push_zeros.ensures.steady;
  counts = c.in_ok-push_zeros.ensures.counts ∙ c.loop-i.invariant.counts;
  so_far = λ tells h text was.
      let mid = subst IsTrue (sym c.loop-i.invariant.steady.tells) tells in
      let so_far = c.loop-i.invariant.so_far tells h text was in (
        next_joined c.push_zeros.new.pieces h (g.D.Disk.view c.push_zeros.new.disk) text (λ _. replicate c.args.size 0) c.loop-i.i (replicate c.args.size 0) refl (c.in_ok-push_zeros.ensures.answer mid h _ so_far.0),
        wrote_then c.args.pieces.now.file _ h _ _ _ tells c.loop-i.invariant.file so_far.1 (c.push_zeros.ensures.wrote mid h _ so_far.0),
      );
}

pub returns-clause-wrote : goal.returns-clause-wrote
returns-clause-wrote g c = λ tells h text was. (c.loop-i.invariant.so_far tells h text was).1
