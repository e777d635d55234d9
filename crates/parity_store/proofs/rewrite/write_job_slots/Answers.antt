use Rattle.std.proofs.Common.{rules, ◌≡◌, ◌∙◌, List, ℕ, ap, refl, sym, subst, arith, length, IsTrue}
use Rattle.disk_model.specs.Store.{file_of}
use Rattle.disk_model.proofs.Calls.{steady_twice}
use Rattle.parity_store.specs.Writing.{put_slot}
use Rattle.parity_store.proofs.WritingLaws.{wrote_none, wrote_then, wrote_looked, writing_looked, next_joined, none_joined, source_is}
use Rattle.parity_store.proofs.rewrite.write_job_slots.Goals as goal

pub loop-i-init : goal.loop-i-init
loop-i-init g c = record {
  within = omega arith;
  file = refl;
  place = (let begun = c.requires.begun in omega (arith, begun));
  size = c.requires.size;
  kept = (refl, refl);
  steady = record { tells = refl; tells_past = refl; faults = omega arith };
  counts = refl;
  so_far = λ tells h text was. (none_joined c.args.pieces.now h (g.D.Disk.view c.args.disk.now) text (put_slot c.args.h.now (file_of c.args.file (g.D.Disk.view c.args.disk.now).seen) c.args.put.now.job c.args.put.now.bytes.now c.args.put.now.lost c.args.slots.now.rebuilt.items) was, wrote_none c.args.pieces.now.file h (g.D.Disk.view c.args.disk.now) tells (g.met.D.Disk.lawful c.args.disk.now tells) was.left);
}

pub fetch-requires-clause-whole : goal.fetch-requires-clause-whole
fetch-requires-clause-whole g c = λ mid.
    let tells = subst IsTrue c.loop-i.invariant.steady.tells mid in
    let s = c.requires.writing tells in
    let so = c.loop-i.invariant.so_far tells s.0 s.1.0 s.1.1 in
    ap length (source_is c.args.file c.args.pieces.now.file (g.D.Disk.view c.args.disk.now) (g.D.Disk.view c.loop-i.disk) c.requires.apart so.1.others) ∙ c.requires.whole tells

pub push-requires-clause-writing : goal.push-requires-clause-writing
push-requires-clause-writing g c = λ late.
    let mid = subst IsTrue c.fetch.ensures.looked.tells late in
    let tells = subst IsTrue c.loop-i.invariant.steady.tells mid in
    let s = c.requires.writing tells in
    let so = c.loop-i.invariant.so_far tells s.0 s.1.0 s.1.1 in
    (s.0, (_, writing_looked c.loop-i.pieces s.0 (g.D.Disk.view c.loop-i.disk) (g.D.Disk.view c.fetch.new.disk) _ mid so.0 c.fetch.ensures.looked))

pub returns-in_err-fetch-clause-wrote : goal.returns-in_err-fetch-clause-wrote
returns-in_err-fetch-clause-wrote g c = λ tells h text was.
    let mid = subst IsTrue (sym c.loop-i.invariant.steady.tells) tells in
    let so = c.loop-i.invariant.so_far tells h text was in
    wrote_looked c.args.pieces.now.file h (g.D.Disk.view c.args.disk.now) (g.D.Disk.view c.loop-i.disk) (g.D.Disk.view c.fetch.new.disk) mid so.1 c.fetch.ensures.looked

pub returns-in_err-push-clause-wrote : goal.returns-in_err-push-clause-wrote
returns-in_err-push-clause-wrote g c = λ tells h text was.
    let mid = subst IsTrue (sym c.loop-i.invariant.steady.tells) tells in
    let so = c.loop-i.invariant.so_far tells h text was in
    let late = subst IsTrue (sym c.fetch.ensures.looked.tells) mid in
    let ready = writing_looked c.loop-i.pieces h (g.D.Disk.view c.loop-i.disk) (g.D.Disk.view c.fetch.new.disk) _ mid so.0 c.fetch.ensures.looked in
    wrote_then c.args.pieces.now.file _ h (g.D.Disk.view c.args.disk.now) (g.D.Disk.view c.fetch.new.disk) (g.D.Disk.view c.push.new.disk) tells c.loop-i.invariant.file (wrote_looked c.args.pieces.now.file h (g.D.Disk.view c.args.disk.now) (g.D.Disk.view c.loop-i.disk) (g.D.Disk.view c.fetch.new.disk) mid so.1 c.fetch.ensures.looked) (c.push.ensures.wrote late h _ ready)

pub loop-i-preserved : goal.loop-i-preserved
loop-i-preserved g c = record {
  within = (let le = c.loop-i-test.true in omega (arith, le));
  file = c.push.ensures.file ∙ c.loop-i.invariant.file;
  place = (let p = c.in_ok-push.ensures.place in let q = c.loop-i.invariant.place in let size = c.fetch.ensures.size in let most = c.requires.held.ranges.size_most in let same : c.deref.result.now ≡ c.fetch.new.slots.read.items = search rules in let long = ap length same in omega (arith, p, q, size, most, long));
  size = c.fetch.ensures.size;
  kept = (c.fetch.ensures.kept.0 ∙ c.loop-i.invariant.kept.0, c.fetch.ensures.kept.1 ∙ c.loop-i.invariant.kept.1);
  steady = steady_twice _ _ _ c.loop-i.invariant.steady (steady_twice _ _ _ c.fetch.ensures.steady c.push.ensures.steady);
  counts = c.in_ok-push.ensures.counts ∙ (c.in_ok-fetch.ensures.counts ∙ c.loop-i.invariant.counts);
  so_far = λ tells h text was.
      let mid = subst IsTrue (sym c.loop-i.invariant.steady.tells) tells in
      let so = c.loop-i.invariant.so_far tells h text was in
      let late = subst IsTrue (sym c.fetch.ensures.looked.tells) mid in
      let ready = writing_looked c.loop-i.pieces h (g.D.Disk.view c.loop-i.disk) (g.D.Disk.view c.fetch.new.disk) _ mid so.0 c.fetch.ensures.looked in
      let part_is = ((let same : c.deref.result.now ≡ c.fetch.new.slots.read.items = search rules in same) ∙ c.in_ok-fetch.ensures.answer mid ∙ ap (λ (l : List ℕ). put_slot c.args.h.now l c.args.put.now.job c.args.put.now.bytes.now c.args.put.now.lost c.loop-i.slots.rebuilt.items c.loop-i.i) (source_is c.args.file c.args.pieces.now.file (g.D.Disk.view c.args.disk.now) (g.D.Disk.view c.loop-i.disk) c.requires.apart so.1.others) ∙ ap (λ (r : _). put_slot c.args.h.now (file_of c.args.file (g.D.Disk.view c.args.disk.now).seen) c.args.put.now.job c.args.put.now.bytes.now c.args.put.now.lost r.items c.loop-i.i) c.loop-i.invariant.kept.0) in (
        next_joined c.push.new.self h (g.D.Disk.view c.push.new.disk) text (put_slot c.args.h.now (file_of c.args.file (g.D.Disk.view c.args.disk.now).seen) c.args.put.now.job c.args.put.now.bytes.now c.args.put.now.lost c.args.slots.now.rebuilt.items) c.loop-i.i (c.deref.result.now) part_is (c.in_ok-push.ensures.answer late h _ ready),
        wrote_then c.args.pieces.now.file _ h (g.D.Disk.view c.args.disk.now) (g.D.Disk.view c.fetch.new.disk) (g.D.Disk.view c.push.new.disk) tells c.loop-i.invariant.file (wrote_looked c.args.pieces.now.file h (g.D.Disk.view c.args.disk.now) (g.D.Disk.view c.loop-i.disk) (g.D.Disk.view c.fetch.new.disk) mid so.1 c.fetch.ensures.looked) (c.push.ensures.wrote late h _ ready),
      );
}

pub returns-clause-wrote : goal.returns-clause-wrote
returns-clause-wrote g c = λ tells h text was. (c.loop-i.invariant.so_far tells h text was).1
