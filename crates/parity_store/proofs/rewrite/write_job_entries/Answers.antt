use Rattle.std.proofs.Common.{◌∙◌, List, ℕ, ap, refl, sym, subst, arith, length, IsTrue}
use Rattle.disk_model.specs.Store.{file_of}
use Rattle.disk_model.proofs.Calls.{steady_twice}
use Rattle.parity_store.specs.Writing.{put_entry}
use Rattle.parity_store.proofs.WritingLaws.{wrote_none, wrote_then, wrote_looked, writing_looked, next_joined, none_joined, source_is}
use Rattle.parity_store.proofs.rewrite.write_job_entries.Goals as goal

pub loop-i-init : goal.loop-i-init
loop-i-init g c = record {
  within = omega arith;
  file = refl;
  place = (let begun = c.requires.begun in omega (arith, begun));
  steady = record { tells = refl; tells_past = refl; faults = omega arith };
  counts = refl;
  so_far = λ tells h text was. (none_joined c.args.pieces.now h (g.D.Disk.view c.args.disk.now) text (put_entry (file_of c.args.file (g.D.Disk.view c.args.disk.now).seen) c.args.job c.args.entry.now) was, wrote_none c.args.pieces.now.file h (g.D.Disk.view c.args.disk.now) tells (g.met.D.Disk.lawful c.args.disk.now tells) was.left);
}

pub next_entry-requires-clause-whole : goal.next_entry-requires-clause-whole
next_entry-requires-clause-whole g c = λ mid.
    let tells = subst IsTrue c.loop-i.invariant.steady.tells mid in
    let s = c.requires.writing tells in
    let so = c.loop-i.invariant.so_far tells s.0 s.1.0 s.1.1 in
    ap length (source_is c.args.file c.args.pieces.now.file (g.D.Disk.view c.args.disk.now) (g.D.Disk.view c.loop-i.disk) c.requires.apart so.1.others) ∙ c.requires.whole tells

pub push-requires-clause-writing : goal.push-requires-clause-writing
push-requires-clause-writing g c = λ late.
    let mid = subst IsTrue c.next_entry.ensures.looked.tells late in
    let tells = subst IsTrue c.loop-i.invariant.steady.tells mid in
    let s = c.requires.writing tells in
    let so = c.loop-i.invariant.so_far tells s.0 s.1.0 s.1.1 in
    (s.0, (_, writing_looked c.loop-i.pieces s.0 (g.D.Disk.view c.loop-i.disk) (g.D.Disk.view c.next_entry.new.disk) _ mid so.0 c.next_entry.ensures.looked))

pub returns-in_err-next-clause-wrote : goal.returns-in_err-next-clause-wrote
returns-in_err-next-clause-wrote g c = λ tells h text was.
    let mid = subst IsTrue (sym c.loop-i.invariant.steady.tells) tells in
    let so = c.loop-i.invariant.so_far tells h text was in
    wrote_looked c.args.pieces.now.file h (g.D.Disk.view c.args.disk.now) (g.D.Disk.view c.loop-i.disk) (g.D.Disk.view c.next_entry.new.disk) mid so.1 c.next_entry.ensures.looked

pub returns-in_err-push-clause-wrote : goal.returns-in_err-push-clause-wrote
returns-in_err-push-clause-wrote g c = λ tells h text was.
    let mid = subst IsTrue (sym c.loop-i.invariant.steady.tells) tells in
    let so = c.loop-i.invariant.so_far tells h text was in
    let late = subst IsTrue (sym c.next_entry.ensures.looked.tells) mid in
    let ready = writing_looked c.loop-i.pieces h (g.D.Disk.view c.loop-i.disk) (g.D.Disk.view c.next_entry.new.disk) _ mid so.0 c.next_entry.ensures.looked in
    wrote_then c.args.pieces.now.file _ h (g.D.Disk.view c.args.disk.now) (g.D.Disk.view c.next_entry.new.disk) (g.D.Disk.view c.push.new.disk) tells c.loop-i.invariant.file (wrote_looked c.args.pieces.now.file h (g.D.Disk.view c.args.disk.now) (g.D.Disk.view c.loop-i.disk) (g.D.Disk.view c.next_entry.new.disk) mid so.1 c.next_entry.ensures.looked) (c.push.ensures.wrote late h _ ready)

pub loop-i-preserved : goal.loop-i-preserved
loop-i-preserved g c = record {
  within = (let le = c.loop-i-test.true in omega (arith, le));
  file = c.push.ensures.file ∙ c.loop-i.invariant.file;
  place = (let p = c.in_ok-push.ensures.place in let q = c.loop-i.invariant.place in omega (arith, p, q));
  steady = steady_twice _ _ _ c.loop-i.invariant.steady (steady_twice _ _ _ c.next_entry.ensures.steady c.push.ensures.steady);
  counts = c.in_ok-push.ensures.counts ∙ (c.in_ok-next.ensures.counts ∙ c.loop-i.invariant.counts);
  so_far = λ tells h text was.
      let mid = subst IsTrue (sym c.loop-i.invariant.steady.tells) tells in
      let so = c.loop-i.invariant.so_far tells h text was in
      let late = subst IsTrue (sym c.next_entry.ensures.looked.tells) mid in
      let ready = writing_looked c.loop-i.pieces h (g.D.Disk.view c.loop-i.disk) (g.D.Disk.view c.next_entry.new.disk) _ mid so.0 c.next_entry.ensures.looked in
      let part_is = (c.in_ok-next.ensures.answer mid ∙ ap (λ (l : List ℕ). put_entry l c.args.job c.args.entry.now c.loop-i.i) (source_is c.args.file c.args.pieces.now.file (g.D.Disk.view c.args.disk.now) (g.D.Disk.view c.loop-i.disk) c.requires.apart so.1.others)) in (
        next_joined c.push.new.self h (g.D.Disk.view c.push.new.disk) text (put_entry (file_of c.args.file (g.D.Disk.view c.args.disk.now).seen) c.args.job c.args.entry.now) c.loop-i.i (c.in_ok-next.next) part_is (c.in_ok-push.ensures.answer late h _ ready),
        wrote_then c.args.pieces.now.file _ h (g.D.Disk.view c.args.disk.now) (g.D.Disk.view c.next_entry.new.disk) (g.D.Disk.view c.push.new.disk) tells c.loop-i.invariant.file (wrote_looked c.args.pieces.now.file h (g.D.Disk.view c.args.disk.now) (g.D.Disk.view c.loop-i.disk) (g.D.Disk.view c.next_entry.new.disk) mid so.1 c.next_entry.ensures.looked) (c.push.ensures.wrote late h _ ready),
      );
}

pub returns-clause-wrote : goal.returns-clause-wrote
returns-clause-wrote g c = λ tells h text was. (c.loop-i.invariant.so_far tells h text was).1
