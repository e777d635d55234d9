use Rattle.std.proofs.Common.{◌∙◌, refl, sym, subst, arith, IsTrue}
use Rattle.std.proofs.lemmas.List.{append-nil}
use Rattle.disk_model.proofs.Calls.{steady_twice}
use Rattle.parity_store.specs.Writing.{IsWriting}
use Rattle.parity_store.proofs.WritingLaws.{wrote_none, wrote_then, pushed_more}
use Rattle.parity_store.proofs.piece.Pieces.push.Goals as goal

pub loop-done-init : goal.loop-done-init
loop-done-init g c = record {
  within = omega arith;
  file = refl;
  place = omega arith;
  steady = record { tells = refl; tells_past = refl; faults = omega arith };
  counts = refl;
  so_far = λ tells h text was. (subst (IsWriting c.args.self.now h (g.D.Disk.view c.args.disk.now)) (sym (append-nil text)) was, wrote_none c.args.self.now.file h (g.D.Disk.view c.args.disk.now) tells (g.met.D.Disk.lawful c.args.disk.now tells) was.left);
}

pub push_some-requires-clause-writing : goal.push_some-requires-clause-writing
push_some-requires-clause-writing g c = λ mid.
    let tells = subst IsTrue c.loop-done.invariant.steady.tells mid in
    let s = c.requires.writing tells in
    (s.0, (_, (c.loop-done.invariant.so_far tells s.0 s.1.0 s.1.1).0))

pub returns-in_err-n-clause-wrote : goal.returns-in_err-n-clause-wrote
returns-in_err-n-clause-wrote g c = λ tells h text was.
    let mid = subst IsTrue (sym c.loop-done.invariant.steady.tells) tells in
    let so_far = c.loop-done.invariant.so_far tells h text was in
    wrote_then c.args.self.now.file _ h _ _ _ tells c.loop-done.invariant.file so_far.1 (c.push_some.ensures.wrote mid h _ so_far.0)

pub loop-done-preserved : goal.loop-done-preserved
loop-done-preserved g c = record {
  within = (let n = c.in_ok-n.ensures.count in let le = c.loop-done.invariant.within in omega (arith, n.1, le));
  file = c.push_some.ensures.file ∙ c.loop-done.invariant.file;
  place = (let p = c.in_ok-n.ensures.place in let q = c.loop-done.invariant.place in omega (arith, p, q));
  steady = steady_twice _ _ _ c.loop-done.invariant.steady c.push_some.ensures.steady;
  counts = c.in_ok-n.ensures.counts ∙ c.loop-done.invariant.counts;
  so_far = λ tells h text was.
      let mid = subst IsTrue (sym c.loop-done.invariant.steady.tells) tells in
      let so_far = c.loop-done.invariant.so_far tells h text was in
      let n = c.in_ok-n.ensures.count in
      let le = c.loop-done.invariant.within in (
        subst (IsWriting c.push_some.new.self h (g.D.Disk.view c.push_some.new.disk)) (pushed_more text c.args.bytes.now c.loop-done.done c.in_ok-n.n le (omega (arith, n.1, le))) (c.in_ok-n.ensures.answer mid h _ so_far.0),
        wrote_then c.args.self.now.file _ h _ _ _ tells c.loop-done.invariant.file so_far.1 (c.push_some.ensures.wrote mid h _ so_far.0),
      );
}

pub returns-clause-wrote : goal.returns-clause-wrote
returns-clause-wrote g c = λ tells h text was. (c.loop-done.invariant.so_far tells h text was).1
