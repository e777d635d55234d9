use Rattle.std.proofs.Common.{◌∙◌, ◌++◌, List, ℕ, ap, refl, sym, subst, arith, IsTrue}
use Rattle.std.specs.Prelude.{replicate, length}
use Rattle.std.specs.Int.{w32, to_be_bytes}
use Rattle.parity_store.proofs.PutLaws.{entry_size}
use Rattle.disk_model.proofs.Calls.{steady_twice}
use Rattle.parity_store.specs.Writing.{entry_bytes}
use Rattle.parity_store.proofs.WritingLaws.{wrote_none, wrote_then, next_joined, none_joined}
use Rattle.parity_store.proofs.make.write_empty_entries.Goals as goal

pub loop-i-init : goal.loop-i-init
loop-i-init g c = record {
  within = omega arith;
  file = refl;
  place = (let begun = c.requires.begun in omega (arith, begun));
  steady = record { tells = refl; tells_past = refl; faults = omega arith };
  counts = refl;
  so_far = λ tells h text was. (none_joined c.args.pieces.now h (g.D.Disk.view c.args.disk.now) text (λ _. entry_bytes 0 (replicate c.args.size 0)) was, wrote_none c.args.pieces.now.file h (g.D.Disk.view c.args.disk.now) tells (g.met.D.Disk.lawful c.args.disk.now tells) was.left);
}

pub push-requires-clause-writing : goal.push-requires-clause-writing
push-requires-clause-writing g c = λ mid.
    let tells = subst IsTrue c.loop-i.invariant.steady.tells mid in
    let s = c.requires.writing tells in
    (s.0, (_, (c.loop-i.invariant.so_far tells s.0 s.1.0 s.1.1).0))

pub returns-in_err-push-clause-wrote : goal.returns-in_err-push-clause-wrote
returns-in_err-push-clause-wrote g c = λ tells h text was.
    let mid = subst IsTrue (sym c.loop-i.invariant.steady.tells) tells in
    let so_far = c.loop-i.invariant.so_far tells h text was in
    wrote_then c.args.pieces.now.file _ h _ _ _ tells c.loop-i.invariant.file so_far.1 (c.push.ensures.wrote mid h _ so_far.0)

pub loop-i-preserved : goal.loop-i-preserved
loop-i-preserved g c = record {
  within = (let le = c.loop-i-test.true in omega (arith, le));
  file = c.push.ensures.file ∙ c.loop-i.invariant.file;
  place = (let p = c.in_ok-push.ensures.place in let q = c.loop-i.invariant.place in let size = entry_size 0 (replicate c.args.size 0) in let same = ap length (c.entry_with-entry.ensures.answer ∙ ap (λ (l : List ℕ). to_be_bytes w32 0 ++ l) c.zero_digest-digest.ensures.answer) in omega (arith, p, q, size, same));
  steady = steady_twice _ _ _ c.loop-i.invariant.steady c.push.ensures.steady;
  counts = c.in_ok-push.ensures.counts ∙ c.loop-i.invariant.counts;
  so_far = λ tells h text was.
      let mid = subst IsTrue (sym c.loop-i.invariant.steady.tells) tells in
      let so_far = c.loop-i.invariant.so_far tells h text was in (
        next_joined c.push.new.self h (g.D.Disk.view c.push.new.disk) text (λ _. entry_bytes 0 (replicate c.args.size 0)) c.loop-i.i c.entry_with-entry.result (c.entry_with-entry.ensures.answer ∙ ap (λ (l : List ℕ). to_be_bytes w32 0 ++ l) c.zero_digest-digest.ensures.answer) (c.in_ok-push.ensures.answer mid h _ so_far.0),
        wrote_then c.args.pieces.now.file _ h _ _ _ tells c.loop-i.invariant.file so_far.1 (c.push.ensures.wrote mid h _ so_far.0),
      );
}

pub push-requires-2-clause-writing : goal.push-requires-2-clause-writing
push-requires-2-clause-writing g c = λ mid.
    let tells = subst IsTrue c.loop-i.invariant.steady.tells mid in
    let s = c.requires.writing tells in
    (s.0, (_, (c.loop-i.invariant.so_far tells s.0 s.1.0 s.1.1).0))

pub returns-in_err-push-2-clause-wrote : goal.returns-in_err-push-2-clause-wrote
returns-in_err-push-2-clause-wrote g c = λ tells h text was.
    let mid = subst IsTrue (sym c.loop-i.invariant.steady.tells) tells in
    let so_far = c.loop-i.invariant.so_far tells h text was in
    wrote_then c.args.pieces.now.file _ h _ _ _ tells c.loop-i.invariant.file so_far.1 (c.push-2.ensures.wrote mid h _ so_far.0)

pub returns-clause-wrote : goal.returns-clause-wrote
returns-clause-wrote g c = λ tells h text was.
    let mid = subst IsTrue (sym c.loop-i.invariant.steady.tells) tells in
    let so_far = c.loop-i.invariant.so_far tells h text was in
    wrote_then c.args.pieces.now.file _ h _ _ _ tells c.loop-i.invariant.file so_far.1 (c.push-2.ensures.wrote mid h _ so_far.0)
