use Rattle.std.proofs.Common.{◌∙◌, ◌++◌, List, ℕ, ap, refl, sym, subst, arith, take, IsTrue, append_assoc, length-take}
use Rattle.std.specs.Prelude.{replicate}
use Rattle.std.proofs.lemmas.List.{append-nil, length-replicate}
use Rattle.disk_model.proofs.Calls.{steady_twice}
use Rattle.parity_store.specs.Writing.{IsWriting}
use Rattle.parity_store.proofs.WritingLaws.{wrote_none, wrote_then}
use Rattle.parity_store.proofs.EmptyLaws.{more_zeros}
use Rattle.parity_store.proofs.make.push_zeros.Goals as goal

pub loop-done-init : goal.loop-done-init
loop-done-init g c = record {
  within = omega arith;
  file = refl;
  place = omega arith;
  steady = record { tells = refl; tells_past = refl; faults = omega arith };
  counts = refl;
  so_far = λ tells h text was. (subst (IsWriting c.args.pieces.now h (g.D.Disk.view c.args.disk.now)) (sym (append-nil text)) was, wrote_none c.args.pieces.now.file h (g.D.Disk.view c.args.disk.now) tells (g.met.D.Disk.lawful c.args.disk.now tells) was.left);
}

pub push-requires-clause-writing : goal.push-requires-clause-writing
push-requires-clause-writing g c = λ mid.
    let tells = subst IsTrue c.loop-done.invariant.steady.tells mid in
    let s = c.requires.writing tells in
    (s.0, (_, (c.loop-done.invariant.so_far tells s.0 s.1.0 s.1.1).0))

pub returns-in_err-push-clause-wrote : goal.returns-in_err-push-clause-wrote
returns-in_err-push-clause-wrote g c = λ tells h text was.
    let mid = subst IsTrue (sym c.loop-done.invariant.steady.tells) tells in
    let so_far = c.loop-done.invariant.so_far tells h text was in
    wrote_then c.args.pieces.now.file _ h _ _ _ tells c.loop-done.invariant.file so_far.1 (c.push.ensures.wrote mid h _ so_far.0)

pub loop-done-preserved : goal.loop-done-preserved
loop-done-preserved g c = record {
  within = (let n = c.min-n.ensures in omega (arith, n));
  file = c.push.ensures.file ∙ c.loop-done.invariant.file;
  place = (let n = c.min-n.ensures in let p = c.in_ok-push.ensures.place in let q = c.loop-done.invariant.place in omega (arith, n, p, q, length-take {A = ℕ} c.min-n.result (replicate 4096 0), length-replicate {A = ℕ} 4096 0));
  steady = steady_twice _ _ _ c.loop-done.invariant.steady c.push.ensures.steady;
  counts = c.in_ok-push.ensures.counts ∙ c.loop-done.invariant.counts;
  so_far = λ tells h text was.
      let mid = subst IsTrue (sym c.loop-done.invariant.steady.tells) tells in
      let so_far = c.loop-done.invariant.so_far tells h text was in
      let n = c.min-n.ensures in
      let done = c.loop-done.done in (
        subst (IsWriting c.push.new.self h (g.D.Disk.view c.push.new.disk)) (append_assoc text (replicate done 0) (take c.min-n.result (replicate 4096 0)) ∙ ap (λ (l : List ℕ). text ++ l) (more_zeros done c.min-n.result 4096 (omega (arith, n)))) (c.in_ok-push.ensures.answer mid h _ so_far.0),
        wrote_then c.args.pieces.now.file _ h _ _ _ tells c.loop-done.invariant.file so_far.1 (c.push.ensures.wrote mid h _ so_far.0),
      );
}

pub returns-clause-wrote : goal.returns-clause-wrote
returns-clause-wrote g c = λ tells h text was. (c.loop-done.invariant.so_far tells h text was).1
