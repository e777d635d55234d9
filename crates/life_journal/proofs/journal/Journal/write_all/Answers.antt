use Rattle.std.proofs.Common.{◌∙◌, refl, sym, ap, subst, IsTrue, arith}
use Rattle.disk_model.proofs.Calls.{steady_twice}
use Rattle.image_chain.specs.declared.chain.Step.{Step}
use Rattle.image_chain.specs.declared.chain.Step.TheVariants.{Piece}
use Rattle.life_journal.specs.Writing.{GoesOn, state_at}
use Rattle.life_journal.proofs.WritingLaws.{due_not_done, fewer_left, goes_on_keeps, last_taken, more_same, state_more, taken_since, written_first, written_moments}
use Rattle.life_journal.proofs.journal.Journal.write_all.Goals as goal

pub calls-init : goal.calls-init
calls-init g c = record {
  state = c.requires.whole;
  more = λ e. due_not_done (Piece 0) (sym c.requires.begun ∙ e);
  output = refl;
  prepared = refl;
  current = refl;
  steady = record { tells = refl; tells_past = refl; faults = omega arith };
  counts = refl;
  so_far = λ tells rs r w h. written_first c.args.self.now (g.D.Disk.view c.args.disk.now) rs r w tells (g.met.D.Disk.lawful c.args.disk.now tells) c.requires.begun h;
}

pub write_call-requires-clause-fits : goal.write_call-requires-clause-fits
write_call-requires-clause-fits g c = λ mid.
    let tells = subst IsTrue c.calls.invariant.steady.tells mid in
    let f = c.requires.fits tells in
    (f.0, f.1, f.2, (c.calls.invariant.so_far tells f.0 f.1 f.2 f.3).keeps)

pub returns-in_err-next-clause-any_moment : goal.returns-in_err-next-clause-any_moment
returns-in_err-next-clause-any_moment g c = λ tells rs r w h.
    let mid = subst IsTrue (sym c.calls.invariant.steady.tells) tells in
    written_moments c.args.self.now c.calls.self (g.D.Disk.view c.args.disk.now) (g.D.Disk.view c.calls.disk) (g.D.Disk.view c.write_call.new.disk) rs r w tells c.calls.invariant.current
    (c.calls.invariant.so_far tells rs r w h) (c.write_call.ensures.any_moment mid rs r w)

pub returns-in-Done-clause-any_moment : goal.returns-in-Done-clause-any_moment
returns-in-Done-clause-any_moment g c = λ tells rs r w h.
    let mid = subst IsTrue (sym c.calls.invariant.steady.tells) tells in
    written_moments c.args.self.now c.calls.self (g.D.Disk.view c.args.disk.now) (g.D.Disk.view c.calls.disk) (g.D.Disk.view c.write_call.new.disk) rs r w tells c.calls.invariant.current
    (c.calls.invariant.so_far tells rs r w h) (c.write_call.ensures.any_moment mid rs r w)

pub returns-in-Done-clause-whole : goal.returns-in-Done-clause-whole
returns-in-Done-clause-whole g c = c.in_ok-next.ensures.state ∙ ap state_at c.in-Done.is

pub returns-in-Done-clause-took : goal.returns-in-Done-clause-took
returns-in-Done-clause-took g c =
    taken_since c.args.self.now c.calls.self c.write_call.new.self c.calls.invariant.current c.calls.invariant.prepared
    (last_taken c.calls.self.chain.due _ _ c.calls.invariant.more (sym c.in_ok-next.ensures.order ∙ c.in-Done.is) c.in_ok-next.ensures.took)

pub returns-in-Done-clause-holds : goal.returns-in-Done-clause-holds
returns-in-Done-clause-holds g c = λ tells rs r w h.
    let mid = subst IsTrue (sym c.calls.invariant.steady.tells) tells in
    subst (λ (s : Step). GoesOn s c.write_call.new.self (g.D.Disk.view c.write_call.new.disk) rs r w) c.in-Done.is (c.in_ok-next.ensures.holds mid rs r w (c.calls.invariant.so_far tells rs r w h).keeps)

pub calls-smaller : goal.calls-smaller
calls-smaller g c = fewer_left c.calls.self c.write_call.new.self c.in_ok-next.next c.in_default.not-Done c.write_call.ensures.same.1 c.in_ok-next.ensures.due c.in_ok-next.ensures.counted c.in_ok-next.ensures.within

pub calls-preserved : goal.calls-preserved
calls-preserved g c = record {
  state = c.in_ok-next.ensures.state ∙ sym (state_more c.in_ok-next.next c.in_default.not-Done);
  more = λ e. due_not_done c.in_ok-next.next (sym c.in_ok-next.ensures.due ∙ e);
  output = c.write_call.ensures.same.0 ∙ c.calls.invariant.output;
  prepared = c.write_call.ensures.same.1 ∙ c.calls.invariant.prepared;
  current = more_same c.calls.self.chain.due _ c.args.self.now.chain.current c.calls.self.chain.current c.write_call.new.self.chain.current c.calls.invariant.current c.write_call.ensures.chain (λ e. c.in_default.not-Done (c.in_ok-next.ensures.order ∙ e));
  steady = steady_twice _ _ _ c.calls.invariant.steady c.write_call.ensures.steady;
  counts = c.in_ok-next.ensures.counts ∙ c.calls.invariant.counts;
  so_far = λ tells rs r w h.
      let mid = subst IsTrue (sym c.calls.invariant.steady.tells) tells in
      let was = c.calls.invariant.so_far tells rs r w h in
      record {
        keeps = goes_on_keeps c.in_ok-next.next _ _ rs r w c.in_default.not-Done (c.in_ok-next.ensures.holds mid rs r w was.keeps);
        moments = written_moments c.args.self.now c.calls.self (g.D.Disk.view c.args.disk.now) (g.D.Disk.view c.calls.disk) (g.D.Disk.view c.write_call.new.disk) rs r w tells c.calls.invariant.current was (c.write_call.ensures.any_moment mid rs r w);
      };
}
