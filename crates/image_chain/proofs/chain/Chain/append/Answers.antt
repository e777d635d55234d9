use Rattle.std.proofs.Common.{rules, arith, refl, sym, ◌∙◌, ap, subst, ◌<◌, length, IsTrue}
use Rattle.ckpt_base.specs.Faults.{Rose}
use Rattle.disk_model.proofs.Calls.{steady_twice}
use Rattle.image_chain.specs.declared.chain.Step.{Step}
use Rattle.image_chain.specs.declared.chain.Current.{Current}
use Rattle.image_chain.specs.Records.{broken_field}
use Rattle.image_chain.specs.Append.{IsDueNext, due_after}
use Rattle.image_chain.proofs.LoopWords.{IsInsideOrDone}
use Rattle.image_chain.proofs.LoopLaws.{begun, goes_on, output_goes_on, due_next, inside_next, inside_due, smaller, stands_due, due_is, same_next, took_next, not_last}
use Rattle.image_chain.proofs.StepLaws.{spells_length}
use Rattle.image_chain.proofs.chain.Chain.append.Goals as goal

pub loop-at-init : goal.loop-at-init
loop-at-init g c = record {
  inside = (let n = spells_length c.requires.image.0 c.args.image.now c.requires.image.1 in omega arith);
  due = c.requires.rest;
  same = λ _. refl;
  took = λ last. absurd (not_last last);
  steady = record { tells = refl; tells_past = refl; faults = omega arith };
  counts = refl;
  so_far = λ tells rs r behind spells rest. begun c.args.self.now.current _ rs r c.args.image.now behind tells (g.met.D.Disk.lawful c.args.disk.now tells) rest;
}

pub returns-in-Done-clause-took : goal.returns-in-Done-clause-took
returns-in-Done-clause-took g c = (c.loop-at.invariant.due ∙ ap due_after c.in-Done.is, c.loop-at.invariant.took c.in-Done.is)

pub returns-in-Done-clause-answer : goal.returns-in-Done-clause-answer
returns-in-Done-clause-answer g c = λ tells rs r spells rests.
    (c.loop-at.invariant.due ∙ ap due_after c.in-Done.is, subst (λ (at : Step). IsDueNext c.loop-at.self.current (g.D.Disk.view c.loop-at.disk) rs r c.args.image.now at) c.in-Done.is (c.loop-at.invariant.so_far tells rs r rests.1.0 spells rests.1.1).due)

pub returns-in-Done-clause-any_moment : goal.returns-in-Done-clause-any_moment
returns-in-Done-clause-any_moment g c = λ tells rs r spells rests. (c.loop-at.invariant.so_far tells rs r rests.1.0 spells rests.1.1).moments

pub returns-in-Done-clause-output : goal.returns-in-Done-clause-output
returns-in-Done-clause-output g c = λ tells rs rests. (c.loop-at.invariant.so_far tells rs c.requires.image.0 rests.1.0 c.requires.image.1 rests.1.1).output

pub append_call-requires : goal.append_call-requires
append_call-requires g c =
    let inside = inside_due c.loop-at.at (length c.args.image.now) c.in_default.not-Done c.loop-at.invariant.inside in
    let same = c.loop-at.invariant.same c.in_default.not-Done in
    record {
      image = c.requires.image;
      room = subst (λ (x : Current). x.count < x.max) (sym same) c.requires.room;
      follows = λ r spells. ap (λ (x : Current). broken_field x.newest r.fields) same ∙ c.requires.follows r spells;
      due = sym (c.loop-at.invariant.due ∙ due_is c.loop-at.at c.in_default.not-Done);
      inside = inside;
      stands = λ mid_tells.
          let tells = subst IsTrue c.loop-at.invariant.steady.tells mid_tells in
          let rests = c.requires.rests tells in
          let image = c.requires.image in
          (rests.0, stands_due c.loop-at.self.current _ rests.0 image.0 c.args.image.now c.loop-at.at (length c.args.image.now) inside (c.loop-at.invariant.so_far tells rests.0 image.0 rests.1.1.0 image.1 rests.1.1.1).due);
    }

pub returns-in_err-at : goal.returns-in_err-at
returns-in_err-at g c =
    let inside = inside_due c.loop-at.at (length c.args.image.now) c.in_default.not-Done c.loop-at.invariant.inside in
    record {
      took = search rules;
      answer = search rules;
      any_moment = λ tells rs r spells rests. goes_on c.args.self.now.current c.loop-at.self.current c.append_call.new.self.current _ _ _ rs r c.args.image.now c.loop-at.at c.append_call.result (c.loop-at.invariant.same c.in_default.not-Done) tells spells inside (c.loop-at.invariant.so_far tells rs r rests.1.0 spells rests.1.1) c.append_call.ensures.makes;
      output = λ tells rs rests.
          let image = c.requires.image in
          output_goes_on c.args.self.now.current c.loop-at.self.current c.append_call.new.self.current _ _ _ rs image.0 c.args.image.now c.loop-at.at c.append_call.result tells image.1 inside (c.loop-at.invariant.so_far tells rs image.0 rests.1.0 image.1 rests.1.1) c.append_call.ensures.makes;
      failed = let a = c.in_err-at.ensures.failed in let b = c.loop-at.invariant.steady.faults in let rose : Rose (g.D.Disk.view c.args.disk.now).faults (g.D.Disk.view c.append_call.new.disk).faults = omega (arith, a, b) in search rules;
      counts = search rules;
      steady = steady_twice _ _ _ c.loop-at.invariant.steady c.append_call.ensures.steady;
    }

pub loop-at-smaller : goal.loop-at-smaller
loop-at-smaller g c =
    let inside = inside_due c.loop-at.at (length c.args.image.now) c.in_default.not-Done c.loop-at.invariant.inside in
    rw c.in_ok-at.ensures.order (smaller c.loop-at.at (length c.args.image.now) inside)

pub loop-at-preserved : goal.loop-at-preserved
loop-at-preserved g c =
    let inside = inside_due c.loop-at.at (length c.args.image.now) c.in_default.not-Done c.loop-at.invariant.inside in
    let order = c.in_ok-at.ensures.order in
    let same = c.loop-at.invariant.same c.in_default.not-Done in
    record {
      inside = subst (λ at. IsInsideOrDone at (length c.args.image.now)) (sym order) (inside_next c.loop-at.at (length c.args.image.now) inside);
      due = c.in_ok-at.ensures.due;
      same = λ more. same_next c.loop-at.at (length c.args.image.now) c.args.self.now.current c.loop-at.self.current c.append_call.new.self.current inside same c.append_call.ensures.same (λ e. more (order ∙ e));
      took = λ last. took_next c.loop-at.at (length c.args.image.now) c.args.self.now.current c.loop-at.self.current c.append_call.new.self.current c.args.image.now inside same c.in_ok-at.ensures.took (sym order ∙ last);
      steady = steady_twice _ _ _ c.loop-at.invariant.steady c.append_call.ensures.steady;
      counts = c.in_ok-at.ensures.counts ∙ c.loop-at.invariant.counts;
      so_far = λ tells rs r behind spells rest.
          let was = c.loop-at.invariant.so_far tells rs r behind spells rest in
          record {
            due = due_next c.loop-at.self.current c.append_call.new.self.current _ _ rs r c.args.image.now c.loop-at.at c.in_ok-at.at (subst IsTrue (sym c.loop-at.invariant.steady.tells) tells) spells inside was.due c.in_ok-at.ensures.makes;
            moments = goes_on c.args.self.now.current c.loop-at.self.current c.append_call.new.self.current _ _ _ rs r c.args.image.now c.loop-at.at c.append_call.result same tells spells inside was c.append_call.ensures.makes;
            output = output_goes_on c.args.self.now.current c.loop-at.self.current c.append_call.new.self.current _ _ _ rs r c.args.image.now c.loop-at.at c.append_call.result tells spells inside was c.append_call.ensures.makes;
          };
    }
