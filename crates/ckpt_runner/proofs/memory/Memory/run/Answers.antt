use Rattle.std.proofs.Common.{◌∙◌, sym, ap, subst, refl, arith, Bool, List, length, length-set, true}
use Rattle.paged_machine.specs.RunOn.{Answers, WouldWrite, live_behind}
use Rattle.ckpt_runner.proofs.OverLaws.{IsOpened, fit_on, served_less, goes_first, goes_then, shrinks_over, snapped_on, apart_on}
use Rattle.ckpt_runner.proofs.memory.Memory.run.Goals as goal

pub faults-init : goal.faults-init
faults-init g c =
    let was = c.args.self.now in
    record {
      live = c.requires.live;
      stands = c.requires.stands;
      fit = c.requires.fit;
      copies = c.requires.copies;
      size = refl;
      marks = c.requires.marks;
      apart = c.requires.apart;
      snapped = λ takes memory h. h;
      steps = refl;
      within = omega arith;
      goes = goes_first c.args.code.now was.machine.state was.frames was.pages;
      shrinks = λ answer u h. h;
    }

pub faults-smaller : goal.faults-smaller
faults-smaller g c =
    let now = c.faults.self in
    let on = c.run_on-answer.new in
    let page = c.in-Some.page in
    let w : WouldWrite c.args.code.now now.pages on.self.state on.frames page = subst (Answers c.args.code.now now.pages on.self.state on.frames) (c.faulted.ensures.page page c.in-Some.is) c.run_on-answer.ensures.answer in
    let e = c.serve_fault.ensures in
    served_less now.pages c.serve_fault.new.pages page (record { dirty = e.dirty; marks = e.marks; fewer = e.fewer; here = e.here }) w.within w.closed

pub faults-preserved : goal.faults-preserved
faults-preserved g c =
    let was = c.args.self.now in
    let now = c.faults.self in
    let code = c.args.code.now in
    let page = c.in-Some.page in
    let on = c.run_on-answer.new in
    let e = c.run_on-answer.ensures in
    let h = c.faults.invariant in
    let is = c.faulted.ensures.page page c.in-Some.is in
    let pages = c.serve_fault.new.pages in
    let f = c.serve_fault.ensures in
    let served : IsOpened now.pages page pages = record { dirty = f.dirty; marks = f.marks; fewer = f.fewer; here = f.here } in
    let dirty = ap (λ (l : List Bool). length l) f.dirty ∙ length-set now.pages.dirty page true in
    record {
      live = e.live ∙ ap live_behind is;
      stands = e.stands;
      fit = fit_on code now.frames on.frames now.pages pages h.fit e.size dirty;
      copies = f.size ∙ h.copies ∙ sym e.size;
      size = e.size ∙ h.size;
      marks = f.marks ∙ h.marks ∙ sym dirty;
      apart = apart_on now.pages pages page served h.apart;
      snapped = λ takes memory x. f.snapped takes memory (snapped_on takes memory now.pages now.frames on.frames now.copies h.apart e.spared (h.snapped takes memory x));
      steps = omega (arith, h.steps, e.steps);
      within = omega (arith, h.within, e.within);
      goes = goes_then code was.machine.state now.machine.state on.self.state was.frames now.frames on.frames was.pages now.pages pages page c.run_on-answer.result is served h.goes e.goes e.answer;
      shrinks = shrinks_over code c.args.until page was.machine.state now.machine.state on.self.state c.run_on-answer.result is h.shrinks e.shrinks;
    }
