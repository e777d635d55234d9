use Rattle.std.proofs.Common.{◌∙◌, refl, sym, ap, subst, ℕ, List, IsTrue}
use Rattle.disk_model.specs.Moments.{Among, LeavesOnly}
use Rattle.image_format.specs.Image.{Image}
use Rattle.image_chain.specs.Append.{Spells}
use Rattle.image_chain.specs.Lists.{IsLeftIn}
use Rattle.image_chain.specs.Records.{broken_field}
use Rattle.coalesce.proofs.JoinLaws.{one_spelled}
use Rattle.life_journal.specs.JournalView.{JournalView}
use Rattle.life_journal.specs.Writing.{KeepsJournal}
use Rattle.life_journal.specs.contracts.journal.Journal.{the_view}
use Rattle.life_journal.proofs.WritingLaws.{call_moments, call_ends, call_goes_on, state_more}
use Rattle.life_journal.proofs.journal.Journal.write_call.Goals as goal

pub append_call-requires-clause-follows : goal.append_call-requires-clause-follows
append_call-requires-clause-follows g c = λ r spells.
    let under = c.self.invariant.under_way (ap (λ (j : JournalView). j.state) c.self.view_is ∙ c.requires.whole) in
    ap (λ (i : Image). broken_field c.self.inside.chain.current.newest i.fields) (one_spelled r under.image c.as_slice.result.now spells (subst (Spells under.image) (sym c.as_slice.ensures.answer) under.spells)) ∙ under.follows

pub returns-in_err-next-clause-any_moment : goal.returns-in_err-next-clause-any_moment
returns-in_err-next-clause-any_moment g c =
    let u = g.D.Disk.view c.args.disk.now in
    let v = g.D.Disk.view c.append_call.new.disk in
    subst (λ (j : JournalView). IsTrue u.tells → (rs : List Image) (r : Image) (w : List ℕ) → KeepsJournal j u rs r w → LeavesOnly u v (Among u.may_leave (IsLeftIn j.chain.due j.chain.current rs r))) c.self.view_is
    (call_moments (the_view c.self.inside) _ u v _ _ _ c.due-at.ensures.answer c.as_slice.ensures.answer c.append_call.ensures.makes)

pub returns-in-Done-clause-any_moment : goal.returns-in-Done-clause-any_moment
returns-in-Done-clause-any_moment g c =
    let u = g.D.Disk.view c.args.disk.now in
    let v = g.D.Disk.view c.append_call.new.disk in
    subst (λ (j : JournalView). IsTrue u.tells → (rs : List Image) (r : Image) (w : List ℕ) → KeepsJournal j u rs r w → LeavesOnly u v (Among u.may_leave (IsLeftIn j.chain.due j.chain.current rs r))) c.self.view_is
    (call_moments (the_view c.self.inside) _ u v _ _ _ c.due-at.ensures.answer c.as_slice.ensures.answer c.append_call.ensures.makes)

pub returns-in-Done-clause-holds : goal.returns-in-Done-clause-holds
returns-in-Done-clause-holds g c = λ tells rs r w h.
    let u = g.D.Disk.view c.args.disk.now in
    let was = subst (λ (j : JournalView). KeepsJournal j u rs r w) (sym c.self.view_is) h in
    call_ends (the_view c.self.inside) _ u (g.D.Disk.view c.append_call.new.disk) _ _ _ c.in-Done.is c.due-at.ensures.answer c.as_slice.ensures.answer c.in_ok-next.ensures.makes c.in_ok-next.ensures.due refl
    (λ q spells. c.keep_record.ensures q (subst (Spells q) (sym c.as_slice-in-Done.ensures.answer) spells)) tells rs r w was

pub returns-clause-any_moment : goal.returns-clause-any_moment
returns-clause-any_moment g c =
    let u = g.D.Disk.view c.args.disk.now in
    let v = g.D.Disk.view c.append_call.new.disk in
    subst (λ (j : JournalView). IsTrue u.tells → (rs : List Image) (r : Image) (w : List ℕ) → KeepsJournal j u rs r w → LeavesOnly u v (Among u.may_leave (IsLeftIn j.chain.due j.chain.current rs r))) c.self.view_is
    (call_moments (the_view c.self.inside) _ u v _ _ _ c.due-at.ensures.answer c.as_slice.ensures.answer c.append_call.ensures.makes)

pub returns-clause-state : goal.returns-clause-state
returns-clause-state g c = state_more c.in_ok-next.next c.in_default.not-Done

pub returns-clause-holds : goal.returns-clause-holds
returns-clause-holds g c = λ tells rs r w h.
    let u = g.D.Disk.view c.args.disk.now in
    let was = subst (λ (j : JournalView). KeepsJournal j u rs r w) (sym c.self.view_is) h in
    call_goes_on c.in_ok-next.next (the_view c.self.inside) _ u (g.D.Disk.view c.append_call.new.disk) _ _ c.in_default.not-Done c.due-at.ensures.answer c.as_slice.ensures.answer c.in_ok-next.ensures.makes c.in_ok-next.ensures.due refl refl refl tells rs r w was
