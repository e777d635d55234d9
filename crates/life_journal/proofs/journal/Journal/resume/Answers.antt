use Rattle.std.proofs.Common.{sym, subst, IsTrue}
use Rattle.life_journal.proofs.BesideLaws.{rests_beside}
use Rattle.life_journal.proofs.ResumeLaws.{cut_moments, settled_holds, settled_moments}
use Rattle.life_journal.proofs.journal.Journal.resume.Goals as goal

pub settle-requires-clause-rests : goal.settle-requires-clause-rests
settle-requires-clause-rests g c = λ tells.
    let told = subst IsTrue c.begin_at.ensures.steady.tells tells in
    let found = c.requires.rests told in
    (found.0, rests_beside _ (g.D.Disk.view c.args.disk.now) (g.D.Disk.view c.begin_at.new.disk) found.0 (c.begin_at.ensures.same told) found.1)

pub returns-in_err-begin_at-clause-any_moment : goal.returns-in_err-begin_at-clause-any_moment
returns-in_err-begin_at-clause-any_moment g c = λ tells rs h. cut_moments _ (g.D.Disk.view c.args.disk.now) (g.D.Disk.view c.begin_at.new.disk) rs _ h (c.begin_at.ensures.any_moment tells)

pub returns-in_err-settle-clause-any_moment : goal.returns-in_err-settle-clause-any_moment
returns-in_err-settle-clause-any_moment g c = λ tells rs h.
    let u = g.D.Disk.view c.args.disk.now in
    let v = g.D.Disk.view c.begin_at.new.disk in
    let mid = subst IsTrue (sym c.begin_at.ensures.steady.tells) tells in
    settled_moments _ u v (g.D.Disk.view c.settle.new.disk) rs _ tells h (c.begin_at.ensures.any_moment tells) (c.settle.ensures.any_moment mid rs (rests_beside _ u v rs (c.begin_at.ensures.same tells) h))

pub returns-clause-any_moment : goal.returns-clause-any_moment
returns-clause-any_moment g c = λ tells rs h.
    let u = g.D.Disk.view c.args.disk.now in
    let v = g.D.Disk.view c.begin_at.new.disk in
    let mid = subst IsTrue (sym c.begin_at.ensures.steady.tells) tells in
    settled_moments _ u v (g.D.Disk.view c.settle.new.disk) rs _ tells h (c.begin_at.ensures.any_moment tells) (c.settle.ensures.any_moment mid rs (rests_beside _ u v rs (c.begin_at.ensures.same tells) h))

pub returns-clause-holds : goal.returns-clause-holds
returns-clause-holds g c = λ tells rs h content.
    let u = g.D.Disk.view c.args.disk.now in
    let v = g.D.Disk.view c.begin_at.new.disk in
    let mid = subst IsTrue (sym c.begin_at.ensures.steady.tells) tells in
    let beside = rests_beside _ u v rs (c.begin_at.ensures.same tells) h in
    settled_holds _ v (g.D.Disk.view c.settle.new.disk) rs _ (c.in_ok-settle.ensures.answer mid rs beside).0 content (c.settle.ensures.output mid rs beside) (c.in_ok-begin_at.ensures.answer tells)

pub returns-clause-settled : goal.returns-clause-settled
returns-clause-settled g c = λ tells rs h.
    let mid = subst IsTrue (sym c.begin_at.ensures.steady.tells) tells in
    (c.in_ok-settle.ensures.answer mid rs (rests_beside _ (g.D.Disk.view c.args.disk.now) (g.D.Disk.view c.begin_at.new.disk) rs (c.begin_at.ensures.same tells) h)).1
