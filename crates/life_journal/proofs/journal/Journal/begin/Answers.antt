use Rattle.std.proofs.Common.{refl, sym, subst, IsTrue}
use Rattle.life_journal.proofs.HoldLaws.{none_behind, none_started, none_left, begun_holds}
use Rattle.life_journal.proofs.journal.Journal.begin.Goals as goal

pub returns-in_err-begin_at-clause-any_moment : goal.returns-in_err-begin_at-clause-any_moment
returns-in_err-begin_at-clause-any_moment g c = λ tells. none_behind (g.D.Disk.view c.args.disk.now) (g.D.Disk.view c.begin_at.new.disk) 0 (c.requires.none tells) (c.begin_at.ensures.any_moment tells)

pub returns-in_err-chain-clause-any_moment : goal.returns-in_err-chain-clause-any_moment
returns-in_err-chain-clause-any_moment g c = λ tells.
    let u = g.D.Disk.view c.args.disk.now in
    let v = g.D.Disk.view c.begin_at.new.disk in
    let mid = subst IsTrue (sym c.begin_at.ensures.steady.tells) tells in
    let none = none_behind u v 0 (c.requires.none tells) (c.begin_at.ensures.any_moment tells) in
    none_started u v (g.D.Disk.view c.start.new.disk) tells none (c.start.ensures.any_moment mid (none_left u v tells none))

pub returns-clause-any_moment : goal.returns-clause-any_moment
returns-clause-any_moment g c = λ tells.
    let u = g.D.Disk.view c.args.disk.now in
    let v = g.D.Disk.view c.begin_at.new.disk in
    let mid = subst IsTrue (sym c.begin_at.ensures.steady.tells) tells in
    let none = none_behind u v 0 (c.requires.none tells) (c.begin_at.ensures.any_moment tells) in
    none_started u v (g.D.Disk.view c.start.new.disk) tells none (c.start.ensures.any_moment mid (none_left u v tells none))

pub returns-clause-holds : goal.returns-clause-holds
returns-clause-holds g c = λ tells.
    let u = g.D.Disk.view c.args.disk.now in
    let v = g.D.Disk.view c.begin_at.new.disk in
    let mid = subst IsTrue (sym c.begin_at.ensures.steady.tells) tells in
    let none = none_behind u v 0 (c.requires.none tells) (c.begin_at.ensures.any_moment tells) in
    begun_holds _ v (g.D.Disk.view c.start.new.disk) _ refl c.requires.empty (c.in_ok-chain.ensures.answer mid (none_left u v tells none)) (c.start.ensures.output mid) (c.in_ok-begin_at.ensures.answer tells)
