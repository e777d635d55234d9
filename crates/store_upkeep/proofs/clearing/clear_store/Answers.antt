use Rattle.std.proofs.Common.{sym, subst, IsTrue}
use Rattle.store_upkeep.proofs.ClearedLaws.{clear_moments, cut_moments, blanked_sync, sync_moments, emptied, emptied_stand, emptying_standing}
use Rattle.store_upkeep.proofs.clearing.clear_store.Goals as goal

pub returns-in_err-clear-clause-any_moment : goal.returns-in_err-clear-clause-any_moment
returns-in_err-clear-clause-any_moment g c = λ told. clear_moments (g.D.Disk.view c.args.disk.now) (g.D.Disk.view c.clear.new.disk) (c.clear.ensures.any_moment told)

pub returns-in_err-clear-clause-standing : goal.returns-in_err-clear-clause-standing
returns-in_err-clear-clause-standing g c =
    let u = g.D.Disk.view c.args.disk.now in
    let v = g.D.Disk.view c.clear.new.disk in
    emptying_standing u v (λ told. clear_moments u v (c.clear.ensures.any_moment told))

pub returns-in_err-cut-clause-any_moment : goal.returns-in_err-cut-clause-any_moment
returns-in_err-cut-clause-any_moment g c = λ told.
    let u = g.D.Disk.view c.args.disk.now in
    let v = g.D.Disk.view c.clear.new.disk in
    cut_moments u v told (c.clear.ensures.any_moment told) (c.in_ok-clear.ensures.answer told) _ c.cut.result (g.D.Disk.view c.cut.new.self) c.cut.ensures.answer

pub returns-in_err-cut-clause-standing : goal.returns-in_err-cut-clause-standing
returns-in_err-cut-clause-standing g c =
    let u = g.D.Disk.view c.args.disk.now in
    let v = g.D.Disk.view c.clear.new.disk in
    let w = g.D.Disk.view c.cut.new.self in
    emptying_standing u w (λ told. cut_moments u v told (c.clear.ensures.any_moment told) (c.in_ok-clear.ensures.answer told) _ c.cut.result w c.cut.ensures.answer)

pub returns-in_err-sync-clause-any_moment : goal.returns-in_err-sync-clause-any_moment
returns-in_err-sync-clause-any_moment g c = λ told.
    let u = g.D.Disk.view c.args.disk.now in
    let v = g.D.Disk.view c.clear.new.disk in
    sync_moments u v told (c.clear.ensures.any_moment told) (c.in_ok-clear.ensures.answer told) _ c.cut.result (g.D.Disk.view c.cut.new.self) c.cut.ensures.answer c.sync.result (g.D.Disk.view c.sync.new.self) c.sync.ensures.answer

pub returns-in_err-sync-clause-standing : goal.returns-in_err-sync-clause-standing
returns-in_err-sync-clause-standing g c =
    let u = g.D.Disk.view c.args.disk.now in
    let v = g.D.Disk.view c.clear.new.disk in
    let w = g.D.Disk.view c.cut.new.self in
    let x = g.D.Disk.view c.sync.new.self in
    emptying_standing u x (λ told. sync_moments u v told (c.clear.ensures.any_moment told) (c.in_ok-clear.ensures.answer told) _ c.cut.result w c.cut.ensures.answer c.sync.result x c.sync.ensures.answer)

pub returns-clause-any_moment : goal.returns-clause-any_moment
returns-clause-any_moment g c = λ told.
    let u = g.D.Disk.view c.args.disk.now in
    let v = g.D.Disk.view c.clear.new.disk in
    sync_moments u v told (c.clear.ensures.any_moment told) (c.in_ok-clear.ensures.answer told) _ c.cut.result (g.D.Disk.view c.cut.new.self) c.cut.ensures.answer c.sync.result (g.D.Disk.view c.sync.new.self) c.sync.ensures.answer

pub returns-clause-standing : goal.returns-clause-standing
returns-clause-standing g c =
    let u = g.D.Disk.view c.args.disk.now in
    let v = g.D.Disk.view c.clear.new.disk in
    let w = g.D.Disk.view c.cut.new.self in
    let x = g.D.Disk.view c.sync.new.self in
    emptying_standing u x (λ told. sync_moments u v told (c.clear.ensures.any_moment told) (c.in_ok-clear.ensures.answer told) _ c.cut.result w c.cut.ensures.answer c.sync.result x c.sync.ensures.answer)

pub returns-clause-answer : goal.returns-clause-answer
returns-clause-answer g c = λ told.
    let u = g.D.Disk.view c.args.disk.now in
    let v = g.D.Disk.view c.clear.new.disk in
    let w = g.D.Disk.view c.cut.new.self in
    let x = g.D.Disk.view c.sync.new.self in
    let here = subst IsTrue (sym c.clear.ensures.steady.tells) told in
    let there = subst IsTrue (sym c.cut.ensures.answer.tells) here in
    let cleared = c.in_ok-clear.ensures.answer told in
    emptied v w x cleared (c.in_ok-cut.ensures.answer.does here) (c.in_ok-sync.ensures.answer.does there)
    (λ s left. (blanked_sync u v told (c.clear.ensures.any_moment told) cleared _ c.cut.result w c.cut.ensures.answer c.sync.result x c.sync.ensures.answer s left).2)

pub returns-clause-stands : goal.returns-clause-stands
returns-clause-stands g c = λ told s. emptied_stand (g.D.Disk.view c.sync.new.self) (returns-clause-answer g c told) s
