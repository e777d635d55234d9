use Rattle.std.proofs.Common.{sym, subst, IsTrue}
use Rattle.disk_model.specs.declared.disk_file.DiskFile.TheVariants.{Output}
use Rattle.disk_model.proofs.Calls.{stays_twice}
use Rattle.disk_model.specs.Moments.{Among, LeavesOnly}
use Rattle.image_chain.specs.ChainView.{ChainView}
use Rattle.image_chain.specs.Lists.{Rests, IsSettled}
use Rattle.image_chain.specs.Replace.{StandsOnOther, IsReplaced}
use Rattle.coalesce.specs.Join.{Joining}
use Rattle.store_upkeep.proofs.CoalescedLaws.{settle_moments, settle_alone, join_moments, one_record, joined_records}
use Rattle.store_upkeep.proofs.StandingLaws.{settled_stands, settled_later, both_stand, both_later}
use Rattle.store_upkeep.proofs.joining.join_chain.Goals as goal

pub join-requires-clause-rests : goal.join-requires-clause-rests
join-requires-clause-rests g c = λ here.
    let told = subst IsTrue c.settle.ensures.steady.tells here in
    let found = c.requires.rests told in
    (found.0, (c.in_ok-settle.ensures.answer told found.0 found.1).0, found.2)

pub returns-in_err-settle-clause-any_moment : goal.returns-in_err-settle-clause-any_moment
returns-in_err-settle-clause-any_moment g c = λ told.
    let v = g.D.Disk.view c.args.disk.now in
    let w = g.D.Disk.view c.settle.new.disk in
    let found = c.requires.rests told in
    settle_moments c.args.chain found.0 v c.requires.some found.1 w (c.settle.ensures.any_moment told found.0 found.1) (g.met.D.Disk.lawful c.args.disk.now told)

pub returns-in_err-settle-clause-standing : goal.returns-in_err-settle-clause-standing
returns-in_err-settle-clause-standing g c = λ told s is stand.
    let v = g.D.Disk.view c.args.disk.now in
    let w = g.D.Disk.view c.settle.new.disk in
    let found = c.requires.rests told in
    settled_stands c.args.chain found.0 v c.requires.some found.1 w (c.settle.ensures.any_moment told found.0 found.1) c.newest_images_need_most.ensures.law s is stand

pub returns-in_err-settle-clause-later : goal.returns-in_err-settle-clause-later
returns-in_err-settle-clause-later g c = λ told j later.
    let v = g.D.Disk.view c.args.disk.now in
    let w = g.D.Disk.view c.settle.new.disk in
    let found = c.requires.rests told in
    settled_later c.args.chain found.0 v c.requires.some found.1 w (c.settle.ensures.any_moment told found.0 found.1) j later

pub returns-then-records-lt-FEWEST-clause-any_moment : goal.returns-then-records-lt-FEWEST-clause-any_moment
returns-then-records-lt-FEWEST-clause-any_moment g c = λ told.
    let v = g.D.Disk.view c.args.disk.now in
    let w = g.D.Disk.view c.settle.new.disk in
    let found = c.requires.rests told in
    settle_moments c.args.chain found.0 v c.requires.some found.1 w (c.settle.ensures.any_moment told found.0 found.1) (g.met.D.Disk.lawful c.args.disk.now told)

pub returns-then-records-lt-FEWEST-clause-standing : goal.returns-then-records-lt-FEWEST-clause-standing
returns-then-records-lt-FEWEST-clause-standing g c = λ told s is stand.
    let v = g.D.Disk.view c.args.disk.now in
    let w = g.D.Disk.view c.settle.new.disk in
    let found = c.requires.rests told in
    settled_stands c.args.chain found.0 v c.requires.some found.1 w (c.settle.ensures.any_moment told found.0 found.1) c.newest_images_need_most.ensures.law s is stand

pub returns-then-records-lt-FEWEST-clause-later : goal.returns-then-records-lt-FEWEST-clause-later
returns-then-records-lt-FEWEST-clause-later g c = λ told j later.
    let v = g.D.Disk.view c.args.disk.now in
    let w = g.D.Disk.view c.settle.new.disk in
    let found = c.requires.rests told in
    settled_later c.args.chain found.0 v c.requires.some found.1 w (c.settle.ensures.any_moment told found.0 found.1) j later

pub returns-then-records-lt-FEWEST-clause-answer : goal.returns-then-records-lt-FEWEST-clause-answer
returns-then-records-lt-FEWEST-clause-answer g c = λ told.
    let v = g.D.Disk.view c.args.disk.now in
    let w = g.D.Disk.view c.settle.new.disk in
    let here = subst IsTrue (sym c.settle.ensures.steady.tells) told in
    let found = c.requires.rests told in
    let at = c.in_ok-settle.ensures.answer told found.0 found.1 in
    let rests = subst (λ (k : ChainView). Rests k w found.0) c.settle.ensures.same at.0 in
    let settled = subst (λ (k : ChainView). IsSettled k w) c.settle.ensures.same at.1 in
    one_record c.args.chain found.0 v c.requires.some found.1 w rests settled c.count-records.result (g.met.D.Disk.lawful c.args.disk.now told) (g.met.D.Disk.lawful c.settle.new.disk here) c.count-records.ensures.answer c.if-records-lt-FEWEST.true

pub returns-in_err-join-clause-any_moment : goal.returns-in_err-join-clause-any_moment
returns-in_err-join-clause-any_moment g c = λ told.
    let v = g.D.Disk.view c.args.disk.now in
    let w = g.D.Disk.view c.settle.new.disk in
    let x = g.D.Disk.view c.join.new.disk in
    let here = subst IsTrue (sym c.settle.ensures.steady.tells) told in
    let found = c.requires.rests told in
    let at = c.in_ok-settle.ensures.answer told found.0 found.1 in
    let rests = subst (λ (k : ChainView). Rests k w found.0) c.settle.ensures.same at.0 in
    let made = subst (λ (k : ChainView). Joining k c.join.new.chain found.0 c.join.result w x) c.settle.ensures.same (c.join.ensures.joins here found.0 at.0 found.2) in
    join_moments c.args.chain found.0 v c.requires.some found.1 w (c.settle.ensures.any_moment told found.0 found.1) made.image x told (g.met.D.Disk.lawful c.args.disk.now told) made.joins made.moments

pub returns-in_err-join-clause-standing : goal.returns-in_err-join-clause-standing
returns-in_err-join-clause-standing g c = λ told s is stand.
    let v = g.D.Disk.view c.args.disk.now in
    let w = g.D.Disk.view c.settle.new.disk in
    let x = g.D.Disk.view c.join.new.disk in
    let here = subst IsTrue (sym c.settle.ensures.steady.tells) told in
    let found = c.requires.rests told in
    let at = c.in_ok-settle.ensures.answer told found.0 found.1 in
    let rests = subst (λ (k : ChainView). Rests k w found.0) c.settle.ensures.same at.0 in
    let made = subst (λ (k : ChainView). Joining k c.join.new.chain found.0 c.join.result w x) c.settle.ensures.same (c.join.ensures.joins here found.0 at.0 found.2) in
    both_stand c.args.chain found.0 v w x c.requires.some told found.1 (c.settle.ensures.any_moment told found.0 found.1) rests made.image made.joins made.moments c.newest_images_need_most.ensures.law s is stand

pub returns-in_err-join-clause-later : goal.returns-in_err-join-clause-later
returns-in_err-join-clause-later g c = λ told j later.
    let v = g.D.Disk.view c.args.disk.now in
    let w = g.D.Disk.view c.settle.new.disk in
    let x = g.D.Disk.view c.join.new.disk in
    let here = subst IsTrue (sym c.settle.ensures.steady.tells) told in
    let found = c.requires.rests told in
    let at = c.in_ok-settle.ensures.answer told found.0 found.1 in
    let rests = subst (λ (k : ChainView). Rests k w found.0) c.settle.ensures.same at.0 in
    let made = subst (λ (k : ChainView). Joining k c.join.new.chain found.0 c.join.result w x) c.settle.ensures.same (c.join.ensures.joins here found.0 at.0 found.2) in
    both_later c.args.chain found.0 v w x c.requires.some told found.1 (c.settle.ensures.any_moment told found.0 found.1) rests made.image made.joins made.moments j later

pub returns-clause-any_moment : goal.returns-clause-any_moment
returns-clause-any_moment g c = λ told.
    let v = g.D.Disk.view c.args.disk.now in
    let w = g.D.Disk.view c.settle.new.disk in
    let x = g.D.Disk.view c.join.new.disk in
    let here = subst IsTrue (sym c.settle.ensures.steady.tells) told in
    let found = c.requires.rests told in
    let at = c.in_ok-settle.ensures.answer told found.0 found.1 in
    let rests = subst (λ (k : ChainView). Rests k w found.0) c.settle.ensures.same at.0 in
    let made = subst (λ (k : ChainView). Joining k c.join.new.chain found.0 c.join.result w x) c.settle.ensures.same (c.join.ensures.joins here found.0 at.0 found.2) in
    join_moments c.args.chain found.0 v c.requires.some found.1 w (c.settle.ensures.any_moment told found.0 found.1) made.image x told (g.met.D.Disk.lawful c.args.disk.now told) made.joins made.moments

pub returns-clause-standing : goal.returns-clause-standing
returns-clause-standing g c = λ told s is stand.
    let v = g.D.Disk.view c.args.disk.now in
    let w = g.D.Disk.view c.settle.new.disk in
    let x = g.D.Disk.view c.join.new.disk in
    let here = subst IsTrue (sym c.settle.ensures.steady.tells) told in
    let found = c.requires.rests told in
    let at = c.in_ok-settle.ensures.answer told found.0 found.1 in
    let rests = subst (λ (k : ChainView). Rests k w found.0) c.settle.ensures.same at.0 in
    let made = subst (λ (k : ChainView). Joining k c.join.new.chain found.0 c.join.result w x) c.settle.ensures.same (c.join.ensures.joins here found.0 at.0 found.2) in
    both_stand c.args.chain found.0 v w x c.requires.some told found.1 (c.settle.ensures.any_moment told found.0 found.1) rests made.image made.joins made.moments c.newest_images_need_most.ensures.law s is stand

pub returns-clause-later : goal.returns-clause-later
returns-clause-later g c = λ told j later.
    let v = g.D.Disk.view c.args.disk.now in
    let w = g.D.Disk.view c.settle.new.disk in
    let x = g.D.Disk.view c.join.new.disk in
    let here = subst IsTrue (sym c.settle.ensures.steady.tells) told in
    let found = c.requires.rests told in
    let at = c.in_ok-settle.ensures.answer told found.0 found.1 in
    let rests = subst (λ (k : ChainView). Rests k w found.0) c.settle.ensures.same at.0 in
    let made = subst (λ (k : ChainView). Joining k c.join.new.chain found.0 c.join.result w x) c.settle.ensures.same (c.join.ensures.joins here found.0 at.0 found.2) in
    both_later c.args.chain found.0 v w x c.requires.some told found.1 (c.settle.ensures.any_moment told found.0 found.1) rests made.image made.joins made.moments j later

pub returns-clause-answer : goal.returns-clause-answer
returns-clause-answer g c = λ told.
    let v = g.D.Disk.view c.args.disk.now in
    let w = g.D.Disk.view c.settle.new.disk in
    let x = g.D.Disk.view c.join.new.disk in
    let here = subst IsTrue (sym c.settle.ensures.steady.tells) told in
    let found = c.requires.rests told in
    let at = c.in_ok-settle.ensures.answer told found.0 found.1 in
    let rests = subst (λ (k : ChainView). Rests k w found.0) c.settle.ensures.same at.0 in
    let settled = subst (λ (k : ChainView). IsSettled k w) c.settle.ensures.same at.1 in
    let took = subst (λ (k : ChainView). StandsOnOther k.current c.join.new.chain.current) c.settle.ensures.same c.in_ok-join.ensures.took.1 in
    let now = c.in_ok-join.ensures.joins here found.0 at.0 found.2 in
    let there = subst IsTrue (sym c.join.ensures.steady.tells) here in
    let moments = subst (λ (k : ChainView). LeavesOnly w x (Among w.may_leave (IsReplaced k.current found.0 now.image))) c.settle.ensures.same now.moments in
    joined_records c.args.chain found.0 v c.requires.some found.1 w rests settled c.count-records.result c.join.new.chain now.image x (g.met.D.Disk.lawful c.args.disk.now told) here (g.met.D.Disk.lawful c.join.new.disk there)
    c.count-records.ensures.answer c.if-records-lt-FEWEST.false now.joins moments took now.stands

pub returns-then-records-lt-FEWEST-clause-alone : goal.returns-then-records-lt-FEWEST-clause-alone
returns-then-records-lt-FEWEST-clause-alone g c = λ told.
    let found = c.requires.rests told in
    settle_alone c.args.chain found.0 (g.D.Disk.view c.args.disk.now) c.requires.some found.1 (g.D.Disk.view c.settle.new.disk) (c.settle.ensures.any_moment told found.0 found.1) (g.met.D.Disk.lawful c.args.disk.now told)

pub returns-in_err-settle-clause-output : goal.returns-in_err-settle-clause-output
returns-in_err-settle-clause-output g c = λ told. let found = c.requires.rests told in c.settle.ensures.output told found.0 found.1

pub returns-then-records-lt-FEWEST-clause-output : goal.returns-then-records-lt-FEWEST-clause-output
returns-then-records-lt-FEWEST-clause-output g c = λ told. let found = c.requires.rests told in c.settle.ensures.output told found.0 found.1

pub returns-in_err-join-clause-output : goal.returns-in_err-join-clause-output
returns-in_err-join-clause-output g c = λ told.
    let found = c.requires.rests told in
    stays_twice Output (g.D.Disk.view c.args.disk.now) (g.D.Disk.view c.settle.new.disk) (g.D.Disk.view c.join.new.disk) (c.settle.ensures.output told found.0 found.1) (c.join.ensures.output (subst IsTrue (sym c.settle.ensures.steady.tells) told))

pub returns-clause-output : goal.returns-clause-output
returns-clause-output g c = λ told.
    let found = c.requires.rests told in
    stays_twice Output (g.D.Disk.view c.args.disk.now) (g.D.Disk.view c.settle.new.disk) (g.D.Disk.view c.join.new.disk) (c.settle.ensures.output told found.0 found.1) (c.join.ensures.output (subst IsTrue (sym c.settle.ensures.steady.tells) told))
