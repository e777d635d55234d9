use Rattle.std.proofs.Common.{sym, subst, IsTrue}
use Rattle.disk_model.specs.declared.disk_file.DiskFile.TheVariants.{Output}
use Rattle.disk_model.proofs.Calls.{stays_twice}
use Rattle.life_journal.proofs.BesideLaws.{same_file}
use Rattle.ckpt_runner.proofs.GoodOpening.{old_standing, old_later, standing_twice}
use Rattle.ckpt_runner.proofs.StandingThen.{images_after}
use Rattle.store_upkeep.proofs.CoalescedLaws.{opened_coalesced, opened_alone, opened_then}
use Rattle.store_upkeep.proofs.joining.join_records.Goals as goal

pub returns-in_err-open-clause-standing : goal.returns-in_err-open-clause-standing
returns-in_err-open-clause-standing g c = old_standing (g.D.Disk.view c.args.disk.now) (g.D.Disk.view c.open.new.disk) c.open.ensures.any_moment

pub returns-in_err-open-clause-later : goal.returns-in_err-open-clause-later
returns-in_err-open-clause-later g c = old_later (g.D.Disk.view c.args.disk.now) (g.D.Disk.view c.open.new.disk) c.open.ensures.any_moment

pub returns-in-None-clause-standing : goal.returns-in-None-clause-standing
returns-in-None-clause-standing g c = old_standing (g.D.Disk.view c.args.disk.now) (g.D.Disk.view c.open.new.disk) c.open.ensures.any_moment

pub returns-in-None-clause-later : goal.returns-in-None-clause-later
returns-in-None-clause-later g c = old_later (g.D.Disk.view c.args.disk.now) (g.D.Disk.view c.open.new.disk) c.open.ensures.any_moment

pub returns-in_err-join_chain-in-Some-clause-any_moment : goal.returns-in_err-join_chain-in-Some-clause-any_moment
returns-in_err-join_chain-in-Some-clause-any_moment g c = λ told.
    opened_then (g.D.Disk.view c.args.disk.now) (g.D.Disk.view c.open.new.disk) (g.D.Disk.view c.join_chain.new.disk) told (c.open.ensures.same told) (c.open.ensures.any_moment told) (c.join_chain.ensures.any_moment (subst IsTrue (sym c.open.ensures.steady.tells) told))

pub returns-in_err-join_chain-in-Some-clause-standing : goal.returns-in_err-join_chain-in-Some-clause-standing
returns-in_err-join_chain-in-Some-clause-standing g c =
    let u = g.D.Disk.view c.args.disk.now in
    let v = g.D.Disk.view c.open.new.disk in
    standing_twice u v (g.D.Disk.view c.join_chain.new.disk) (g.met.D.Disk.tells_all c.args.disk.now) c.open.ensures.steady.tells (old_standing u v c.open.ensures.any_moment) c.join_chain.ensures.standing

pub returns-in_err-join_chain-in-Some-clause-later : goal.returns-in_err-join_chain-in-Some-clause-later
returns-in_err-join_chain-in-Some-clause-later g c =
    let u = g.D.Disk.view c.args.disk.now in
    let v = g.D.Disk.view c.open.new.disk in
    images_after u v (g.D.Disk.view c.join_chain.new.disk) (g.met.D.Disk.tells_all c.args.disk.now) c.open.ensures.steady.tells (old_later u v c.open.ensures.any_moment) c.join_chain.ensures.later

pub returns-clause-any_moment : goal.returns-clause-any_moment
returns-clause-any_moment g c = λ told.
    opened_then (g.D.Disk.view c.args.disk.now) (g.D.Disk.view c.open.new.disk) (g.D.Disk.view c.join_chain.new.disk) told (c.open.ensures.same told) (c.open.ensures.any_moment told) (c.join_chain.ensures.any_moment (subst IsTrue (sym c.open.ensures.steady.tells) told))

pub returns-clause-standing : goal.returns-clause-standing
returns-clause-standing g c =
    let u = g.D.Disk.view c.args.disk.now in
    let v = g.D.Disk.view c.open.new.disk in
    standing_twice u v (g.D.Disk.view c.join_chain.new.disk) (g.met.D.Disk.tells_all c.args.disk.now) c.open.ensures.steady.tells (old_standing u v c.open.ensures.any_moment) c.join_chain.ensures.standing

pub returns-clause-later : goal.returns-clause-later
returns-clause-later g c =
    let u = g.D.Disk.view c.args.disk.now in
    let v = g.D.Disk.view c.open.new.disk in
    images_after u v (g.D.Disk.view c.join_chain.new.disk) (g.met.D.Disk.tells_all c.args.disk.now) c.open.ensures.steady.tells (old_later u v c.open.ensures.any_moment) c.join_chain.ensures.later

pub returns-clause-answer : goal.returns-clause-answer
returns-clause-answer g c = λ told.
    opened_coalesced c.in_ok-join_chain-in-Some.field-0 (g.D.Disk.view c.args.disk.now) (g.D.Disk.view c.open.new.disk) (g.D.Disk.view c.join_chain.new.disk) (c.open.ensures.same told)
    (c.in_ok-join_chain-in-Some.ensures.answer (subst IsTrue (sym c.open.ensures.steady.tells) told))

pub returns-clause-alone : goal.returns-clause-alone
returns-clause-alone g c =
    opened_alone c.in_ok-join_chain-in-Some.field-0 (g.D.Disk.view c.args.disk.now) (g.D.Disk.view c.open.new.disk) (g.D.Disk.view c.join_chain.new.disk) c.open.ensures.steady.tells c.in_ok-join_chain-in-Some.ensures.chain c.open.ensures.same c.open.ensures.any_moment
    c.in_ok-join_chain-in-Some.ensures.alone

pub returns-in_err-join_chain-in-Some-clause-output : goal.returns-in_err-join_chain-in-Some-clause-output
returns-in_err-join_chain-in-Some-clause-output g c = λ told.
    stays_twice Output (g.D.Disk.view c.args.disk.now) (g.D.Disk.view c.open.new.disk) (g.D.Disk.view c.join_chain.new.disk) (c.open.ensures.output told) (c.join_chain.ensures.output (subst IsTrue (sym c.open.ensures.steady.tells) told))

pub returns-clause-output : goal.returns-clause-output
returns-clause-output g c = λ told.
    stays_twice Output (g.D.Disk.view c.args.disk.now) (g.D.Disk.view c.open.new.disk) (g.D.Disk.view c.join_chain.new.disk) (c.open.ensures.output told) (c.join_chain.ensures.output (subst IsTrue (sym c.open.ensures.steady.tells) told))

pub returns-in_err-room-clause-output : goal.returns-in_err-room-clause-output
returns-in_err-room-clause-output g c = λ told. same_file Output (g.D.Disk.view c.args.disk.now)

pub returns-in_err-rooms-clause-output : goal.returns-in_err-rooms-clause-output
returns-in_err-rooms-clause-output g c = λ told. same_file Output (g.D.Disk.view c.args.disk.now)
