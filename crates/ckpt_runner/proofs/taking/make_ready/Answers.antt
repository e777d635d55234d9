use Rattle.ckpt_runner.proofs.SoundLaws.{rests_whole}
use Rattle.ckpt_runner.proofs.PutLaws.{output_fits}
use Rattle.ckpt_runner.proofs.TakeLaws.{flushed_fits, ready_holds}
use Rattle.ckpt_runner.proofs.PassingLaws.{flush_moments, ready_moments, ready_leaves}
use Rattle.ckpt_runner.proofs.GoodTaking.{output_moments, room_moments, room_stays, images_beside, images_joined}
use Rattle.ckpt_runner.proofs.StandingThen.{images_after}
use Rattle.ckpt_runner.proofs.taking.make_ready.Goals as goal

pub flush-requires-clause-whole : goal.flush-requires-clause-whole
flush-requires-clause-whole g c = rests_whole _ c.requires.whole

pub flush-requires-clause-fits : goal.flush-requires-clause-fits
flush-requires-clause-fits g c = output_fits c.args.journal.now (g.D.Disk.view c.args.disk.now) c.requires.fits

pub make_room-requires-clause-fits : goal.make_room-requires-clause-fits
make_room-requires-clause-fits g c =
    flushed_fits c.args.journal.now c.flush.new.self (g.D.Disk.view c.args.disk.now) (g.D.Disk.view c.flush.new.disk) c.flush.ensures.steady.tells c.requires.fits c.in_ok-flush.ensures.holds

pub returns-clause-holds : goal.returns-clause-holds
returns-clause-holds g c =
    ready_holds c.args.journal.now c.flush.new.self c.make_room.new.self (g.D.Disk.view c.args.disk.now) (g.D.Disk.view c.flush.new.disk) (g.D.Disk.view c.make_room.new.disk)
    c.flush.ensures.steady.tells c.in_ok-flush.ensures.holds c.in_ok-make_room.ensures.holds

pub returns-in_err-flush-clause-any_moment : goal.returns-in_err-flush-clause-any_moment
returns-in_err-flush-clause-any_moment g c = λ told rs w h.
    flush_moments c.args.journal.now rs w (g.D.Disk.view c.args.disk.now) (g.D.Disk.view c.flush.new.disk) (c.flush.ensures.any_moment told)

pub returns-in_err-make_room-clause-any_moment : goal.returns-in_err-make_room-clause-any_moment
returns-in_err-make_room-clause-any_moment g c = λ told rs w h.
    ready_moments c.args.journal.now c.flush.new.self (g.D.Disk.view c.args.disk.now) (g.D.Disk.view c.flush.new.disk) (g.D.Disk.view c.make_room.new.disk) c.flush.ensures.same.0 c.flush.ensures.steady.tells
    (c.flush.ensures.any_moment told) c.in_ok-flush.ensures.holds c.make_room.ensures.any_moment told rs w h

pub returns-clause-any_moment : goal.returns-clause-any_moment
returns-clause-any_moment g c = λ told rs w h.
    ready_moments c.args.journal.now c.flush.new.self (g.D.Disk.view c.args.disk.now) (g.D.Disk.view c.flush.new.disk) (g.D.Disk.view c.make_room.new.disk) c.flush.ensures.same.0 c.flush.ensures.steady.tells
    (c.flush.ensures.any_moment told) c.in_ok-flush.ensures.holds c.make_room.ensures.any_moment told rs w h

pub returns-clause-ready : goal.returns-clause-ready
returns-clause-ready g c = λ told rs w h.
    ready_leaves c.args.journal.now c.flush.new.self (g.D.Disk.view c.args.disk.now) (g.D.Disk.view c.flush.new.disk) (g.D.Disk.view c.make_room.new.disk) c.flush.ensures.same.0 c.flush.ensures.steady.tells
    (c.flush.ensures.any_moment told) c.in_ok-flush.ensures.holds c.make_room.ensures.any_moment told rs w h

pub returns-in_err-flush-clause-moments : goal.returns-in_err-flush-clause-moments
returns-in_err-flush-clause-moments g c = output_moments c.args.journal.now (g.D.Disk.view c.args.disk.now) (g.D.Disk.view c.flush.new.disk) c.flush.ensures.any_moment

pub returns-in_err-flush-clause-later : goal.returns-in_err-flush-clause-later
returns-in_err-flush-clause-later g c = images_beside c.args.journal.now (g.D.Disk.view c.args.disk.now) (g.D.Disk.view c.flush.new.disk) c.flush.ensures.any_moment

pub returns-in_err-make_room-clause-moments : goal.returns-in_err-make_room-clause-moments
returns-in_err-make_room-clause-moments g c =
    let u = g.D.Disk.view c.args.disk.now in
    let v = g.D.Disk.view c.flush.new.disk in
    let w = g.D.Disk.view c.make_room.new.disk in
    room_moments c.args.journal.now c.flush.new.self u v c.flush.ensures.steady.tells c.flush.ensures.any_moment c.flush.ensures.same.0 c.in_ok-flush.ensures.exact c.in_ok-flush.ensures.holds w
    (g.met.D.Disk.tells_all c.args.disk.now) c.make_room.ensures.any_moment

pub returns-in_err-make_room-clause-later : goal.returns-in_err-make_room-clause-later
returns-in_err-make_room-clause-later g c =
    let u = g.D.Disk.view c.args.disk.now in
    let v = g.D.Disk.view c.flush.new.disk in
    let w = g.D.Disk.view c.make_room.new.disk in
    images_after u v w (g.met.D.Disk.tells_all c.args.disk.now) c.flush.ensures.steady.tells (images_beside c.args.journal.now u v c.flush.ensures.any_moment)
    (images_joined c.flush.new.self v w (flushed_fits c.args.journal.now c.flush.new.self u v c.flush.ensures.steady.tells c.requires.fits c.in_ok-flush.ensures.holds) c.make_room.ensures.any_moment)

pub returns-clause-moments : goal.returns-clause-moments
returns-clause-moments g c =
    let u = g.D.Disk.view c.args.disk.now in
    let v = g.D.Disk.view c.flush.new.disk in
    let w = g.D.Disk.view c.make_room.new.disk in
    room_moments c.args.journal.now c.flush.new.self u v c.flush.ensures.steady.tells c.flush.ensures.any_moment c.flush.ensures.same.0 c.in_ok-flush.ensures.exact c.in_ok-flush.ensures.holds w
    (g.met.D.Disk.tells_all c.args.disk.now) c.make_room.ensures.any_moment

pub returns-clause-later : goal.returns-clause-later
returns-clause-later g c =
    let u = g.D.Disk.view c.args.disk.now in
    let v = g.D.Disk.view c.flush.new.disk in
    let w = g.D.Disk.view c.make_room.new.disk in
    images_after u v w (g.met.D.Disk.tells_all c.args.disk.now) c.flush.ensures.steady.tells (images_beside c.args.journal.now u v c.flush.ensures.any_moment)
    (images_joined c.flush.new.self v w (flushed_fits c.args.journal.now c.flush.new.self u v c.flush.ensures.steady.tells c.requires.fits c.in_ok-flush.ensures.holds) c.make_room.ensures.any_moment)

pub returns-clause-stays : goal.returns-clause-stays
returns-clause-stays g c =
    let u = g.D.Disk.view c.args.disk.now in
    let v = g.D.Disk.view c.flush.new.disk in
    let w = g.D.Disk.view c.make_room.new.disk in
    room_stays c.args.journal.now c.flush.new.self u v c.flush.ensures.steady.tells c.flush.ensures.any_moment c.flush.ensures.same.0 c.in_ok-flush.ensures.exact c.in_ok-flush.ensures.holds
    c.make_room.new.self w c.make_room.ensures.any_moment c.make_room.ensures.same c.in_ok-make_room.ensures.every c.in_ok-make_room.ensures.holds
