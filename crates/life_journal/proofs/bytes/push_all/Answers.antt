use Rattle.std.proofs.Common.{◌++◌, List, ℕ, sym, subst, take, IsTrue}
use Rattle.std.proofs.lemmas.List.{take_more}
use Rattle.life_journal.proofs.PushLaws.{Pushes, pushes_first, pushes_then, moments_then, images_then}
use Rattle.life_journal.proofs.bytes.push_all.Goals as goal

pub bytes-init : goal.bytes-init
bytes-init g c = record { pushes = pushes_first (g.D.Disk.view c.args.disk.now) c.args.output.now (g.met.D.Disk.lawful c.args.disk.now) (g.met.D.Disk.tells_all c.args.disk.now) c.requires.begun }

pub push-requires-clause-fits : goal.push-requires-clause-fits
push-requires-clause-fits g c = λ told.
    let h = c.bytes.invariant.pushes in
    let tells = subst IsTrue h.steady.tells told in
    let was = c.requires.fits tells in
    (was.0 ++ take c.bytes.byte-index c.args.bytes.now, h.answer tells was.0 was.1)

pub returns-in_err-push-clause-any_moment : goal.returns-in_err-push-clause-any_moment
returns-in_err-push-clause-any_moment g c =
    let h = c.bytes.invariant.pushes in
    moments_then (g.D.Disk.view c.args.disk.now) (g.D.Disk.view c.bytes.disk) (g.D.Disk.view c.push.new.disk) c.args.output.now c.bytes.output h.steady.tells h.lasting h.moments c.push.ensures.any_moment

pub returns-in_err-push-clause-same : goal.returns-in_err-push-clause-same
returns-in_err-push-clause-same g c =
    let h = c.bytes.invariant.pushes in
    images_then (g.D.Disk.view c.args.disk.now) (g.D.Disk.view c.bytes.disk) (g.D.Disk.view c.push.new.disk) h.steady.tells h.same c.push.ensures.same

pub bytes-preserved : goal.bytes-preserved
bytes-preserved g c =
    let u = g.D.Disk.view c.args.disk.now in
    let v = g.D.Disk.view c.bytes.disk in
    let w = g.D.Disk.view c.push.new.disk in
    let i = c.bytes.byte-index in
    let bytes = c.args.bytes.now in
    record {
      pushes = subst (λ (l : List ℕ). Pushes u w c.args.output.now c.push.new.self l) (sym (take_more bytes i 0 c.bytes-test.true))
          (pushes_then u v w c.args.output.now c.bytes.output c.push.new.self (take i bytes) _ c.bytes.invariant.pushes c.in_ok-push.ensures.exact c.in_ok-push.ensures.count c.in_ok-push.ensures.answer c.push.ensures.any_moment c.push.ensures.same c.in_ok-push.ensures.counts c.push.ensures.steady);
    }
