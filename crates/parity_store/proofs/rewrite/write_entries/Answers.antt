use Rattle.std.proofs.Common.{sym, subst, IsTrue}
use Rattle.parity_store.proofs.WritingLaws.{wrote_then}
use Rattle.parity_store.proofs.rewrite.write_entries.Goals as goal

pub push-requires-clause-writing : goal.push-requires-clause-writing
push-requires-clause-writing g c = λ mid.
    let tells = subst IsTrue c.write_job_entries.ensures.steady.tells mid in
    let s = c.requires.writing tells in
    (s.0, (_, c.in_ok-write_job_entries.ensures.answer tells s.0 s.1.0 s.1.1))

pub returns-in_err-push-clause-wrote : goal.returns-in_err-push-clause-wrote
returns-in_err-push-clause-wrote g c = λ tells h text was.
    let mid = subst IsTrue (sym c.write_job_entries.ensures.steady.tells) tells in
    let one = c.write_job_entries.ensures.wrote tells h text was in
    let entries = c.in_ok-write_job_entries.ensures.answer tells h text was in
    wrote_then c.args.pieces.now.file _ h (g.D.Disk.view c.args.disk.now) (g.D.Disk.view c.write_job_entries.new.disk) (g.D.Disk.view c.push.new.disk) tells c.write_job_entries.ensures.file one (c.push.ensures.wrote mid h _ entries)

pub returns-clause-wrote : goal.returns-clause-wrote
returns-clause-wrote g c = λ tells h text was.
    let mid = subst IsTrue (sym c.write_job_entries.ensures.steady.tells) tells in
    let one = c.write_job_entries.ensures.wrote tells h text was in
    let entries = c.in_ok-write_job_entries.ensures.answer tells h text was in
    wrote_then c.args.pieces.now.file _ h (g.D.Disk.view c.args.disk.now) (g.D.Disk.view c.write_job_entries.new.disk) (g.D.Disk.view c.push.new.disk) tells c.write_job_entries.ensures.file one (c.push.ensures.wrote mid h _ entries)
