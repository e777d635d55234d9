use Rattle.std.proofs.Common.{[], refl, sym, subst, IsTrue}
use Rattle.std.specs.Prelude.{replicate}
use Rattle.disk_model.specs.declared.disk_file.DiskFile.{DiskFile}
use Rattle.disk_model.specs.declared.disk_file.DiskFile.TheVariants.{Output, One, Two}
use Rattle.parity_store.specs.OnDisk.{first_header}
use Rattle.parity_store.specs.Writing.{IsWritten, Wrote, empty_text}
use Rattle.parity_store.proofs.WritingLaws.{only_twice, puts_started, puts_wrote, puts_opened}
use Rattle.parity_store.proofs.EmptyLaws.{empty_is_pool}
use Rattle.parity_store.proofs.StandsLaws.{first_held, making, made_stands, none_aside, two_not_one, output_not_one}
use Rattle.parity_store.proofs.pool.Pool.make.Goals as goal

pub returns-in_err-pieces-clause-any_moment : goal.returns-in_err-pieces-clause-any_moment
returns-in_err-pieces-clause-any_moment g c = λ tells.
    let h = first_header c.args.jobs c.args.size in
    let text = empty_text c.args.jobs c.args.size in
    let list = replicate c.args.jobs [] in
    let held = first_held c.args.jobs c.args.size c.requires.ranges in
    let good = empty_is_pool c.args.jobs c.args.size c.requires.ranges in
    let none = c.requires.none tells in
    let begun = puts_started One h 0 text (g.D.Disk.view c.args.disk.now) (g.D.Disk.view c.start.new.disk) (c.start.ensures.any_moment tells 0 (none_aside (g.D.Disk.view c.args.disk.now) none)) in
    making h (g.D.Disk.view c.args.disk.now) (g.D.Disk.view c.start.new.disk) text list held refl refl none begun good

pub returns-in_err-write_empty-clause-any_moment : goal.returns-in_err-write_empty-clause-any_moment
returns-in_err-write_empty-clause-any_moment g c = λ tells.
    let h = first_header c.args.jobs c.args.size in
    let text = empty_text c.args.jobs c.args.size in
    let list = replicate c.args.jobs [] in
    let held = first_held c.args.jobs c.args.size c.requires.ranges in
    let good = empty_is_pool c.args.jobs c.args.size c.requires.ranges in
    let none = c.requires.none tells in
    let begun = puts_started One h 0 text (g.D.Disk.view c.args.disk.now) (g.D.Disk.view c.start.new.disk) (c.start.ensures.any_moment tells 0 (none_aside (g.D.Disk.view c.args.disk.now) none)) in
    let mid = subst IsTrue (sym c.start.ensures.steady.tells) tells in
    let same = c.in_ok-pieces.ensures.same.0 in
    let writing = c.in_ok-pieces.ensures.answer tells in
    let wrote = subst (λ (f : DiskFile). Wrote f h (g.D.Disk.view c.start.new.disk) (g.D.Disk.view c.write_empty.new.disk)) same (c.write_empty.ensures.wrote mid h writing) in
    let second = puts_wrote One h 0 text (g.D.Disk.view c.args.disk.now) (g.D.Disk.view c.start.new.disk) (g.D.Disk.view c.write_empty.new.disk) tells held begun wrote in
    making h (g.D.Disk.view c.args.disk.now) (g.D.Disk.view c.write_empty.new.disk) text list held refl refl none second good

pub returns-in_err-open_gate-clause-any_moment : goal.returns-in_err-open_gate-clause-any_moment
returns-in_err-open_gate-clause-any_moment g c = λ tells.
    let h = first_header c.args.jobs c.args.size in
    let text = empty_text c.args.jobs c.args.size in
    let list = replicate c.args.jobs [] in
    let held = first_held c.args.jobs c.args.size c.requires.ranges in
    let good = empty_is_pool c.args.jobs c.args.size c.requires.ranges in
    let none = c.requires.none tells in
    let begun = puts_started One h 0 text (g.D.Disk.view c.args.disk.now) (g.D.Disk.view c.start.new.disk) (c.start.ensures.any_moment tells 0 (none_aside (g.D.Disk.view c.args.disk.now) none)) in
    let mid = subst IsTrue (sym c.start.ensures.steady.tells) tells in
    let same = c.in_ok-pieces.ensures.same.0 in
    let writing = c.in_ok-pieces.ensures.answer tells in
    let wrote = subst (λ (f : DiskFile). Wrote f h (g.D.Disk.view c.start.new.disk) (g.D.Disk.view c.write_empty.new.disk)) same (c.write_empty.ensures.wrote mid h writing) in
    let second = puts_wrote One h 0 text (g.D.Disk.view c.args.disk.now) (g.D.Disk.view c.start.new.disk) (g.D.Disk.view c.write_empty.new.disk) tells held begun wrote in
    let end = subst IsTrue (sym c.write_empty.ensures.steady.tells) mid in
    let written = subst (λ (f : DiskFile). IsWritten f h (g.D.Disk.view c.write_empty.new.disk) text) same (c.in_ok-write_empty.ensures.answer mid h writing) in
    let third = puts_opened One h 0 text (g.D.Disk.view c.args.disk.now) (g.D.Disk.view c.write_empty.new.disk) (g.D.Disk.view c.open_gate.new.disk) tells held second (c.open_gate.ensures.any_moment end h text written) in
    making h (g.D.Disk.view c.args.disk.now) (g.D.Disk.view c.open_gate.new.disk) text list held refl refl none third good

pub returns-clause-any_moment : goal.returns-clause-any_moment
returns-clause-any_moment g c = λ tells.
    let h = first_header c.args.jobs c.args.size in
    let text = empty_text c.args.jobs c.args.size in
    let list = replicate c.args.jobs [] in
    let held = first_held c.args.jobs c.args.size c.requires.ranges in
    let good = empty_is_pool c.args.jobs c.args.size c.requires.ranges in
    let none = c.requires.none tells in
    let begun = puts_started One h 0 text (g.D.Disk.view c.args.disk.now) (g.D.Disk.view c.start.new.disk) (c.start.ensures.any_moment tells 0 (none_aside (g.D.Disk.view c.args.disk.now) none)) in
    let mid = subst IsTrue (sym c.start.ensures.steady.tells) tells in
    let same = c.in_ok-pieces.ensures.same.0 in
    let writing = c.in_ok-pieces.ensures.answer tells in
    let wrote = subst (λ (f : DiskFile). Wrote f h (g.D.Disk.view c.start.new.disk) (g.D.Disk.view c.write_empty.new.disk)) same (c.write_empty.ensures.wrote mid h writing) in
    let second = puts_wrote One h 0 text (g.D.Disk.view c.args.disk.now) (g.D.Disk.view c.start.new.disk) (g.D.Disk.view c.write_empty.new.disk) tells held begun wrote in
    let end = subst IsTrue (sym c.write_empty.ensures.steady.tells) mid in
    let written = subst (λ (f : DiskFile). IsWritten f h (g.D.Disk.view c.write_empty.new.disk) text) same (c.in_ok-write_empty.ensures.answer mid h writing) in
    let third = puts_opened One h 0 text (g.D.Disk.view c.args.disk.now) (g.D.Disk.view c.write_empty.new.disk) (g.D.Disk.view c.open_gate.new.disk) tells held second (c.open_gate.ensures.any_moment end h text written) in
    making h (g.D.Disk.view c.args.disk.now) (g.D.Disk.view c.open_gate.new.disk) text list held refl refl none third good

pub returns-clause-answer : goal.returns-clause-answer
returns-clause-answer g c = λ tells.
    let h = first_header c.args.jobs c.args.size in
    let text = empty_text c.args.jobs c.args.size in
    let list = replicate c.args.jobs [] in
    let held = first_held c.args.jobs c.args.size c.requires.ranges in
    let good = empty_is_pool c.args.jobs c.args.size c.requires.ranges in
    let none = c.requires.none tells in
    let begun = puts_started One h 0 text (g.D.Disk.view c.args.disk.now) (g.D.Disk.view c.start.new.disk) (c.start.ensures.any_moment tells 0 (none_aside (g.D.Disk.view c.args.disk.now) none)) in
    let mid = subst IsTrue (sym c.start.ensures.steady.tells) tells in
    let same = c.in_ok-pieces.ensures.same.0 in
    let writing = c.in_ok-pieces.ensures.answer tells in
    let wrote = subst (λ (f : DiskFile). Wrote f h (g.D.Disk.view c.start.new.disk) (g.D.Disk.view c.write_empty.new.disk)) same (c.write_empty.ensures.wrote mid h writing) in
    let second = puts_wrote One h 0 text (g.D.Disk.view c.args.disk.now) (g.D.Disk.view c.start.new.disk) (g.D.Disk.view c.write_empty.new.disk) tells held begun wrote in
    let end = subst IsTrue (sym c.write_empty.ensures.steady.tells) mid in
    let written = subst (λ (f : DiskFile). IsWritten f h (g.D.Disk.view c.write_empty.new.disk) text) same (c.in_ok-write_empty.ensures.answer mid h writing) in
    let third = puts_opened One h 0 text (g.D.Disk.view c.args.disk.now) (g.D.Disk.view c.write_empty.new.disk) (g.D.Disk.view c.open_gate.new.disk) tells held second (c.open_gate.ensures.any_moment end h text written) in
    let two = only_twice One (g.D.Disk.view c.args.disk.now) (g.D.Disk.view c.start.new.disk) (g.D.Disk.view c.write_empty.new.disk) (c.start.ensures.others tells) wrote.others in
    let only = only_twice One (g.D.Disk.view c.args.disk.now) (g.D.Disk.view c.write_empty.new.disk) (g.D.Disk.view c.open_gate.new.disk) two (c.open_gate.ensures.others end) in
    made_stands h (g.D.Disk.view c.args.disk.now) (g.D.Disk.view c.open_gate.new.disk) text list held refl refl none (c.in_ok-open_gate.ensures.answer end h text written) only good

pub returns-in_err-pieces-clause-aside : goal.returns-in_err-pieces-clause-aside
returns-in_err-pieces-clause-aside g c = λ tells. c.start.ensures.others tells Two two_not_one

pub returns-in_err-write_empty-clause-aside : goal.returns-in_err-write_empty-clause-aside
returns-in_err-write_empty-clause-aside g c = λ tells.
    let mid = subst IsTrue (sym c.start.ensures.steady.tells) tells in
    let wrote = subst (λ (f : DiskFile). Wrote f (first_header c.args.jobs c.args.size) (g.D.Disk.view c.start.new.disk) (g.D.Disk.view c.write_empty.new.disk)) c.in_ok-pieces.ensures.same.0 (c.write_empty.ensures.wrote mid (first_header c.args.jobs c.args.size) (c.in_ok-pieces.ensures.answer tells)) in
    let two = only_twice One (g.D.Disk.view c.args.disk.now) (g.D.Disk.view c.start.new.disk) (g.D.Disk.view c.write_empty.new.disk) (c.start.ensures.others tells) wrote.others in
    two Two two_not_one

pub returns-in_err-open_gate-clause-aside : goal.returns-in_err-open_gate-clause-aside
returns-in_err-open_gate-clause-aside g c = λ tells.
    let mid = subst IsTrue (sym c.start.ensures.steady.tells) tells in
    let wrote = subst (λ (f : DiskFile). Wrote f (first_header c.args.jobs c.args.size) (g.D.Disk.view c.start.new.disk) (g.D.Disk.view c.write_empty.new.disk)) c.in_ok-pieces.ensures.same.0 (c.write_empty.ensures.wrote mid (first_header c.args.jobs c.args.size) (c.in_ok-pieces.ensures.answer tells)) in
    let two = only_twice One (g.D.Disk.view c.args.disk.now) (g.D.Disk.view c.start.new.disk) (g.D.Disk.view c.write_empty.new.disk) (c.start.ensures.others tells) wrote.others in
    let end = subst IsTrue (sym c.write_empty.ensures.steady.tells) mid in
    let three = only_twice One (g.D.Disk.view c.args.disk.now) (g.D.Disk.view c.write_empty.new.disk) (g.D.Disk.view c.open_gate.new.disk) two (c.open_gate.ensures.others end) in
    three Two two_not_one

pub returns-clause-aside : goal.returns-clause-aside
returns-clause-aside g c = λ tells.
    let mid = subst IsTrue (sym c.start.ensures.steady.tells) tells in
    let wrote = subst (λ (f : DiskFile). Wrote f (first_header c.args.jobs c.args.size) (g.D.Disk.view c.start.new.disk) (g.D.Disk.view c.write_empty.new.disk)) c.in_ok-pieces.ensures.same.0 (c.write_empty.ensures.wrote mid (first_header c.args.jobs c.args.size) (c.in_ok-pieces.ensures.answer tells)) in
    let two = only_twice One (g.D.Disk.view c.args.disk.now) (g.D.Disk.view c.start.new.disk) (g.D.Disk.view c.write_empty.new.disk) (c.start.ensures.others tells) wrote.others in
    let end = subst IsTrue (sym c.write_empty.ensures.steady.tells) mid in
    let three = only_twice One (g.D.Disk.view c.args.disk.now) (g.D.Disk.view c.write_empty.new.disk) (g.D.Disk.view c.open_gate.new.disk) two (c.open_gate.ensures.others end) in
    three Two two_not_one

pub returns-in_err-pieces-clause-output : goal.returns-in_err-pieces-clause-output
returns-in_err-pieces-clause-output g c = λ tells. c.start.ensures.others tells Output output_not_one

pub returns-in_err-write_empty-clause-output : goal.returns-in_err-write_empty-clause-output
returns-in_err-write_empty-clause-output g c = λ tells.
    let mid = subst IsTrue (sym c.start.ensures.steady.tells) tells in
    let wrote = subst (λ (f : DiskFile). Wrote f (first_header c.args.jobs c.args.size) (g.D.Disk.view c.start.new.disk) (g.D.Disk.view c.write_empty.new.disk)) c.in_ok-pieces.ensures.same.0 (c.write_empty.ensures.wrote mid (first_header c.args.jobs c.args.size) (c.in_ok-pieces.ensures.answer tells)) in
    let two = only_twice One (g.D.Disk.view c.args.disk.now) (g.D.Disk.view c.start.new.disk) (g.D.Disk.view c.write_empty.new.disk) (c.start.ensures.others tells) wrote.others in
    two Output output_not_one

pub returns-in_err-open_gate-clause-output : goal.returns-in_err-open_gate-clause-output
returns-in_err-open_gate-clause-output g c = λ tells.
    let mid = subst IsTrue (sym c.start.ensures.steady.tells) tells in
    let wrote = subst (λ (f : DiskFile). Wrote f (first_header c.args.jobs c.args.size) (g.D.Disk.view c.start.new.disk) (g.D.Disk.view c.write_empty.new.disk)) c.in_ok-pieces.ensures.same.0 (c.write_empty.ensures.wrote mid (first_header c.args.jobs c.args.size) (c.in_ok-pieces.ensures.answer tells)) in
    let two = only_twice One (g.D.Disk.view c.args.disk.now) (g.D.Disk.view c.start.new.disk) (g.D.Disk.view c.write_empty.new.disk) (c.start.ensures.others tells) wrote.others in
    let end = subst IsTrue (sym c.write_empty.ensures.steady.tells) mid in
    let three = only_twice One (g.D.Disk.view c.args.disk.now) (g.D.Disk.view c.write_empty.new.disk) (g.D.Disk.view c.open_gate.new.disk) two (c.open_gate.ensures.others end) in
    three Output output_not_one

pub returns-clause-output : goal.returns-clause-output
returns-clause-output g c = λ tells.
    let mid = subst IsTrue (sym c.start.ensures.steady.tells) tells in
    let wrote = subst (λ (f : DiskFile). Wrote f (first_header c.args.jobs c.args.size) (g.D.Disk.view c.start.new.disk) (g.D.Disk.view c.write_empty.new.disk)) c.in_ok-pieces.ensures.same.0 (c.write_empty.ensures.wrote mid (first_header c.args.jobs c.args.size) (c.in_ok-pieces.ensures.answer tells)) in
    let two = only_twice One (g.D.Disk.view c.args.disk.now) (g.D.Disk.view c.start.new.disk) (g.D.Disk.view c.write_empty.new.disk) (c.start.ensures.others tells) wrote.others in
    let end = subst IsTrue (sym c.write_empty.ensures.steady.tells) mid in
    let three = only_twice One (g.D.Disk.view c.args.disk.now) (g.D.Disk.view c.write_empty.new.disk) (g.D.Disk.view c.open_gate.new.disk) two (c.open_gate.ensures.others end) in
    three Output output_not_one
