use Rattle.std.proofs.Common.{subst, sym, IsTrue}
use Rattle.parity_store.proofs.WritingLaws.{first_moments, first_made, second_moments, second_made, third_moments, third_made, opens_twice, others_kept, only_twice}
use Rattle.parity_store.proofs.pieces.open_gate.Goals as goal

pub returns-in_err-sync-clause-any_moment : goal.returns-in_err-sync-clause-any_moment
returns-in_err-sync-clause-any_moment g c = λ tells h text was. first_moments c.args.file h text c.sync.result _ _ c.sync.ensures.answer tells (g.met.D.Disk.lawful c.args.disk.now tells) was

pub returns-in_err-write_at-clause-any_moment : goal.returns-in_err-write_at-clause-any_moment
returns-in_err-write_at-clause-any_moment g c = λ tells h text was.
    let f = c.args.file in
    let mid = subst IsTrue (sym c.sync.ensures.answer.tells) tells in
    let first = first_moments f h text c.sync.result _ _ c.sync.ensures.answer tells (g.met.D.Disk.lawful c.args.disk.now tells) was in
    let settled = first_made f h text _ _ (c.in_ok-sync.ensures.answer.does tells) was in
    opens_twice f h text _ _ _ tells first (second_moments f h text c.write_at.result _ _ c.write_at.ensures.answer mid (g.met.D.Disk.lawful c.sync.new.self mid) settled)

pub returns-in_err-write_at-clause-others : goal.returns-in_err-write_at-clause-others
returns-in_err-write_at-clause-others g c = λ tells.
    let f = c.args.file in
    let mid = subst IsTrue (sym c.sync.ensures.answer.tells) tells in
    only_twice f _ _ _ (others_kept f _ c.sync.result _ _ tells c.sync.ensures.answer) (others_kept f _ c.write_at.result _ _ mid c.write_at.ensures.answer)

pub returns-in_err-sync-2-clause-any_moment : goal.returns-in_err-sync-2-clause-any_moment
returns-in_err-sync-2-clause-any_moment g c = λ tells h text was.
    let f = c.args.file in
    let mid = subst IsTrue (sym c.sync.ensures.answer.tells) tells in
    let end = subst IsTrue (sym c.write_at.ensures.answer.tells) mid in
    let first = first_moments f h text c.sync.result _ _ c.sync.ensures.answer tells (g.met.D.Disk.lawful c.args.disk.now tells) was in
    let settled = first_made f h text _ _ (c.in_ok-sync.ensures.answer.does tells) was in
    let second = opens_twice f h text _ _ _ tells first (second_moments f h text c.write_at.result _ _ c.write_at.ensures.answer mid (g.met.D.Disk.lawful c.sync.new.self mid) settled) in
    let opening = second_made f h text _ _ (c.in_ok-write_at.ensures.answer.does mid) settled in
    opens_twice f h text _ _ _ tells second (third_moments f h text c.sync-2.result _ _ c.sync-2.ensures.answer end (g.met.D.Disk.lawful c.write_at.new.self end) opening)

pub returns-in_err-sync-2-clause-others : goal.returns-in_err-sync-2-clause-others
returns-in_err-sync-2-clause-others g c = λ tells.
    let f = c.args.file in
    let mid = subst IsTrue (sym c.sync.ensures.answer.tells) tells in
    let end = subst IsTrue (sym c.write_at.ensures.answer.tells) mid in
    only_twice f _ _ _ (only_twice f _ _ _ (others_kept f _ c.sync.result _ _ tells c.sync.ensures.answer) (others_kept f _ c.write_at.result _ _ mid c.write_at.ensures.answer)) (others_kept f _ c.sync-2.result _ _ end c.sync-2.ensures.answer)

pub returns-clause-answer : goal.returns-clause-answer
returns-clause-answer g c = λ tells h text was.
    let f = c.args.file in
    let mid = subst IsTrue (sym c.sync.ensures.answer.tells) tells in
    let end = subst IsTrue (sym c.write_at.ensures.answer.tells) mid in
    let settled = first_made f h text _ _ (c.in_ok-sync.ensures.answer.does tells) was in
    let opening = second_made f h text _ _ (c.in_ok-write_at.ensures.answer.does mid) settled in
    third_made f h text _ _ (c.in_ok-sync-2.ensures.answer.does end) opening

pub returns-clause-any_moment : goal.returns-clause-any_moment
returns-clause-any_moment g c = λ tells h text was.
    let f = c.args.file in
    let mid = subst IsTrue (sym c.sync.ensures.answer.tells) tells in
    let end = subst IsTrue (sym c.write_at.ensures.answer.tells) mid in
    let first = first_moments f h text c.sync.result _ _ c.sync.ensures.answer tells (g.met.D.Disk.lawful c.args.disk.now tells) was in
    let settled = first_made f h text _ _ (c.in_ok-sync.ensures.answer.does tells) was in
    let second = opens_twice f h text _ _ _ tells first (second_moments f h text c.write_at.result _ _ c.write_at.ensures.answer mid (g.met.D.Disk.lawful c.sync.new.self mid) settled) in
    let opening = second_made f h text _ _ (c.in_ok-write_at.ensures.answer.does mid) settled in
    opens_twice f h text _ _ _ tells second (third_moments f h text c.sync-2.result _ _ c.sync-2.ensures.answer end (g.met.D.Disk.lawful c.write_at.new.self end) opening)

pub returns-clause-others : goal.returns-clause-others
returns-clause-others g c = λ tells.
    let f = c.args.file in
    let mid = subst IsTrue (sym c.sync.ensures.answer.tells) tells in
    let end = subst IsTrue (sym c.write_at.ensures.answer.tells) mid in
    only_twice f _ _ _ (only_twice f _ _ _ (others_kept f _ c.sync.result _ _ tells c.sync.ensures.answer) (others_kept f _ c.write_at.result _ _ mid c.write_at.ensures.answer)) (others_kept f _ c.sync-2.result _ _ end c.sync-2.ensures.answer)
