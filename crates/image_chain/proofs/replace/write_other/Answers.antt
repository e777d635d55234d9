use Rattle.std.proofs.Common.{subst, sym, IsTrue}
use Rattle.image_chain.proofs.ReplaceLaws.{kept_twice}
use Rattle.disk_model.specs.declared.disk_file.DiskFile.TheVariants.{Output}
use Rattle.disk_model.proofs.Calls.{stays_twice}
use Rattle.image_chain.proofs.replace.write_other.Goals as goal

pub write_pieces-requires : goal.write_pieces-requires
write_pieces-requires g c = record {
  stands = λ mid.
      let tells = subst IsTrue c.start_other.ensures.steady.tells mid in
      let s = c.requires.rests tells in
      (s.0, c.in_ok-start_other.ensures.answer tells s.0 s.1.0 s.1.1);
}

pub returns-in_err-write_pieces-clause-any_moment : goal.returns-in_err-write_pieces-clause-any_moment
returns-in_err-write_pieces-clause-any_moment g c = λ tells rs behind rest.
    let mid = subst IsTrue (sym c.start_other.ensures.steady.tells) tells in
    let first = c.start_other.ensures.any_moment tells rs behind rest in
    let started = c.in_ok-start_other.ensures.answer tells rs behind rest in
    kept_twice c.args.chain.now rs _ _ _ tells first (c.write_pieces.ensures.any_moment mid rs started)

pub returns-in_err-sync_record-clause-any_moment : goal.returns-in_err-sync_record-clause-any_moment
returns-in_err-sync_record-clause-any_moment g c = λ tells rs behind rest.
    let mid = subst IsTrue (sym c.start_other.ensures.steady.tells) tells in
    let end = subst IsTrue (sym c.write_pieces.ensures.steady.tells) mid in
    let first = c.start_other.ensures.any_moment tells rs behind rest in
    let started = c.in_ok-start_other.ensures.answer tells rs behind rest in
    let second = kept_twice c.args.chain.now rs _ _ _ tells first (c.write_pieces.ensures.any_moment mid rs started) in
    kept_twice c.args.chain.now rs _ _ _ tells second (c.sync_record.ensures.any_moment end rs (c.in_ok-write_pieces.ensures.answer mid rs started))

pub returns-clause-answer : goal.returns-clause-answer
returns-clause-answer g c = λ tells rs behind rest.
    let mid = subst IsTrue (sym c.start_other.ensures.steady.tells) tells in
    let end = subst IsTrue (sym c.write_pieces.ensures.steady.tells) mid in
    let started = c.in_ok-start_other.ensures.answer tells rs behind rest in
    c.in_ok-sync_record.ensures.answer end rs (c.in_ok-write_pieces.ensures.answer mid rs started)

pub returns-clause-any_moment : goal.returns-clause-any_moment
returns-clause-any_moment g c = λ tells rs behind rest.
    let mid = subst IsTrue (sym c.start_other.ensures.steady.tells) tells in
    let end = subst IsTrue (sym c.write_pieces.ensures.steady.tells) mid in
    let first = c.start_other.ensures.any_moment tells rs behind rest in
    let started = c.in_ok-start_other.ensures.answer tells rs behind rest in
    let second = kept_twice c.args.chain.now rs _ _ _ tells first (c.write_pieces.ensures.any_moment mid rs started) in
    kept_twice c.args.chain.now rs _ _ _ tells second (c.sync_record.ensures.any_moment end rs (c.in_ok-write_pieces.ensures.answer mid rs started))

pub returns-in_err-write_pieces-clause-output : goal.returns-in_err-write_pieces-clause-output
returns-in_err-write_pieces-clause-output g c = λ tells.
    let t1 = subst IsTrue (sym c.start_other.ensures.steady.tells) tells in
    stays_twice Output _ _ _ (c.start_other.ensures.output tells) (c.write_pieces.ensures.output t1)

pub returns-in_err-sync_record-clause-output : goal.returns-in_err-sync_record-clause-output
returns-in_err-sync_record-clause-output g c = λ tells.
    let t1 = subst IsTrue (sym c.start_other.ensures.steady.tells) tells in
    let t2 = subst IsTrue (sym c.write_pieces.ensures.steady.tells) t1 in
    stays_twice Output _ _ _ (stays_twice Output _ _ _ (c.start_other.ensures.output tells) (c.write_pieces.ensures.output t1)) (c.sync_record.ensures.output t2)

pub returns-clause-output : goal.returns-clause-output
returns-clause-output g c = λ tells.
    let t1 = subst IsTrue (sym c.start_other.ensures.steady.tells) tells in
    let t2 = subst IsTrue (sym c.write_pieces.ensures.steady.tells) t1 in
    stays_twice Output _ _ _ (stays_twice Output _ _ _ (c.start_other.ensures.output tells) (c.write_pieces.ensures.output t1)) (c.sync_record.ensures.output t2)
