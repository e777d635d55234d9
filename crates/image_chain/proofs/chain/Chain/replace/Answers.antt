use Rattle.std.proofs.Common.{◌∙◌, ap, subst, sym, ◌≤◌, IsTrue, List, [], ℕ}
use Rattle.image_chain.specs.ChainView.{ChainView}
use Rattle.image_chain.specs.Append.{IsAtRest}
use Rattle.image_chain.proofs.ReplaceLaws.{kept_replaced, replaced_twice, stands}
use Rattle.disk_model.specs.declared.disk_file.DiskFile.TheVariants.{Output}
use Rattle.disk_model.proofs.Calls.{stays_twice}
use Rattle.image_chain.proofs.chain.Chain.replace.Goals as goal

pub write_other-requires-clause-rests : goal.write_other-requires-clause-rests
write_other-requires-clause-rests g c = λ tells.
    let s = c.requires.rests tells in
    (s.0, subst (λ (v : ChainView). (behind : List ℕ) × IsAtRest v.current (g.D.Disk.view c.args.disk.now) s.0 behind) (sym c.self.view_is) s.1.1)

pub returns-in_err-write_other-clause-any_moment : goal.returns-in_err-write_other-clause-any_moment
returns-in_err-write_other-clause-any_moment g c = rw (← c.self.view_is) (λ tells rs r spells rests.
    let chain = c.self.inside.current in
    let kept = c.write_other.ensures.any_moment tells rs rests.1.0 rests.1.1 in
    kept_replaced chain rs r _ _ kept)

pub open_other-requires-clause-stands : goal.open_other-requires-clause-stands
open_other-requires-clause-stands g c = λ mid.
    let tells = subst IsTrue c.write_other.ensures.steady.tells mid in
    let s = c.requires.rests tells in
    (s.0, c.in_ok-write_other.ensures.answer tells s.0 s.1.1.0 (subst (λ (v : ChainView). IsAtRest v.current (g.D.Disk.view c.args.disk.now) s.0 s.1.1.0) (sym c.self.view_is) s.1.1.1))

pub returns-in_err-open_other-clause-any_moment : goal.returns-in_err-open_other-clause-any_moment
returns-in_err-open_other-clause-any_moment g c = rw (← c.self.view_is) (λ tells rs r spells rests.
    let mid = subst IsTrue (sym c.write_other.ensures.steady.tells) tells in
    let chain = c.self.inside.current in
    let kept = c.write_other.ensures.any_moment tells rs rests.1.0 rests.1.1 in
    let first = kept_replaced chain rs r _ _ kept in
    let whole = c.in_ok-write_other.ensures.answer tells rs rests.1.0 rests.1.1 in
    replaced_twice chain rs r _ _ _ tells first (c.open_other.ensures.any_moment mid rs r spells whole))

pub returns-in_err-sync_other-clause-any_moment : goal.returns-in_err-sync_other-clause-any_moment
returns-in_err-sync_other-clause-any_moment g c = rw (← c.self.view_is) (λ tells rs r spells rests.
    let mid = subst IsTrue (sym c.write_other.ensures.steady.tells) tells in
    let chain = c.self.inside.current in
    let kept = c.write_other.ensures.any_moment tells rs rests.1.0 rests.1.1 in
    let first = kept_replaced chain rs r _ _ kept in
    let whole = c.in_ok-write_other.ensures.answer tells rs rests.1.0 rests.1.1 in
    let second = replaced_twice chain rs r _ _ _ tells first (c.open_other.ensures.any_moment mid rs r spells whole) in
    let end = subst IsTrue (sym c.open_other.ensures.steady.tells) mid in
    let opening = c.in_ok-open_other.ensures.answer mid rs whole in
    replaced_twice chain rs r _ _ _ tells second (c.sync_other.ensures.any_moment end rs r spells opening))

pub returns-clause-answer : goal.returns-clause-answer
returns-clause-answer g c = rw (← c.self.view_is) (λ tells rs r spells rests.
    let mid = subst IsTrue (sym c.write_other.ensures.steady.tells) tells in
    let whole = c.in_ok-write_other.ensures.answer tells rs rests.1.0 rests.1.1 in
    let end = subst IsTrue (sym c.open_other.ensures.steady.tells) mid in
    let opening = c.in_ok-open_other.ensures.answer mid rs whole in
    let o = c.stand_on_other.ensures in
    (rests.0, ([], stands c.self.inside.current c.stand_on_other.new.chain _ rs r c.args.image.now (c.in_ok-sync_other.ensures.answer end rs opening) spells (subst (λ (v : ChainView). 2 ≤ v.current.count) (sym c.self.view_is) c.requires.records) (ap (λ (v : ChainView). v.current.newest) c.self.view_is ∙ c.requires.newest r spells) o.stands o.gate o.newest_at o.spans)))

pub returns-clause-any_moment : goal.returns-clause-any_moment
returns-clause-any_moment g c = rw (← c.self.view_is) (λ tells rs r spells rests.
    let mid = subst IsTrue (sym c.write_other.ensures.steady.tells) tells in
    let chain = c.self.inside.current in
    let kept = c.write_other.ensures.any_moment tells rs rests.1.0 rests.1.1 in
    let first = kept_replaced chain rs r _ _ kept in
    let whole = c.in_ok-write_other.ensures.answer tells rs rests.1.0 rests.1.1 in
    let second = replaced_twice chain rs r _ _ _ tells first (c.open_other.ensures.any_moment mid rs r spells whole) in
    let end = subst IsTrue (sym c.open_other.ensures.steady.tells) mid in
    let opening = c.in_ok-open_other.ensures.answer mid rs whole in
    replaced_twice chain rs r _ _ _ tells second (c.sync_other.ensures.any_moment end rs r spells opening))

pub returns-in_err-open_other-clause-output : goal.returns-in_err-open_other-clause-output
returns-in_err-open_other-clause-output g c = λ tells.
    let t1 = subst IsTrue (sym c.write_other.ensures.steady.tells) tells in
    stays_twice Output _ _ _ (c.write_other.ensures.output tells) (c.open_other.ensures.output t1)

pub returns-in_err-sync_other-clause-output : goal.returns-in_err-sync_other-clause-output
returns-in_err-sync_other-clause-output g c = λ tells.
    let t1 = subst IsTrue (sym c.write_other.ensures.steady.tells) tells in
    let t2 = subst IsTrue (sym c.open_other.ensures.steady.tells) t1 in
    stays_twice Output _ _ _ (stays_twice Output _ _ _ (c.write_other.ensures.output tells) (c.open_other.ensures.output t1)) (c.sync_other.ensures.output t2)

pub returns-clause-output : goal.returns-clause-output
returns-clause-output g c = λ tells.
    let t1 = subst IsTrue (sym c.write_other.ensures.steady.tells) tells in
    let t2 = subst IsTrue (sym c.open_other.ensures.steady.tells) t1 in
    stays_twice Output _ _ _ (stays_twice Output _ _ _ (c.write_other.ensures.output tells) (c.open_other.ensures.output t1)) (c.sync_other.ensures.output t2)
