use Rattle.std.proofs.Common.{◌∙◌, sym, subst, IsTrue}
use Rattle.disk_model.specs.Store.{Store}
use Rattle.disk_model.specs.declared.disk_file.DiskFile.TheVariants.{Output, One}
use Rattle.disk_model.proofs.Calls.{others_stay}
use Rattle.parity_store.specs.OnDisk.{IsFoundIn}
use Rattle.parity_store.proofs.StoreLaws.{one_image}
use Rattle.parity_store.proofs.StandsLaws.{opened_all, synced_files, synced_output, looked_output}
use Rattle.parity_store.proofs.pool.Pool.open.Goals as goal

pub returns-clause-answer : goal.returns-clause-answer
returns-clause-answer g c = λ tells.
    let first = c.in_ok-sync.ensures in
    let mid = subst IsTrue (sym first.answer.tells) tells in
    let second = c.in_ok-sync-2.ensures in
    let end = subst IsTrue (sym second.answer.tells) mid in
    let seen1 = (first.only tells).seen in
    let seen2 = (second.only mid).seen ∙ seen1 in
    let looked = c.read_store.ensures.looked in
    let from = subst (λ (s : Store). IsFoundIn c.in_ok-found.found s) seen2 (c.in_ok-found.ensures.answer end) in
    opened_all c.in_ok-found.found _ _ from (looked.seen end ∙ seen2) (λ s left. synced_files _ _ _ (first.answer.does tells) (second.answer.does mid) seen1 s ((looked.crash end s).0 left))

pub returns-in_err-sync-clause-output : goal.returns-in_err-sync-clause-output
returns-in_err-sync-clause-output g c = λ tells. others_stay One Output _ c.sync.result _ _ one_image tells c.sync.ensures.answer

pub returns-in_err-sync-2-clause-output : goal.returns-in_err-sync-2-clause-output
returns-in_err-sync-2-clause-output g c = λ tells. synced_output _ _ _ c.sync.result c.sync-2.result tells c.sync.ensures.answer c.sync-2.ensures.answer

pub returns-in_err-found-clause-output : goal.returns-in_err-found-clause-output
returns-in_err-found-clause-output g c = λ tells.
    let end = subst IsTrue (sym (c.sync-2.ensures.answer.tells ∙ c.sync.ensures.answer.tells)) tells in
    looked_output _ _ _ end (synced_output _ _ _ c.sync.result c.sync-2.result tells c.sync.ensures.answer c.sync-2.ensures.answer) c.read_store.ensures.looked

pub returns-clause-output : goal.returns-clause-output
returns-clause-output g c = λ tells.
    let end = subst IsTrue (sym (c.sync-2.ensures.answer.tells ∙ c.sync.ensures.answer.tells)) tells in
    looked_output _ _ _ end (synced_output _ _ _ c.sync.result c.sync-2.result tells c.sync.ensures.answer c.sync-2.ensures.answer) c.read_store.ensures.looked
