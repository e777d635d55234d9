use Rattle.std.proofs.Common.{rules, ◌≤◌, sym, subst, ◌≡◌, true, false, Ok, Err}
use Rattle.ckpt_base.specs.Faults.{counted}
use Rattle.disk_model.specs.View.{Changes}
use Rattle.disk_model.specs.MemoryLog.{change_of}
use Rattle.disk_model.specs.MemoryDisk.{MemoryDisk, IsSound, view_of, change_fails, after_change, after_change_call}
use Rattle.disk_model.proofs.DiskLaws.{changes_law, refused_law}
use Rattle.disk_model.proofs.memory_disk.MemDisk.run.Goals as goal

pub returns-then-refused-clause-answer : goal.returns-then-refused-clause-answer
returns-then-refused-clause-answer c =
    let m = c.args.self.now in
    let change = change_of c.args.kind c.args.at c.args.bytes.now in
    let rises : m.faults ≤ counted m.faults = search rules in
    let state : c.count_change.new.self ≡ after_change_call true m = search rules in
    subst (λ (x : MemoryDisk). Changes c.args.file change (Err (record {})) (view_of m) (view_of x)) (sym state) (refused_law m c.args.file change (record {}) rises)

pub returns-then-acts-clause-answer : goal.returns-then-acts-clause-answer
returns-then-acts-clause-answer c =
    let m = c.args.self.now in
    let change = change_of c.args.kind c.args.at c.args.bytes.now in
    let rises : m.faults ≤ counted m.faults = search rules in
    let state : c.leave_pending.new.self ≡ after_change c.args.file change m = search rules in
    let fails : change_fails m c.args.file change ≡ true = search rules in
    subst (λ (x : MemoryDisk). Changes c.args.file change (Err (record {})) (view_of m) (view_of x)) (sym state) (changes_law m c.args.file change _ (subst IsSound c.self.view_is c.self.invariant) rises c.requires.within fails)

pub returns-clause-answer : goal.returns-clause-answer
returns-clause-answer c =
    let m = c.args.self.now in
    let change = change_of c.args.kind c.args.at c.args.bytes.now in
    let rises : m.faults ≤ counted m.faults = search rules in
    let state : c.make.new.self ≡ after_change c.args.file change m = search rules in
    let fails : change_fails m c.args.file change ≡ false = search rules in
    subst (λ (x : MemoryDisk). Changes c.args.file change (Ok tt) (view_of m) (view_of x)) (sym state) (changes_law m c.args.file change _ (subst IsSound c.self.view_is c.self.invariant) rises c.requires.within fails)
