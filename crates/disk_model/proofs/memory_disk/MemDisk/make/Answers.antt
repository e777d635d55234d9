use Rattle.std.proofs.Common.{sym, ◌∙◌, ap, subst, ◌≡◌, List, None, IsTrue, Option, ℕ}
use Rattle.disk_model.specs.declared.disk_file.DiskFile.{DiskFile}
use Rattle.disk_model.specs.MemoryFile.{IsTaken}
use Rattle.disk_model.specs.MemoryLog.{change_of}
use Rattle.disk_model.specs.MemoryDisk.{Files, MemoryDisk, IsSound, HasRoomFor, state_of, apply, empty_files}
use Rattle.disk_model.proofs.DiskLaws.{all_kept, replayed_next, kept_events}
use Rattle.disk_model.proofs.memory_disk.MemDisk.make.Goals as goal

pub invariant_of-self : goal.invariant_of-self
invariant_of-self c =
    let d = c.self.inside in
    let change = change_of c.args.kind c.args.at c.args.bytes.now in
    let m : MemoryDisk = record { files = d.files; first = empty_files d.output_room d.image_room; pending = d.pending; keeps = d.keeps; events = d.log.events; log_left = d.log.left; faults = d.faults; calls = d.calls; failing = d.failing.items; fuse = d.fuse; blown = d.blown } in
    let taken : IsTaken change (state_of c.args.file d.files) = subst (λ (x : MemoryDisk). IsTaken change (state_of c.args.file x.files)) (sym c.self.view_is) c.requires.taken in
    let none : d.pending ≡ None = ap (λ (x : MemoryDisk). x.pending) c.self.view_is ∙ c.requires.none in
    let kept = λ (keeps : IsTrue d.keeps). c.keep.ensures.events ∙ kept_events d.keeps _ _ keeps in
    subst (λ (x : Files). IsSound (record m { files = x; events = c.keep.new.log.events; log_left = c.keep.new.log.left })) (sym c.change.ensures.exact) (record {
      are_files = all_kept c.args.file change d.files c.self.invariant.are_files taken;
      replayed = replayed_next m c.args.file change d.faults c.keep.new.log.events c.self.invariant.are_files c.self.invariant.replayed taken kept;
      pending = λ _. none;
      start_fits = subst (λ (p : Option (DiskFile × List ℕ)). HasRoomFor p (apply (c.args.file, change) d.files)) (sym none) tt;
    })
