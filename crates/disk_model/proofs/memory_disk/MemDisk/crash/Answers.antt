use Rattle.std.proofs.Common.{refl, sym, ◌∙◌, ◌≡◌, ap, subst, false, true}
use Rattle.disk_model.specs.MemoryDisk.{Files, MemoryDisk, AreFiles, bytes_of, reads_of, may_leave_now, empty_files, crashed_files, started}
use Rattle.disk_model.proofs.DiskLaws.{crash_left, crash_sound}
use Rattle.disk_model.proofs.memory_disk.MemDisk.crash.Goals as goal

pub invariant_of-self : goal.invariant_of-self
invariant_of-self c =
    let d = c.self.inside in
    let files : c.crash.new.self ≡ crashed_files c.args.pick (started c.args.pick d.pending d.files) = c.crash.ensures.exact ∙ ap (crashed_files c.args.pick) c.finish_start.ensures.exact in
    record {
      are_files = subst AreFiles (sym files) (crash_sound c.args.pick d.pending d.files c.self.invariant.start_fits c.self.invariant.are_files);
      replayed = λ keeps. let wrong : false ≡ true = keeps in absurd (cc wrong);
      pending = λ _. refl;
      start_fits = tt;
    }

pub returns-clause-found : goal.returns-clause-found
returns-clause-found c =
    let d = c.self.inside in
    let m : MemoryDisk = record { files = d.files; first = empty_files d.output_room d.image_room; pending = d.pending; keeps = d.keeps; events = d.log.events; log_left = d.log.left; faults = d.faults; calls = d.calls; failing = d.failing.items; fuse = d.fuse; blown = d.blown } in
    let files : c.crash.new.self ≡ crashed_files c.args.pick (started c.args.pick d.pending d.files) = c.crash.ensures.exact ∙ ap (crashed_files c.args.pick) c.finish_start.ensures.exact in
    subst (λ (x : MemoryDisk). may_leave_now (reads_of x) x.files (bytes_of c.crash.new.self)) c.self.view_is
    (subst (λ (x : Files). may_leave_now (reads_of m) m.files (bytes_of x)) (sym files) (crash_left c.args.pick d.pending d.files c.self.invariant.start_fits c.self.invariant.are_files))
