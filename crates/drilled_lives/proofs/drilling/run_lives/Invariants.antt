use Rattle.std.proofs.Common.{drop}
use Rattle.disk_model.specs.MemoryDisk.{view_of}
use Rattle.run_images.specs.Source.{Source}
use Rattle.ckpt_runner.specs.declared.started.Started.TheVariants.{Begun}
use Rattle.ckpt_runner.specs.Arguments.{given_by}
use Rattle.ckpt_runner.specs.Standing.{IsGivenSource}
use Rattle.drilled_lives.specs.Courses.{Fresh}
use Rattle.drilled_lives.specs.Between.{IsSpacedBy, IsBetween}
use Rattle.drilled_lives.proofs.DrillLaws.{IsSoFar}
use Rattle.drilled_lives.proofs.drilling.run_lives.Given as goal

abbrev pub invariant-lives : goal.invariant-lives
invariant-lives l = (s : Source) → IsGivenSource (given_by l.compiled l.marks l.input l.how) s → IsSpacedBy s l.how.every → IsBetween s l.how.every Begun Fresh (view_of l.fn.disk)
    → IsSoFar s l.how.every l.how.until l.stops l.courses.items (drop l.stop-index l.stops) (view_of l.disk)
