use Rattle.std.proofs.Common.{◌≤◌, sym, subst, [], ◌∷◌}
use Rattle.ckpt_base.specs.Event as run
use Rattle.ckpt_runner.specs.LifeView.{LifeView}
use Rattle.ckpt_runner.specs.Lives.{HasServed}
use Rattle.ckpt_runner.proofs.GivingLaws.{excluded_exact, excluded_lives, executed_sound}
use Rattle.ckpt_runner.proofs.life.Life.exclude.Goals as goal

pub invariant_of-self : goal.invariant_of-self
invariant_of-self c =
    executed_sound _ c.exclude.new.self c.args.directive (excluded_exact c.self.inside.progress c.exclude.new.self c.args.directive c.exclude.ensures.answer)
    (subst (λ (l : LifeView). c.args.directive ≤ l.compiled.directives) (sym c.self.view_is) c.requires.there) c.self.invariant

pub returns-clause-lives : goal.returns-clause-lives
returns-clause-lives c = λ o es h.
    excluded_lives o es _ c.exclude.new.self c.args.directive (excluded_exact c.self.inside.progress c.exclude.new.self c.args.directive c.exclude.ensures.answer)
    (subst (λ (l : LifeView). HasServed o es (run.Excluded c.args.directive ∷ []) l) (sym c.self.view_is) h)
