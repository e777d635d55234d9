-- Code, memory and pages that fit one another still do after a step.
use Rattle.std.proofs.Common.{◌≡◌, ℕ, List, length, sym, ◌∙◌, subst}
use Rattle.dirty_pages.specs.Pages.{PageStates}
use Rattle.machine_code.specs.CodeView.{CodeView}
use Rattle.machine_code.specs.Memory.{FitsMemory}
use Rattle.paged_machine.specs.Fitting.{FitTogether}

pub after_step : (c : CodeView) (m n : List ℕ) (pages : PageStates) → length n ≡ length m → FitTogether c m pages → FitTogether c n pages
after_step c m n pages e fit = record { same = e ∙ fit.same; few = fit.few; cells = subst (FitsMemory c) (sym e) fit.cells }
