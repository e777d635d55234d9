-- Calls on a life of a source, one after another.
use Rattle.std.proofs.Common.{◌≡◌, sym, subst, ℕ, ◌≤◌, IsTrue, List, ◌++◌, length, Option}
use Rattle.ckpt_base.specs.Event.{Event}
use Rattle.dirty_pages.specs.Pages.{PageStates}
use Rattle.disk_model.specs.View.{View, IsDisk}
use Rattle.disk_model.proofs.Calls.{still, joined}
use Rattle.machine_code.specs.declared.event.Event as machine
use Rattle.machine_code.specs.Memory.{FitsMemory}
use Rattle.machine_code.specs.State.{State}
use Rattle.paged_machine.specs.RunOn.{told_by}
use Rattle.run_images.specs.Compiled.{cells_in}
use Rattle.run_images.specs.Later.{IsLater}
use Rattle.run_images.specs.Origin.{Origin}
use Rattle.run_images.specs.Stands.{Stands}
use Rattle.ckpt_runner.specs.LifeView.{LifeView}
use Rattle.ckpt_runner.specs.Lives.{Lives}
use Rattle.ckpt_runner.specs.RunsOver.{RunsOver}
use Rattle.ckpt_runner.specs.Calls.{GoesOn}
use Rattle.ckpt_runner.specs.Standing.{ServesStanding, KeepsStanding, KeepsImages}
use Rattle.ckpt_runner.proofs.OverServed.{over, over_served}
use Rattle.ckpt_runner.proofs.GoodRuns.{run_good}

-- ---- every moment

pub standing_first : (shown : List Event) (a : LifeView) (u : View) → (IsTrue u.tells → IsDisk u) → (IsTrue u.tells_past → IsTrue u.tells) → ServesStanding shown a u u
standing_first shown a u disk all told s o es is of served k = still u (Stands s) disk all (λ _ c left. (k.all c left).stands)

pub images_first : (u : View) → (IsTrue u.tells → IsDisk u) → (IsTrue u.tells_past → IsTrue u.tells) → KeepsImages u u
images_first u disk all told j later = still u (IsLater j) disk all (λ _ c left. later c left)

pub standing_then : (a b : LifeView) (u v w : View) → (IsTrue u.tells_past → IsTrue u.tells) → v.tells ≡ u.tells → ((o : Origin) (es : List Event) → Lives o es a → GoesOn o es a u b v)
    → KeepsStanding a u v → KeepsStanding b v w → KeepsStanding a u w
standing_then a b u v w all tells goes x y told s o es is of lives k =
    let went = goes o es lives in
    joined u v w (Stands s) (Stands s) all (x told s o es is of lives k) (y (subst IsTrue (sym tells) told) s o (es ++ went.more) is of went.lives (went.good told s is of k)) (λ _ c h. h)

pub images_after : (u v w : View) → (IsTrue u.tells_past → IsTrue u.tells) → v.tells ≡ u.tells → KeepsImages u v → KeepsImages v w → KeepsImages u w
images_after u v w all tells x y told j later =
    let first = x told j later in
    joined u v w (IsLater j) (IsLater j) all first (y (subst IsTrue (sym tells) told) j (λ c left. first.now told c left)) (λ _ c h. h)

-- ---- one turn: a run of instructions, and then what its answer shows is served

pub turn_stands : (a : LifeView) (answer : Option machine.Event) (t : State) (n : List ℕ) (pages : PageStates) (u v : View) → FitsMemory a.compiled.code (cells_in a.compiled) → cells_in a.compiled ≤ length a.frames
    → RunsOver a.compiled.code a.machine.state a.frames a.pages answer t n pages → ServesStanding (told_by t.ticks answer) (over a t n pages) u v → KeepsStanding a u v
turn_stands a answer t n pages u v fits few r x told s o es is of lives good =
    x told s o (es ++ r.stores) is of (over_served o es a answer t n pages fits few lives r) (run_good s o es a answer t n pages u fits few lives r good)
