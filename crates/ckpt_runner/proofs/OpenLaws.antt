-- What opening a store comes to, behind the calls that have looked at its chain.
use Rattle.std.proofs.Common.{◌≡◌, sym, ◌∙◌, subst, ℕ, [], Result, Ok, Err, IfOk, IfErr, IsTrue}
use Rattle.ckpt_base.specs.Faults.{Rose}
use Rattle.disk_model.specs.Store.{Store}
use Rattle.disk_model.specs.View.{View}
use Rattle.image_chain.specs.declared.fault.ChainFault.{ChainFault}
use Rattle.image_chain.specs.declared.fault.ChainFault.TheVariants as chain
use Rattle.image_chain.specs.Looking.{RoseIfFailed}
use Rattle.run_images.specs.Origin.{Origin}
use Rattle.ckpt_runner.specs.Faults.{of_chain}
use Rattle.ckpt_runner.specs.declared.started.OpenFault.{OpenFault}
use Rattle.ckpt_runner.specs.declared.started.OpenFault.TheVariants.{Memory, Failed, Damaged, Occupied, OtherSource, OtherInput, Behind}
use Rattle.ckpt_runner.specs.LifeView.{LifeView}
use Rattle.ckpt_runner.specs.Lives.{Lives}
use Rattle.ckpt_runner.specs.Keeps.{Kept}
use Rattle.ckpt_runner.specs.Opening.{Given, Opens, LeavesContents, Leaves}

contents_then : (u m v : View) → m.tells ≡ u.tells → LeavesContents u m → LeavesContents m v → LeavesContents u v
contents_then u m v tells a b = record {
  seen = λ told. b.seen (subst IsTrue (sym tells) told) ∙ a.seen told;
  crash = λ told c left. a.crash told c (b.crash (subst IsTrue (sym tells) told) c left);
  faults = b.faults ∙ a.faults;
}

leaves_then : (e : OpenFault) (u m v : View) → m.tells ≡ u.tells → LeavesContents u m → Leaves e m v → Leaves e u v
leaves_then Memory u m v tells a b = contents_then u m v tells a b
leaves_then Failed u m v tells a b = subst (λ (k : ℕ). Rose k v.faults) a.faults b
leaves_then (Damaged file place) u m v tells a b = contents_then u m v tells a b
leaves_then (Occupied image step) u m v tells a b = contents_then u m v tells a b
leaves_then (OtherSource kept given) u m v tells a b = contents_then u m v tells a b
leaves_then (OtherInput kept given) u m v tells a b = contents_then u m v tells a b
leaves_then (Behind bound step) u m v tells a b = contents_then u m v tells a b

-- what a refusal leaves
pub refused_leaves : (u m v : View) (r : Result LifeView OpenFault) → m.tells ≡ u.tells → LeavesContents u m → IfErr r (λ e. Leaves e m v) → IfErr r (λ e. Leaves e u v)
refused_leaves u m v (Ok life) tells a h = tt
refused_leaves u m v (Err e) tells a h = leaves_then e u m v tells a h

-- a chain that is refused by opening it, which only looks
pub chain_leaves : (u m : View) (e : ChainFault) (r : Result LifeView OpenFault) → r ≡ Err (of_chain e) → (IsTrue u.tells → m.seen ≡ u.seen) → (IsTrue u.tells → (c : Store) → m.may_leave c → u.may_leave c) → RoseIfFailed e u.faults m.faults → IfErr r (λ f. Leaves f u m)
chain_leaves u m e r is seen crash rose = subst (λ (x : Result LifeView OpenFault). IfErr x (λ f. Leaves f u m)) (sym is) (by_fault e rose)
  where
    by_fault : (x : ChainFault) → RoseIfFailed x u.faults m.faults → Leaves (of_chain x) u m
    by_fault chain.Failed h = h
    by_fault (chain.Damaged file place) h = record { seen = seen; crash = crash; faults = h }

-- how a life is opened
pub opens_there : (g : Given) (u m v : View) (life : LifeView) → m.tells ≡ u.tells → (IsTrue u.tells → m.seen ≡ u.seen) → (IsTrue m.tells → (o : Origin) × Opens g m.seen life.started o × Lives o [] life × Kept o [] life v)
    → IsTrue u.tells → (o : Origin) × Opens g u.seen life.started o × Lives o [] life × Kept o [] life v
opens_there g u m v life tells seen opens told =
    let a = opens (subst IsTrue (sym tells) told) in
    (a.0, subst (λ (s : Store). Opens g s life.started a.0) (seen told) a.1, a.2, a.3)

pub resumed_opens : (g : Given) (u m v : View) (r : Result LifeView OpenFault) → m.tells ≡ u.tells → (IsTrue u.tells → m.seen ≡ u.seen) → IfOk r (λ life. IsTrue m.tells → (o : Origin) × Opens g m.seen life.started o × Lives o [] life × Kept o [] life v)
    → IfOk r (λ life. IsTrue u.tells → (o : Origin) × Opens g u.seen life.started o × Lives o [] life × Kept o [] life v)
resumed_opens g u m v (Ok life) tells seen h = opens_there g u m v life tells seen h
resumed_opens g u m v (Err e) tells seen h = tt
