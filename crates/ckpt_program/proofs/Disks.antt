-- What commands keep of a disk.
use Rattle.std.proofs.Common.{◌≡◌, ◌<◌, ◌-◌, ◌^◌, inl, inr, ⊎_elim, refl, sym, subst, ℕ, IsTrue, Result, Ok, Err, arith}
use Rattle.ckpt_base.specs.Faults.{Rose}
use Rattle.disk_model.specs.Store.{Store}
use Rattle.disk_model.specs.View.{View, IsDisk}
use Rattle.disk_model.specs.Moments.{LeavesOnly}
use Rattle.disk_model.specs.Keeps.{LeavesNow}
use Rattle.disk_model.proofs.Calls.{still}
use Rattle.ckpt_program.specs.DiskStages.{CalmDisk, OnlyLasting, Stays}
use Rattle.ckpt_program.specs.Sight.{Sight, Calm, Later}
use Rattle.ckpt_program.specs.Texts.{status_of}
use Rattle.ckpt_program.specs.Told.{HasFixedLine}
use Rattle.ckpt_program.specs.Top.{Blames}
use Rattle.ckpt_program.specs.declared.done.Done.{Done}
use Rattle.ckpt_program.specs.declared.stop.Cause.TheVariants as cause
use Rattle.ckpt_program.specs.declared.stop.Stop.{Stop}
use Rattle.ckpt_program.specs.declared.stop.Stop.TheVariants.{NoMemory, Because}

-- a disk that was not used
pub stays_still : (v : View) → (IsTrue v.tells → IsDisk v) → Stays v v
stays_still v lawful = record {
  steady = record { tells = refl; tells_past = refl; faults = omega arith };
  same = λ t. refl;
  any_moment = λ t. still v v.may_leave lawful (λ _. t) (λ _ c left. left);
}

-- what every crash leaves at entry, it leaves at each moment
pub stays_moments : (v w : View) (P : Store → Type 0) → (IsTrue v.tells_past → IsTrue v.tells) → Stays v w → LeavesNow P v → LeavesOnly v w P
stays_moments v w P both stays here = record {
  tells = stays.steady.tells;
  tells_past = stays.steady.tells_past;
  now = λ t c left. here t c ((stays.any_moment t).now t c left);
  later = λ p. (stays.any_moment (both p)).later p;
  each = λ p c left. here (both p) c ((stays.any_moment (both p)).each p c left);
  before = λ p t c le left. ⊎_elim (λ was. inl was) (λ now. inr (here (both p) c now)) ((stays.any_moment (both p)).before p t c le left);
}

pub stays_lasting : (v w : View) → Stays v w → OnlyLasting v w
stays_lasting v w stays = record { tells = stays.steady.tells; seen = stays.same; crash = λ t c left. (stays.any_moment t).now t c left }

not_risen : (old new : ℕ) → new ≡ old → Rose old new → old < 2 ^ 64 - 1 → ⊥
not_risen old new same rose below = omega (arith, same, rose, below)

-- a count that rose is told as a fault of the disk
pub blamed_disk : (came : Result Done Stop) (old new result : ℕ) → CalmDisk came old new → (HasFixedLine came → result ≡ status_of came) → Blames 5 old new result
blamed_disk (Ok d) old new result calm told = λ rose below. absurd (not_risen old new calm rose below)
blamed_disk (Err NoMemory) old new result calm told = λ rose below. absurd (not_risen old new calm rose below)
blamed_disk (Err (Because cause.DiskFault)) old new result calm told = λ rose below. told refl
blamed_disk (Err (Because cause.Usage)) old new result calm told = λ rose below. absurd (not_risen old new calm rose below)
blamed_disk (Err (Because cause.ShelfFault)) old new result calm told = λ rose below. absurd (not_risen old new calm rose below)
blamed_disk (Err (Because (cause.Refused r))) old new result calm told = λ rose below. absurd (not_risen old new calm rose below)
blamed_disk (Err (Because (cause.TooLarge d))) old new result calm told = λ rose below. absurd (not_risen old new calm rose below)
blamed_disk (Err (Because (cause.Damaged file place))) old new result calm told = λ rose below. absurd (not_risen old new calm rose below)
blamed_disk (Err (Because (cause.Occupied image step))) old new result calm told = λ rose below. absurd (not_risen old new calm rose below)
blamed_disk (Err (Because (cause.OtherSource kept given))) old new result calm told = λ rose below. absurd (not_risen old new calm rose below)
blamed_disk (Err (Because (cause.OtherInput kept given))) old new result calm told = λ rose below. absurd (not_risen old new calm rose below)
blamed_disk (Err (Because (cause.Behind bound step))) old new result calm told = λ rose below. absurd (not_risen old new calm rose below)
blamed_disk (Err (Because (cause.NotAnExclude k))) old new result calm told = λ rose below. absurd (not_risen old new calm rose below)
blamed_disk (Err (Because (cause.NotACell c))) old new result calm told = λ rose below. absurd (not_risen old new calm rose below)

-- ---- calls that do not use the disk, or the shelf

pub calm_disk_still : {A : Type 0} (r : Result A Stop) (n : ℕ) → CalmDisk r n n
calm_disk_still (Ok x) n = refl
calm_disk_still (Err NoMemory) n = refl
calm_disk_still (Err (Because cause.Usage)) n = refl
calm_disk_still (Err (Because (cause.Refused r))) n = refl
calm_disk_still (Err (Because cause.DiskFault)) n = omega arith
calm_disk_still (Err (Because cause.ShelfFault)) n = refl
calm_disk_still (Err (Because (cause.TooLarge d))) n = refl
calm_disk_still (Err (Because (cause.Damaged file place))) n = refl
calm_disk_still (Err (Because (cause.Occupied image step))) n = refl
calm_disk_still (Err (Because (cause.OtherSource kept given))) n = refl
calm_disk_still (Err (Because (cause.OtherInput kept given))) n = refl
calm_disk_still (Err (Because (cause.Behind bound step))) n = refl
calm_disk_still (Err (Because (cause.NotAnExclude k))) n = refl
calm_disk_still (Err (Because (cause.NotACell c))) n = refl

pub calm_still : {A : Type 0} (r : Result A Stop) (s : Sight) → Calm r s s
calm_still (Ok x) s = refl
calm_still (Err NoMemory) s = refl
calm_still (Err (Because cause.Usage)) s = refl
calm_still (Err (Because (cause.Refused r))) s = refl
calm_still (Err (Because cause.DiskFault)) s = refl
calm_still (Err (Because cause.ShelfFault)) s = record { tells = refl; files = refl; faults = omega arith }
calm_still (Err (Because (cause.TooLarge d))) s = refl
calm_still (Err (Because (cause.Damaged file place))) s = refl
calm_still (Err (Because (cause.Occupied image step))) s = refl
calm_still (Err (Because (cause.OtherSource kept given))) s = refl
calm_still (Err (Because (cause.OtherInput kept given))) s = refl
calm_still (Err (Because (cause.Behind bound step))) s = refl
calm_still (Err (Because (cause.NotAnExclude k))) s = refl
calm_still (Err (Because (cause.NotACell c))) s = refl

later_from : (u v : Sight) → v ≡ u → Later u v
later_from u v is = subst (λ (w : Sight). Later u w) (sym is) (record { tells = refl; files = refl; faults = omega arith })

pub calm_later : {A : Type 0} (r : Result A Stop) (u v : Sight) → Calm r u v → Later u v
calm_later (Ok x) u v calm = later_from u v calm
calm_later (Err NoMemory) u v calm = later_from u v calm
calm_later (Err (Because cause.Usage)) u v calm = later_from u v calm
calm_later (Err (Because (cause.Refused r))) u v calm = later_from u v calm
calm_later (Err (Because cause.DiskFault)) u v calm = later_from u v calm
calm_later (Err (Because cause.ShelfFault)) u v calm = calm
calm_later (Err (Because (cause.TooLarge d))) u v calm = later_from u v calm
calm_later (Err (Because (cause.Damaged file place))) u v calm = later_from u v calm
calm_later (Err (Because (cause.Occupied image step))) u v calm = later_from u v calm
calm_later (Err (Because (cause.OtherSource kept given))) u v calm = later_from u v calm
calm_later (Err (Because (cause.OtherInput kept given))) u v calm = later_from u v calm
calm_later (Err (Because (cause.Behind bound step))) u v calm = later_from u v calm
calm_later (Err (Because (cause.NotAnExclude k))) u v calm = later_from u v calm
calm_later (Err (Because (cause.NotACell c))) u v calm = later_from u v calm
