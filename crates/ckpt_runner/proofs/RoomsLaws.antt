-- What a life runs over before it begins or is resumed.
use Rattle.std.proofs.Common.{◌≡◌, sym, ◌∙◌, ap, subst, ℕ, ◌+◌, ◌-◌, ◌*◌, ◌/◌, ◌≤◌, true, List, length, replicate, arith}
use Rattle.std.proofs.lemmas.List.{length-replicate}
use Rattle.std.proofs.lemmas.List.Elements.{All-weaker}
use Rattle.ckpt_base.specs.Pointer.{first_cell, object_length}
use Rattle.dirty_pages.specs.Pages.{PageStates, fresh}
use Rattle.machine_code.specs.declared.instr.Instr.{Instr}
use Rattle.machine_code.specs.declared.instr.Instr.TheVariants.{Tick, Num, Addr, LoadC, StoreC, LoadL, StoreL, Move, Back, Fetch, Put, Add, Sub, Mul, Div, Rem, Shl, Shr, And, Or, Xor, Neg, Not, Inv, Test, Eq, Ne, Lt, Le, Gt, Ge, Jump, JumpZ, Call, Ret, Drop, OutC, OutB, OutN, In, Ckpt, Excl}
use Rattle.machine_code.specs.CodeView.{CodeView}
use Rattle.machine_code.specs.Memory.{CellWithin, FitsMemory}
use Rattle.paged_machine.specs.Fitting.{FitTogether}

-- what fits a memory fits a greater one
cell_fits : (n m : ℕ) → n ≤ m → (i : Instr) → CellWithin n i → CellWithin m i
cell_fits n m le Tick h = tt
cell_fits n m le (Num v) h = tt
cell_fits n m le (Addr v) h = tt
cell_fits n m le (LoadC cell) h = omega (arith, le, h)
cell_fits n m le (StoreC cell) h = omega (arith, le, h)
cell_fits n m le (LoadL v) h = tt
cell_fits n m le (StoreL v) h = tt
cell_fits n m le Move h = tt
cell_fits n m le Back h = tt
cell_fits n m le Fetch h = tt
cell_fits n m le Put h = tt
cell_fits n m le Add h = tt
cell_fits n m le Sub h = tt
cell_fits n m le Mul h = tt
cell_fits n m le Div h = tt
cell_fits n m le Rem h = tt
cell_fits n m le Shl h = tt
cell_fits n m le Shr h = tt
cell_fits n m le And h = tt
cell_fits n m le Or h = tt
cell_fits n m le Xor h = tt
cell_fits n m le Neg h = tt
cell_fits n m le Not h = tt
cell_fits n m le Inv h = tt
cell_fits n m le Test h = tt
cell_fits n m le Eq h = tt
cell_fits n m le Ne h = tt
cell_fits n m le Lt h = tt
cell_fits n m le Le h = tt
cell_fits n m le Gt h = tt
cell_fits n m le Ge h = tt
cell_fits n m le (Jump v) h = tt
cell_fits n m le (JumpZ v) h = tt
cell_fits n m le (Call v) h = tt
cell_fits n m le Ret h = tt
cell_fits n m le Drop h = tt
cell_fits n m le OutC h = tt
cell_fits n m le (OutB v) h = tt
cell_fits n m le (OutN v) h = tt
cell_fits n m le In h = tt
cell_fits n m le (Ckpt v) h = tt
cell_fits n m le (Excl v) h = tt

more_fits : (c : CodeView) (n m : ℕ) → n ≤ m → FitsMemory c n → FitsMemory c m
more_fits c n m le fits = record {
  cells = All-weaker (CellWithin n) (CellWithin m) (cell_fits n m le) c.instrs fits.cells;
  objects = All-weaker (λ o. first_cell o + object_length o ≤ n) (λ o. first_cell o + object_length o ≤ m) (λ o h. omega (arith, le, h)) c.objects fits.objects;
}

-- new pages for at most 262,144 cells
pub new_fit : (c : CodeView) (cells count word : ℕ) (frames : List ℕ) (pages : PageStates) → FitsMemory c cells → cells ≤ 512 * count → count ≤ 8388608 → frames ≡ replicate (512 * count) word → pages ≡ fresh count → FitTogether c frames pages
new_fit c cells count word frames pages fits room few frames_are pages_are =
    let size : length frames ≡ 512 * count = ap length frames_are ∙ length-replicate (512 * count) word in
    let flags : length pages.dirty ≡ count = ap (λ (s : PageStates). length s.dirty) pages_are ∙ length-replicate count true in
    record {
      same = omega (arith, size, flags);
      few = omega (arith, flags, few);
      cells = subst (FitsMemory c) (sym size) (more_fits c cells (512 * count) room fits);
    }

pub pages_of : (n : ℕ) → n ≤ 512 * ((n + 512 - 1) / 512)
pages_of n = omega arith

pub few_pages : (n : ℕ) → n ≤ 262144 → (n + 512 - 1) / 512 ≤ 8388608
few_pages n le = omega (arith, le)
