-- What the solver keeps true.
use Rattle.std.specs.Prelude.{ℕ, ◌+◌, ◌*◌, ◌<◌, ◌≤◌, ◌≡◌, Bool, true, false, ◌||◌, ◌&&◌, not, ◌==◌, List, [], length, ◌⊎◌, slice_index_or, sum_by, cond, zero, suc}
use Rattle.std.specs.List.{list_any}
use Rattle.cell_sets.specs.Sets.{Cells, has}
use Rattle.path_laws.specs.Reaching.{Reaches, in_row, AllWide}

-- whether the node is in the list
abbrev pub listed : List ℕ → ℕ → Bool
listed list k = list_any (λ x. x == k) list

-- the list of the nodes before node m
abbrev pub before_of : List (List ℕ) → ℕ → List ℕ
before_of lists m = slice_index_or lists m []

-- how many numbers below n fail the test
abbrev pub count_false : (ℕ → Bool) → ℕ → ℕ
count_false p zero = 0
count_false p (suc n) = count_false p n + cond (p n) 0 1

-- how many numbers the rows do not have, over all rows
abbrev pub missing : ℕ → List Cells → ℕ
missing width rows = sum_by (λ r. count_false (has r) width) rows

-- the edges into m that are still to be looked at: those from the nodes that are left
abbrev pub IsLeft : ℕ → List ℕ → ℕ → ℕ → Type 0
IsLeft m left k p = (p ≡ m) × (listed left k ≡ true)

abbrev pub Never : ℕ → ℕ → Type 0
Never k p = ⊥

-- each number of a row has a walk; and each edge is served, or its end is in the list of work, or the edge is left over
pub record IsPartial (edge : ℕ → ℕ → Bool) (goals stops rows : List Cells) (work : List ℕ) (Left : ℕ → ℕ → Type 0) : Type 0 where
  pub rows_len : length rows ≡ length goals
  pub sound : (n c : ℕ) → in_row rows n c ≡ true → Reaches edge (λ k. in_row goals k c) (λ k. in_row stops k c) n
  pub goals_in : (n c : ℕ) → in_row goals n c ≡ true → in_row rows n c ≡ true
  pub served : (k p c : ℕ) → edge k p ≡ true → in_row rows p c ≡ true → in_row stops k c ≡ false → (listed work p ≡ true) ⊎ ((in_row rows k c ≡ true) ⊎ Left k p)
  pub work_in : (k : ℕ) → listed work k ≡ true → k < length goals

-- row n takes from row m what its stop has not, and n goes into the list of work where that was anything new
pub record IsStep (stops : List Cells) (n m width : ℕ) (rows : List Cells) (work : List ℕ) (rows' : List Cells) (work' : List ℕ) : Type 0 where
  pub rows_len : length rows' ≡ length rows
  pub wide : AllWide width rows'
  pub grown : (k c : ℕ) → in_row rows' k c ≡ (in_row rows k c || (k == n && (in_row rows m c && not (in_row stops n c))))
  pub noted : (k c : ℕ) → in_row rows k c ≡ false → in_row rows' k c ≡ true → listed work' k ≡ true
  pub kept : (k : ℕ) → listed work k ≡ true → listed work' k ≡ true
  pub work_in : (k : ℕ) → listed work' k ≡ true → (listed work k ≡ true) ⊎ (k ≡ n)
  pub falls : 2 * missing width rows' + length work' ≤ 2 * missing width rows + length work
