-- The code of nodes. A node's segment begins with its one tick, and falls through where the next node follows.
use Rattle.std.specs.Prelude.{ℕ, ◌+◌, ◌-◌, ◌==◌, zero, suc, pos, if◌then◌else◌, List, [], ◌∷◌, ◌++◌, length, slice_index_or, Option, Some, None}
use Rattle.c_tree.specs.declared.tree.PrintPiece.{PrintPiece}
use Rattle.c_tree.specs.declared.tree.PrintPiece.TheVariants as print
use Rattle.c_tree.specs.declared.resolved.RExpr.{RExpr}
use Rattle.c_tree.specs.declared.resolved.RPlace.{RPlace}
use Rattle.c_tree.specs.declared.resolved.RPlace.TheVariants as place
use Rattle.access_summary.specs.Edges.{Edge}
use Rattle.flow_graph.specs.declared.node.NodeWork.{NodeWork}
use Rattle.flow_graph.specs.declared.node.NodeWork.TheVariants as work
use Rattle.flow_graph.specs.Run.{Graph}
use Rattle.machine_code.specs.declared.instr.Instr.{Instr}
use Rattle.machine_code.specs.declared.instr.Instr.TheVariants as instr
use Rattle.code_maker.specs.ExprCode.{Block, both, then_one, expr_block, values_block}

-- stores a value that a block leaves; a pointer comes before the value
abbrev pub set_block : RPlace → Block → Block
set_block (place.Cell c) value p = then_one value (instr.StoreC c) p
set_block (place.Local i) value p = then_one value (instr.StoreL i) p
set_block (place.At e) value p = then_one (both (expr_block e) value) instr.Put p

-- a place in parts: the pointer that it takes, and the instruction that stores a value there
abbrev pub pointer_block : RPlace → Block
pointer_block (place.Cell c) p = []
pointer_block (place.Local i) p = []
pointer_block (place.At e) p = expr_block e p

abbrev pub store_instr : RPlace → Instr
store_instr (place.Cell c) = instr.StoreC c
store_instr (place.Local i) = instr.StoreL i
store_instr (place.At e) = instr.Put

-- what a declaration stores; without a value 0
abbrev pub given_block : Option RExpr → Block
given_block None p = instr.Num (pos 0) ∷ []
given_block (Some e) p = expr_block e p

-- keeps the answer of a call, or of an input, which a checked program stores in a variable alone
abbrev pub keep_answer : Option RPlace → List Instr
keep_answer None = instr.Drop ∷ []
keep_answer (Some (place.Cell c)) = instr.StoreC c ∷ []
keep_answer (Some (place.Local i)) = instr.StoreL i ∷ []
keep_answer (Some (place.At e)) = instr.Drop ∷ []

-- writes the pieces, with n values on top of the operands, of which k are written
abbrev pub piece_code : ℕ → ℕ → List PrintPiece → List Instr
piece_code n k [] = []
piece_code n k (print.Byte b ∷ ps) = instr.OutB b ∷ piece_code n k ps
piece_code n k (print.Number ∷ ps) = instr.OutN (n - 1 - k) ∷ piece_code n (k + 1) ps

abbrev pub drops : ℕ → List Instr
drops zero = []
drops (suc n) = instr.Drop ∷ drops n

-- writes the pieces, and drops the values
abbrev pub print_code : ℕ → List PrintPiece → List Instr
print_code n ps = piece_code n 0 ps ++ drops n

-- from the segment of node m on to a node: nothing where it is the next
abbrev pub go_on : (ℕ → ℕ) → ℕ → Option ℕ → List Instr
go_on start m None = []
go_on start m (Some n) = if n == m + 1 then [] else instr.Jump (start n) ∷ []

-- where the segments begin, told by a list
abbrev pub listed : List ℕ → ℕ → ℕ
listed ps n = slice_index_or ps n 0

abbrev pub start_of : (ℕ → ℕ) → Option ℕ → ℕ
start_of start None = 0
start_of start (Some n) = start n

-- what a node does, behind its tick; `start` tells where the segments of nodes begin
abbrev pub work_block : (ℕ → ℕ) → ℕ → Edge → NodeWork → Block
work_block start m to (work.Declare d e) p = set_block d (given_block e) p ++ go_on start m to.0
work_block start m to (work.Set d e) p = set_block d (expr_block e) p ++ go_on start m to.0
work_block start m to (work.Call d f es) p = values_block es p ++ (instr.Call f ∷ (keep_answer d ++ go_on start m to.0))
work_block start m to (work.Input d) p = instr.In ∷ (keep_answer d ++ go_on start m to.0)
work_block start m to (work.Return e) p = expr_block e p ++ instr.Ret ∷ []
work_block start m to (work.ReturnCall f es) p = values_block es p ++ (instr.Call f ∷ instr.Ret ∷ [])
work_block start m to work.ReturnInput p = instr.In ∷ instr.Ret ∷ []
work_block start m to (work.Put e) p = expr_block e p ++ (instr.OutC ∷ go_on start m to.0)
work_block start m to (work.Print ps es) p = values_block es p ++ (print_code (length es) ps ++ go_on start m to.0)
work_block start m to (work.Test e) p = expr_block e p ++ (instr.JumpZ (start_of start to.1) ∷ go_on start m to.0)
work_block start m to work.Checkpoint p = instr.Ckpt m ∷ go_on start m to.0
work_block start m to (work.Exclude k) p = instr.Excl k ∷ go_on start m to.0
work_block start m to work.End p = instr.Num (pos 0) ∷ instr.Ret ∷ []

-- the segment of node m, which begins at place p: a tick, and what the node does. The end takes no tick
abbrev pub segment : (ℕ → ℕ) → ℕ → Edge → NodeWork → Block
segment start m to work.End p = work_block start m to work.End p
segment start m to w p = instr.Tick ∷ work_block start m to w (p + 1)

-- the segments of the nodes from m on, which begin at place p
abbrev pub segments : (ℕ → ℕ) → ℕ → List Edge → List NodeWork → Block
segments start m (to ∷ tos) (w ∷ ws) p = segment start m to w p ++ segments start (m + 1) tos ws (p + length (segment start m to w p))
segments start m tos ws p = []

-- where each of them begins: their lengths do not depend on where they jump to
abbrev pub places : ℕ → List Edge → List NodeWork → ℕ → List ℕ
places m (to ∷ tos) (w ∷ ws) p = p ∷ places (m + 1) tos ws (p + length (segment (λ n. 0) m to w p))
places m tos ws p = []

-- on to the node at which the function begins
abbrev pub entry_jump : (ℕ → ℕ) → ℕ → List Instr
entry_jump start entry = if entry == 0 then [] else instr.Jump (start entry) ∷ []

-- where the segments of a graph begin whose code begins at place p
abbrev pub starts : Graph → ℕ → List ℕ
starts g p = places 0 g.edges g.works (p + length (entry_jump (λ n. 0) g.entry))

abbrev pub start_in : Graph → ℕ → ℕ → ℕ
start_in g p n = slice_index_or (starts g p) n 0

-- the code of a graph
abbrev pub graph_block : Graph → Block
graph_block g p = entry_jump (start_in g p) g.entry ++ segments (start_in g p) 0 g.edges g.works (p + length (entry_jump (start_in g p) g.entry))
