-- Works that keep the rules of the language.
use Rattle.std.specs.Prelude.{Bool, true, false, Some}
use Rattle.c_tree.specs.Kinds.{World, kind, starts, stores, answers, call_kind, returns, is_number, prints}
use Rattle.flow_graph.specs.declared.node.NodeWork.{NodeWork}
use Rattle.flow_graph.specs.declared.node.NodeWork.TheVariants as work

-- whether what a node does keeps the rules
abbrev pub work_keeps : World → NodeWork → Bool
work_keeps w (work.Declare p e) = starts w p e
work_keeps w (work.Set p e) = stores w p (kind w e)
work_keeps w (work.Call p f es) = answers w p (call_kind w f es)
work_keeps w (work.Input p) = answers w p (Some false)
work_keeps w (work.Return e) = returns w (kind w e)
work_keeps w (work.ReturnCall f es) = returns w (call_kind w f es)
work_keeps w work.ReturnInput = returns w (Some false)
work_keeps w (work.Put e) = is_number w e
work_keeps w (work.Print ps es) = prints w ps es
work_keeps w (work.Test e) = is_number w e
work_keeps w work.Checkpoint = w.is_main
work_keeps w (work.Exclude k) = w.is_main
work_keeps w work.End = true
