use Rattle.std.proofs.Common.{length, refl, arith}
use Rattle.std.proofs.lemmas.Option.{slice_get_read}
use Rattle.flow_graph.specs.Made.{graphs_in}
use Rattle.code_maker.proofs.Making.{function_code_kept, function_row_kept}
use Rattle.code_maker.proofs.maker.emit_functions.Goals as goal

pub functions-preserved : goal.functions-preserved
functions-preserved c =
    let gs = graphs_in c.args.graphs.now in
    let fs = c.args.functions.now in let m = c.functions.f in let f = c.index-functions-f.result in
    let code = c.functions.code.items in let new = c.emit_function.new.code.items in
    let here = slice_get_read fs (length fs) m f refl (omega arith) c.index-functions-f.is in
    record {
      code = function_code_kept gs fs m f c.requires.graphs here code new c.in_ok-emit_function.ensures.code _ c.functions.invariant.code;
      table = function_row_kept gs fs m f c.requires.graphs here code new c.in_ok-emit_function.ensures.code c.functions.table.items c.push.new.items.items _ c.in_ok-emit_function.field-0 c.functions.invariant.table c.in_ok-emit_function.ensures.row c.in_ok-push.ensures.added;
    }
