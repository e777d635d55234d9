use Rattle.flow_graph.proofs.AgreePointers.{in_main_text, in_function_text}
use Rattle.flow_graph.proofs.agreement.pointers_come_from_their_text.Goals as goal

pub returns : goal.returns
returns c = record { main = in_main_text; functions = in_function_text }
