-- What a pointer expression names, the text lets it give.
use Rattle.std.proofs.Common.{◌≡◌, ℕ, true, length, Option, Some, None, Ok, refl}
use Rattle.std.specs.Prelude.{slice_get}
use Rattle.c_tree.specs.declared.resolved.RExpr.{RExpr}
use Rattle.c_tree.specs.declared.resolved.RFunction.{RFunction}
use Rattle.c_tree.specs.declared.resolved.Resolved.{Resolved}
use Rattle.c_tree.specs.Layout.{objects, cell_count}
use Rattle.c_tree.specs.Kinds.{World, kind}
use Rattle.c_tree.specs.Checked.{IsChecked, in_main, in_function}
use Rattle.c_tree.specs.State.{State, value}
use Rattle.alias_sets.specs.Points.{MayGive}
use Rattle.flow_graph.specs.Agreement.{AreAlike, NamesObject, KeepsPointers}
use Rattle.flow_graph.proofs.AgreeValues.{IsWorldOf, world_of_main, world_of_function}
use Rattle.flow_graph.proofs.AgreeStores.{value_comes}

abbrev All : ℕ → Type 0
All c = Unit {0}

of_world : (p : Resolved) (f : Option ℕ) (w : World) (s : State) (e : RExpr) (a o : ℕ) → IsChecked p → IsWorldOf p f w → s.variables.objects ≡ objects p → length s.variables.cells ≡ cell_count p → KeepsPointers p All f s → kind w e ≡ Some true → value e s.variables ≡ Ok a → NamesObject p a o → MayGive p f e o
of_world p f w s e a o h world objects long keep k is names =
    let alike : AreAlike p All s s = record { rest = refl; objects = objects; size = long; same_size = long; words = λ c y. refl } in
    value_comes p h f w world All s s alike keep e true k refl (λ c lt t. tt) a is o names

pub in_main_text : (p : Resolved) (s : State) (e : RExpr) (a o : ℕ) → IsChecked p → s.variables.objects ≡ objects p → length s.variables.cells ≡ cell_count p → KeepsPointers p (λ c. Unit {0}) None s → kind (in_main p) e ≡ Some true → value e s.variables ≡ Ok a → NamesObject p a o → MayGive p None e o
in_main_text p s e a o h objects long keep k is names = of_world p None (in_main p) s e a o h (world_of_main p) objects long keep k is names

pub in_function_text : (p : Resolved) (f : ℕ) (g : RFunction) (s : State) (e : RExpr) (a o : ℕ) → IsChecked p → slice_get p.functions f ≡ Some g → s.variables.objects ≡ objects p → length s.variables.cells ≡ cell_count p → KeepsPointers p (λ c. Unit {0}) (Some f) s → kind (in_function p g) e ≡ Some true → value e s.variables ≡ Ok a → NamesObject p a o → MayGive p (Some f) e o
in_function_text p f g s e a o h there objects long keep k is names = of_world p (Some f) (in_function p g) s e a o h (world_of_function p f g there) objects long keep k is names
