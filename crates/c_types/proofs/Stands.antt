-- Objects that stand one after the other.
use Rattle.std.proofs.Common.{◌≡◌, ℕ, ◌+◌, ◌≤◌, Bool, true, List, [], ◌∷◌, ◌++◌, map, arith, subst, sym, ap, refl, ◌∙◌}
use Rattle.std.specs.List.{All, list_all}
use Rattle.std.proofs.lemmas.Bool.{and_parts, and_from}
use Rattle.std.proofs.lemmas.List.Elements.{All-nil, All-cons}
use Rattle.c_tree.specs.declared.resolved.RObject.{RObject}
use Rattle.c_tree.specs.Checked.{has_cells, starts_rightly}
use Rattle.c_types.specs.declared.file.FileObject.{FileObject}
use Rattle.c_types.specs.File.{StandBetween, AreFormed, cell_number}
use Rattle.c_types.specs.Check.{resolved_object}

-- one more object stands behind the others
pub stands_push : (os : List FileObject) (from to end : ℕ) (o : FileObject) → StandBetween from os to → o.cell ≡ cell_number to → end ≡ to + o.length → StandBetween from (os ++ o ∷ []) end
stands_push [] from to end o s e d = (e ∙ sym (ap cell_number s), ap (λ c. c + o.length) s ∙ sym d)
stands_push (p ∷ os) from to end o s e d = (s.0, stands_push os (from + p.length) to end o s.1 e d)

-- one more that passes a test
all_push : (t : FileObject → Bool) (os : List FileObject) (o : FileObject) → list_all t os ≡ true → t o ≡ true → list_all t (os ++ o ∷ []) ≡ true
all_push t [] o h x = and_from (t o) true x refl
all_push t (p ∷ os) o h x = let b = and_parts (t p) (list_all t os) h in and_from (t p) (list_all t (os ++ o ∷ [])) b.0 (all_push t os o b.1 x)

pub formed_push : (os : List FileObject) (o : FileObject) → AreFormed os → has_cells o.kind o.length ≡ true → starts_rightly o.kind o.first ≡ true → AreFormed (os ++ o ∷ [])
formed_push os o h sized first = record {
  sized = all_push (λ x. has_cells x.kind x.length) os o h.sized sized;
  firsts = all_push (λ x. starts_rightly x.kind x.first) os o h.firsts first;
}

end_after : (os : List FileObject) (from to : ℕ) → StandBetween from os to → from ≤ to
end_after [] from to s = omega (arith, s)
end_after (o ∷ os) from to s = let e = end_after os (from + o.length) to s.1 in omega arith

-- no object has more cells than all have
pub lengths_within : (os : List FileObject) (from to : ℕ) → StandBetween from os to → to ≤ 262144 → All (λ o. o.length ≤ 262144) os
lengths_within [] from to s few = All-nil (λ o. o.length ≤ 262144)
lengths_within (o ∷ os) from to s few = All-cons (λ x. x.length ≤ 262144) o os (let e = end_after os (from + o.length) to s.1 in omega arith) (lengths_within os (from + o.length) to s.1 few)

-- objects of the tree pass the tests that those of the file pass
pub sized_in_tree : (os : List FileObject) → list_all (λ o. has_cells o.kind o.length) os ≡ true → list_all (λ (o : RObject). has_cells o.kind o.length) (map resolved_object os) ≡ true
sized_in_tree [] h = refl
sized_in_tree (o ∷ os) h = let b = and_parts (has_cells o.kind o.length) (list_all (λ x. has_cells x.kind x.length) os) h in and_from (has_cells o.kind o.length) (list_all (λ (x : RObject). has_cells x.kind x.length) (map resolved_object os)) b.0 (sized_in_tree os b.1)

pub firsts_in_tree : (os : List FileObject) → list_all (λ o. starts_rightly o.kind o.first) os ≡ true → list_all (λ (o : RObject). starts_rightly o.kind o.first) (map resolved_object os) ≡ true
firsts_in_tree [] h = refl
firsts_in_tree (o ∷ os) h = let b = and_parts (starts_rightly o.kind o.first) (list_all (λ x. starts_rightly x.kind x.first) os) h in and_from (starts_rightly o.kind o.first) (list_all (λ (x : RObject). starts_rightly x.kind x.first) (map resolved_object os)) b.0 (firsts_in_tree os b.1)
