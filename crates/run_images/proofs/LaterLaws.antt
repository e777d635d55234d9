-- No image of a store is lost.
use Rattle.std.proofs.Common.{◌≡◌, ◌≢◌, refl, sym, ◌∙◌, ap, subst, ℕ, ◌+◌, ◌≤◌, not, List, [], ◌∷◌, ◌++◌, length, Option, Some, None, Result, Ok, arith}
use Rattle.disk_model.specs.declared.disk_file.DiskFile.{DiskFile}
use Rattle.disk_model.specs.declared.disk_file.DiskFile.TheVariants.{Output, One, Two}
use Rattle.disk_model.specs.Store.{Store, file_of}
use Rattle.image_format.specs.declared.fields.Fields.{Fields}
use Rattle.image_format.specs.declared.header.Header.{Header}
use Rattle.image_format.specs.Image.{Image}
use Rattle.image_format.specs.Reading.{◌>>=◌}
use Rattle.image_chain.specs.Append.{other}
use Rattle.image_chain.specs.Lists.{found_of}
use Rattle.image_chain.specs.Records.{Damage, Found, header_in, records_at, newest_of, in_number, found_in, chain_in, broken_field}
use Rattle.output_file.specs.OnDisk.{IsBehind}
use Rattle.coalesce.specs.Join.{Joins}
use Rattle.run_images.specs.Later.{IsLater}
use Rattle.run_images.proofs.Outcomes.{IsJoinedIn}
use Rattle.run_images.proofs.StandLaws.{chain_by, same_found, none_found}
use Rattle.run_images.proofs.FoundLaws.{Parts, parts_of, heads}
use Rattle.run_images.proofs.AppendLaws.{rises, newest_more, newest_some}

-- ---- the chain of a store is that of its image files

chain_stays : (old new : Store) (found : Found) → new.one ≡ old.one → new.two ≡ old.two → chain_in old ≡ Ok (Some found) → chain_in new ≡ Ok (Some found)
chain_stays old new found one two is = by_current p.current refl
  where
    p : Parts old (Some found)
    p = parts_of old (Some found) is

    files : (f : DiskFile) → f ≢ Output → file_of f new ≡ file_of f old
    files Output not = absurd (not refl)
    files One not = one
    files Two not = two

    by_current : (o : Option (DiskFile × Header)) → p.current ≡ o → chain_in new ≡ Ok (Some found)
    by_current None e = absurd (none_found (found_in old p.current) found (ap (found_in old) e) p.found_is)
    by_current (Some x) e =
        let f = x.0 in
        let h = x.1 in
        let image_file = (heads old p.one p.two p.first p.second f h (p.both ∙ ap (λ (o : Option (DiskFile × Header)). Ok o) e)).image_file in
        chain_by new p.one p.two (Some x) (ap (header_in One) one ∙ p.first) (ap (header_in Two) two ∙ p.second) (p.both ∙ ap (λ (o : Option (DiskFile × Header)). Ok o) e)
        ∙ ap (λ (l : List ℕ). records_at h.max f l None 15 >>= λ records. in_number f (h.generation + length records) (newest_of None records) >>= λ _. Ok (Some (record { file = f; header = h; records = records }))) (files f image_file)
        ∙ sym (ap (found_in old) e) ∙ p.found_is

pub behind_later : (j n : ℕ) (old new : Store) → IsLater j old → IsBehind n old new → IsLater j new
behind_later j n old new later is = record { found = later.found; chain = chain_stays old new later.found is.one is.two later.chain; newest = later.newest; newest_is = later.newest_is; later = later.later }

-- ---- the records of the chain

same_later : (o : Option Fields) (x y : Fields) → o ≡ Some x → o ≡ Some y → x ≡ y
same_later o x y a b = cc

none_later : (x : Fields) → None ≡ Some x → ⊥
none_later x e = cc

none_chain : (found : Found) (x : Result (Option Found) Damage) → x ≡ Ok (Some found) → x ≡ Ok None → ⊥
none_chain found x a b = cc

-- the newest record of a store whose chain has these
newest_here : (j : ℕ) (f : DiskFile) (h : Header) (rs : List Image) (old : Store) (x : Fields) → IsLater j old → chain_in old ≡ Ok (found_of f h rs) → newest_of None rs ≡ Some x → j ≤ x.number
newest_here j f h [] old x later is e = absurd (none_later x e)
newest_here j f h (r ∷ rs) old x later is e =
    let here : Found = record { file = f; header = h; records = r ∷ rs } in
    let same : later.found ≡ here = same_found (chain_in old) later.found here later.chain is in
    let newest : later.newest ≡ x = same_later (newest_of None (r ∷ rs)) later.newest x (sym (ap (λ (y : Found). newest_of None y.records) same) ∙ later.newest_is) e in
    subst (λ (y : Fields). j ≤ y.number) newest later.later

pub listed_later : (j : ℕ) (f : DiskFile) (h : Header) (rs : List Image) (old new : Store) → IsLater j old → chain_in old ≡ Ok (found_of f h rs) → chain_in new ≡ Ok (found_of f h rs) → IsLater j new
listed_later j f h rs old new later is now = record { found = later.found; chain = now ∙ sym is ∙ later.chain; newest = later.newest; newest_is = later.newest_is; later = later.later }

some_of : (f : DiskFile) (h : Header) (rs : List Image) (r : Image) → found_of f h (rs ++ r ∷ []) ≡ Some (record { file = f; header = h; records = rs ++ r ∷ [] })
some_of f h [] r = refl
some_of f h (q ∷ rs) r = refl

pub appended_later : (j : ℕ) (f : DiskFile) (h : Header) (rs : List Image) (r : Image) (old new : Store) → IsLater j old → chain_in old ≡ Ok (found_of f h rs) → broken_field (newest_of None rs) r.fields ≡ None
    → chain_in new ≡ Ok (found_of f h (rs ++ r ∷ [])) → IsLater j new
appended_later j f h [] r old new later is follows now = absurd (none_chain later.found (chain_in old) later.chain is)
appended_later j f h (q ∷ rs) r old new later is follows now =
    let z = newest_some q.fields rs in
    let was : j ≤ z.0.number = newest_here j f h (q ∷ rs) old z.0 later is z.1 in
    let rise = (rises z.0 r.fields (sym (ap (λ (o : Option Fields). broken_field o r.fields) z.1) ∙ follows)).1 in
    record {
      found = record { file = f; header = h; records = q ∷ (rs ++ r ∷ []) };
      chain = now;
      newest = r.fields;
      newest_is = newest_more None (q ∷ rs) r;
      later = omega (arith, was, rise);
    }

pub joined_later : (j : ℕ) (f : DiskFile) (h k : Header) (rs : List Image) (r : Image) (old new : Store) → IsLater j old → Joins rs r → IsJoinedIn f h k rs r old new → IsLater j new
joined_later j f h k rs r old new later joins is = record {
  found = record { file = other f; header = k; records = r ∷ [] };
  chain = is.lists;
  newest = r.fields;
  newest_is = refl;
  later = newest_here j f h rs old r.fields later is.was joins.fields;
}
