-- A store that is cleared.
use Rattle.std.proofs.Common.{◌≡◌, inl, inr, ⊎_elim, refl, sym, ◌∙◌, ap, subst, ℕ, IsTrue, List, [], Some, None, Result, Ok, arith}
use Rattle.disk_model.specs.declared.disk_file.DiskFile.{DiskFile}
use Rattle.disk_model.specs.declared.disk_file.DiskFile.TheVariants.{Output, One, Two}
use Rattle.disk_model.specs.Store.{Store}
use Rattle.disk_model.specs.Change.{Start}
use Rattle.disk_model.specs.View.{View, IsDisk, On, IsMade, Changes, SameFile}
use Rattle.disk_model.specs.Moments.{Among, LeavesOnly}
use Rattle.disk_model.proofs.Calls.{changed, still, after_change, others_stay, stays_twice}
use Rattle.image_format.specs.Image.{IsHeldHeader}
use Rattle.image_format.specs.Spelling.{is_open}
use Rattle.image_chain.specs.Records.{header_in, chain_in}
use Rattle.image_chain.specs.Clear.{blank, blank_header, IsBlank, IsClearing, IsCleared}
use Rattle.image_chain.proofs.ListLaws.{header_back, current_is}
use Rattle.image_chain.proofs.OutputLaws.{one_aside, two_aside}

blank_held : IsHeldHeader blank_header
blank_held = record { generation = omega arith; every = omega arith; ranges = record { generation = omega arith; every = omega arith; max_least = omega arith; max_most = omega arith } }

-- the header of a blank file, whose gate is not open
pub header_of_blank : (f : DiskFile) (bytes : List ℕ) → bytes ≡ blank → header_in f bytes ≡ Ok (Some (record { generation = 1; every = 1; max = 16; gate_open = is_open 0 }))
header_of_blank f bytes is = ap (header_in f) is ∙ header_back f blank_header 0 [] blank_held

none_in_blank : (s : Store) → IsBlank s → chain_in s ≡ Ok None
none_in_blank s is = current_is s _ _ None (header_of_blank One s.one is.one) (header_of_blank Two s.two is.two) refl

module _ {T E : Type 0} (bytes : List ℕ) (is : bytes ≡ blank) (result : Result T E) (old mid : View) (tells : IsTrue old.tells) (disk : IsDisk old) (first : Changes Two (Start bytes) result old mid) where
  abbrev Q : Store → Type 0
  Q = Among old.may_leave IsClearing

  stays : (c : Store) → old.may_leave c → Q c
  stays c left = (c, left, record { output = refl; images = inl (refl, inl refl) })

  one_begun : (c : Store) → Among old.may_leave (On Two (λ _ x. x ≡ bytes)) c → Q c
  one_begun c from = (
    from.0,
    from.1,
    record {
      output = ap (λ (s : Store). s.output) from.2.2;
      images = inl (ap (λ (s : Store). s.one) from.2.2, inr (ap (λ (s : Store). s.two) from.2.2 ∙ from.2.1 ∙ is));
    },
  )

  pub first_moments : LeavesOnly old mid Q
  first_moments = after_change Two (Start bytes) result old old mid Q (λ _. tells) (still old Q (λ _. disk) (λ _. tells) (λ _. stays)) first
      (λ _ c left. ⊎_elim (stays c) (one_begun c) (changed Two (Start bytes) result old mid first tells c left))

  module _ {U F : Type 0} (next : Result U F) (new : View) (made : IsMade Two (Start bytes) old mid) (second : Changes One (Start bytes) next mid new) where
    both_begun : (c : Store) → Among mid.may_leave (On One (λ _ x. x ≡ bytes)) c → Q c
    both_begun c from =
        let before = (made.crash from.0).0 from.1 in (
          before.0,
          before.1,
          record {
            output = ap (λ (s : Store). s.output) from.2.2 ∙ ap (λ (s : Store). s.output) before.2.2;
            images = inr (record {
              one = ap (λ (s : Store). s.one) from.2.2 ∙ from.2.1 ∙ is;
              two = ap (λ (s : Store). s.two) from.2.2 ∙ ap (λ (s : Store). s.two) before.2.2 ∙ before.2.1 ∙ is;
            });
          },
        )

    mid_tells : IsTrue mid.tells
    mid_tells = subst IsTrue (sym first.tells) tells

    pub second_moments : LeavesOnly old new Q
    second_moments = after_change One (Start bytes) next old mid new Q (λ _. tells) first_moments second
        (λ t c left. ⊎_elim (first_moments.now tells c) (both_begun c) (changed One (Start bytes) next mid new second t c left))

    pub cleared : IsMade One (Start bytes) mid new → IsCleared new
    cleared then = record { reads = seen; left = left; none_read = none_in_blank new.seen seen; none_left = λ c l. none_in_blank c (left c l) }
      where
        seen : IsBlank new.seen
        seen = record {
          one = ap (λ (s : Store). s.one) then.seen ∙ is;
          two = ap (λ (s : Store). s.two) then.seen ∙ ap (λ (s : Store). s.two) made.seen ∙ is;
        }

        left : (c : Store) → new.may_leave c → IsBlank c
        left c l =
            let from = (then.crash c).0 l in
            let before = (made.crash from.0).0 from.1 in
            record {
              one = ap (λ (s : Store). s.one) from.2.2 ∙ from.2.1 ∙ is;
              two = ap (λ (s : Store). s.two) from.2.2 ∙ ap (λ (s : Store). s.two) before.2.2 ∙ before.2.1 ∙ is;
            }

    pub output_stays : SameFile Output old new
    output_stays = stays_twice Output old mid new (others_stay Two Output (Start bytes) result old mid two_aside tells first) (others_stay One Output (Start bytes) next mid new one_aside mid_tells second)
