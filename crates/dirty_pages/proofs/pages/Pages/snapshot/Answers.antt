use Rattle.std.proofs.Common.{◌≡◌, ◌+◌, ◌<◌, ◌++◌, ◌∷◌, [], length, get_or, take, drop, replicate, true, false, ap, sym, ◌∙◌, arith, length-take-le}
use Rattle.std.specs.Prelude.{map, slice_set}
use Rattle.std.proofs.lemmas.List.{map-set, length-map, length-replicate, get_or-map, take_more}
use Rattle.std.proofs.lemmas.List.Elements.{All-set}
use Rattle.dirty_pages.specs.Flags.{IsPage, is_dirty, is_marked}
use Rattle.dirty_pages.specs.Pages.{PageStates, in_snapshot}
use Rattle.dirty_pages.proofs.States.{states}
use Rattle.dirty_pages.proofs.Maps.{next_done, not_done, replicate_more}
use Rattle.dirty_pages.proofs.pages.Pages.snapshot.Goals as goal

pub save-requires-clause-marked : goal.save-requires-clause-marked
save-requires-clause-marked c =
    let old = c.deref_mut-flags-items.result.now in
    let now = c.loop-flags.flags-items in
    let i = c.loop-flags.flags-index in
    let ld = length-map old is_dirty in
    let lt : i < length now = omega arith in
    let l : length (take i (map is_dirty old)) ≡ i = length-take-le i (map is_dirty old) (omega (arith, c.loop-flags.auto.flags-items)) in
    sym (get_or-map is_marked now i (record { 0 = 0 }) false lt)
    ∙ ap (λ m. get_or m i false) c.loop-flags.invariant.marked
    ∙ not_done (take i (map is_dirty old)) (map is_marked old) i false l
    ∙ ap (λ o. get_or (map is_marked o) i false) c.deref_mut-flags-items.ensures.value
    ∙ ap (λ s. in_snapshot s i) c.self.view_is
    ∙ c.requires.none i

pub loop-flags-preserved : goal.loop-flags-preserved
loop-flags-preserved c =
    let old = c.deref_mut-flags-items.result.now in
    let now = c.loop-flags.flags-items in
    let i = c.loop-flags.flags-index in
    let new = c.save.new.self in
    let ld = length-map old is_dirty in
    let lm = length-map old is_marked in
    let lt : i < length (map is_dirty old) = omega (arith, c.loop-flags.auto.flags-items) in
    let l : length (take i (map is_dirty old)) ≡ i = length-take-le i (map is_dirty old) (omega arith) in
    let was : is_dirty (get_or now i (record { 0 = 0 })) ≡ get_or (map is_dirty old) i false =
    sym (get_or-map is_dirty now i (record { 0 = 0 }) false (omega arith))
    ∙ ap (λ m. get_or m i false) c.loop-flags.invariant.dirty
    ∙ not_done (replicate i false) (map is_dirty old) i false (length-replicate i false) in
    record {
      pages = All-set IsPage now i new c.save.ensures.page c.loop-flags.invariant.pages;
      dirty =
          map-set is_dirty now i new
          ∙ ap (slice_set (map is_dirty now) i) c.save.ensures.dirty
          ∙ ap (λ l. slice_set l i false) c.loop-flags.invariant.dirty
          ∙ next_done (replicate i false) (map is_dirty old) i (i + 1) false (length-replicate i false) (omega arith) lt
          ∙ ap (λ l. l ++ drop (i + 1) (map is_dirty old)) (replicate_more i false);
      marked =
          map-set is_marked now i new
          ∙ ap (slice_set (map is_marked now) i) (c.save.ensures.marked ∙ was)
          ∙ ap (λ l. slice_set l i (get_or (map is_dirty old) i false)) c.loop-flags.invariant.marked
          ∙ next_done (take i (map is_dirty old)) (map is_marked old) i (i + 1) (get_or (map is_dirty old) i false) l (omega arith) (omega arith)
          ∙ ap (λ l. l ++ drop (i + 1) (map is_marked old)) (sym (take_more (map is_dirty old) i false lt));
    }
