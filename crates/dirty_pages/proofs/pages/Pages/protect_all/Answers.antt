use Rattle.std.proofs.Common.{◌≡◌, ◌+◌, ◌<◌, ◌++◌, ◌∷◌, [], length, get_or, drop, replicate, false, ap, sym, ◌∙◌, arith}
use Rattle.std.specs.Prelude.{map, slice_set}
use Rattle.std.proofs.lemmas.List.{map-set, length-map, length-replicate}
use Rattle.std.proofs.Math.Seq.{map-set_same}
use Rattle.std.proofs.lemmas.List.Elements.{All-set}
use Rattle.dirty_pages.specs.Flags.{IsPage, is_dirty, is_marked}
use Rattle.dirty_pages.proofs.Maps.{next_done, replicate_more}
use Rattle.dirty_pages.proofs.pages.Pages.protect_all.Goals as goal

pub loop-flags-preserved : goal.loop-flags-preserved
loop-flags-preserved c =
    let old = c.deref_mut-flags-items.result.now in
    let now = c.loop-flags.flags-items in
    let i = c.loop-flags.flags-index in
    let new = c.protect.new.self in
    let lt : i < length (map is_dirty old) = omega (arith, length-map old is_dirty, c.loop-flags.auto.flags-items) in
    record {
      pages = All-set IsPage now i new c.protect.ensures.page c.loop-flags.invariant.pages;
      dirty =
          map-set is_dirty now i new
          ∙ ap (slice_set (map is_dirty now) i) c.protect.ensures.dirty
          ∙ ap (λ l. slice_set l i false) c.loop-flags.invariant.dirty
          ∙ next_done (replicate i false) (map is_dirty old) i (i + 1) false (length-replicate i false) (omega arith) lt
          ∙ ap (λ l. l ++ drop (i + 1) (map is_dirty old)) (replicate_more i false);
      marked = map-set_same is_marked now i new _ c.protect.ensures.marked ∙ c.loop-flags.invariant.marked;
    }
