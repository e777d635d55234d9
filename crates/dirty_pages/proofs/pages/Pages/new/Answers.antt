use Rattle.std.proofs.Common.{◌≡◌, ap, sym, ◌∙◌, subst, rules, List, true, false}
use Rattle.std.specs.Prelude.{map, replicate, All}
use Rattle.std.proofs.lemmas.List.Elements.{All-replicate}
use Rattle.dirty_pages.proofs.Maps.{map_replicate}
use Rattle.dirty_pages.proofs.Bits.{fresh_page, fresh_flags}
use Rattle.dirty_pages.specs.Pages.{PageStates}
use Rattle.dirty_pages.specs.Flags.{IsPage, is_dirty, is_marked}
use Rattle.dirty_pages.specs.declared.flags.PageFlags.{PageFlags}
use Rattle.dirty_pages.proofs.pages.Pages.new.Goals as goal

pub invariant_of-result : goal.invariant_of-result
invariant_of-result c =
    subst (All IsPage) (sym (c.in_ok-vec.ensures.items_if_clones_equal (λ y e. search rules))) (All-replicate IsPage c.args.pages fresh_flags fresh_page)

pub returns : goal.returns
returns c =
    let items = c.in_ok-vec.ensures.items_if_clones_equal (λ y e. search rules) in
    let states : List PageFlags → PageStates = λ l. record { dirty = map is_dirty l; in_snapshot = map is_marked l } in
    record {
      answer =
          ap states items
          ∙ ap (λ d. record { dirty = d; in_snapshot = map is_marked (replicate c.args.pages fresh_flags) }) (map_replicate is_dirty c.args.pages fresh_flags)
          ∙ ap (λ s. record { dirty = replicate c.args.pages true; in_snapshot = s }) (map_replicate is_marked c.args.pages fresh_flags);
    }
