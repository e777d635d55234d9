use Rattle.std.proofs.Common.{sym, ◌∙◌, ap, subst, ◌<◌, suc, length}
use Rattle.command_words.specs.Stops.{front, stop_of, behind}
use Rattle.command_words.proofs.Pieces.{AreSoFar, lent, size_of, same_behind, behind_shorter, no_stop, one_stop}
use Rattle.command_words.proofs.stops.all_stops.Goals as goal

pub returns-in-None : goal.returns-in-None
returns-in-None c = record {
  answer = sym (no_stop c.items.stops.items c.items.rest c.in-Some.word c.args.word.now c.in-Some.is c.items.invariant (ap stop_of (sym c.split.ensures.front) ∙ sym c.stop_in.ensures.answer ∙ c.in-None.is));
}

pub items-smaller : goal.items-smaller
items-smaller c =
    let same = same_behind c.split.result.1 (behind 44 c.in-Some.word.now) c.split.ensures.behind in
    rw c.in-Some.is (subst (λ o. size_of o < suc (length c.in-Some.word.now)) (sym same) (behind_shorter 44 c.in-Some.word.now))

pub items-preserved : goal.items-preserved
items-preserved c =
    let same = same_behind c.split.result.1 (behind 44 c.in-Some.word.now) c.split.ensures.behind in
    let stop = c.in-Some-stop_in.stop in
    subst (λ items. AreSoFar items (lent c.split.result.1) c.args.word.now) (sym c.in_ok-add-in-Some-stop_in.ensures.added)
    (one_stop c.items.stops.items c.items.rest c.in-Some.word c.args.word.now stop c.split.result.1 c.in-Some.is c.items.invariant (ap stop_of (sym c.split.ensures.front) ∙ sym c.stop_in.ensures.answer ∙ c.in-Some-stop_in.is) same)
