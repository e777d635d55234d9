use Rattle.std.proofs.Common.{rules, subst, sym}
use Rattle.image_chain.specs.Append.{Spells}
use Rattle.coalesce.proofs.JoinLaws.{newest_spelled, content_joins}
use Rattle.coalesce.proofs.joining.join.Goals as goal

pub replace-requires-clause-newest : goal.replace-requires-clause-newest
replace-requires-clause-newest g c = λ r spells.
    let made = c.make_record.ensures.spelled in
    newest_spelled c.args.chain.now made.0 r c.as_slice.result.now (subst (Spells made.0) (sym c.as_slice.ensures.answer) made.1) made.2 spells

pub returns-in_err-replace-clause-joins : goal.returns-in_err-replace-clause-joins
returns-in_err-replace-clause-joins g c = λ tells rs rests content.
    let made = c.make_record.ensures.spelled in
    let spells = subst (Spells made.0) (sym c.as_slice.ensures.answer) made.1 in
    record {
      image = made.0;
      joins = content_joins c.args.chain.now _ rs c.args.kept.now made.0 rests content made.2 made.3;
      moments = c.replace.ensures.any_moment tells rs made.0 spells rests;
      stands = search rules;
    }

pub returns-clause-joins : goal.returns-clause-joins
returns-clause-joins g c = λ tells rs rests content.
    let made = c.make_record.ensures.spelled in
    let spells = subst (Spells made.0) (sym c.as_slice.ensures.answer) made.1 in
    record {
      image = made.0;
      joins = content_joins c.args.chain.now _ rs c.args.kept.now made.0 rests content made.2 made.3;
      moments = c.replace.ensures.any_moment tells rs made.0 spells rests;
      stands = c.in_ok-replace.ensures.answer tells rs made.0 spells rests;
    }
