use Rattle.std.proofs.Common.{◌<◌, ◌^◌, length, ap, sym, ◌∙◌, subst, arith, rules}
use Rattle.machine_code.specs.CodeView.{CodeView}
use Rattle.machine_code.specs.Valid.{AreDistinct}
use Rattle.machine_code.proofs.Forced.{forward_lt}
use Rattle.machine_code.proofs.ValidDepths.{depths_found, not_forward}
use Rattle.machine_code.proofs.valid.is_valid_with.Goals as goal

pub returns-then-not-starts_level : goal.returns-then-not-starts_level
returns-then-not-starts_level c =
    let few : c.args.code.now.stack < 2 ^ 32 = omega (arith, ap (λ (v : CodeView). v.stack) c.code.view_is, c.code.invariant) in
    (λ t. absurd (cc), λ v. sym c.if-not-starts_level.true ∙ c.starts_level.ensures.1 (depths_found c.args.code.now c.args.found.now few c.requires.only v).starts)

pub returns : goal.returns
returns c =
    let few : c.args.code.now.stack < 2 ^ 32 = omega (arith, ap (λ (v : CodeView). v.stack) c.code.view_is, c.code.invariant) in (
      λ t. record {
        some = search rules;
        objects = omega (arith, ap (λ (v : CodeView). length v.objects) c.code.view_is);
        functions = c.functions_fit.ensures.0 c.if-not-functions_fit.false;
        starts = subst AreDistinct c.requires.starts (c.all_differ.ensures.0 c.if-not-all_differ.false);
        depths = (
          c.args.found.now,
          record {
            each = c.requires.length;
            stands = c.all_stand.ensures.0 t;
            main = c.requires.quiet 0 (λ p i at f. let lt = forward_lt i p 0 f in omega arith);
            starts = c.starts_level.ensures.0 c.if-not-starts_level.false;
            unreached = λ q none. c.requires.quiet q (λ p i at f. not_forward i p q (none p i at) f);
          },
        );
        entries = c.entries_fit.ensures.0 c.if-not-entries_fit.false;
        listed = c.all_listed.ensures.0 c.if-not-all_listed.false;
        nodes = subst AreDistinct c.requires.nodes (c.all_differ-2.ensures.0 c.if-not-all_differ-2.false);
      },
      λ v. c.all_stand.ensures.1 (depths_found c.args.code.now c.args.found.now few c.requires.only v).stands,
    )
