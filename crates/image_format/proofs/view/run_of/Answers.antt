use Rattle.std.proofs.Common.{◌≡◌, Ok, arith, rules}
use Rattle.page_frames.specs.Words.{words_of}
use Rattle.image_format.specs.Reading.{run_at}
use Rattle.image_format.proofs.RunLaws.{run_bounds}
use Rattle.image_format.proofs.view.run_of.Goals as goal

pub returns-clause-fits : goal.returns-clause-fits
unfolding run_at
returns-clause-fits c =
    let exact : run_at c.args.end c.args.least c.args.rest.now ≡ Ok (record { first = c.in_ok-first.first; words = words_of c.in_ok-words.words.now c.in_ok-count.count }, c.in_ok-words.rest.now) = search rules in
    run_bounds c.args.end c.args.least _ _ _ c.args.rest.now _ (λ i. omega (arith, c.type_inv.rest i)) exact
