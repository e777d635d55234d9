use Rattle.std.proofs.Common.{arith, ◌≡◌, sym, ◌∙◌, ap, ℕ, List, take}
use Rattle.std.proofs.lemmas.List.{length-take}
use Rattle.image_format.specs.Spelling.{image_length}
use Rattle.image_format.specs.Reading.{image_at}
use Rattle.image_chain.proofs.WalkLaws.{record_inside}
use Rattle.image_chain.proofs.ShownLaws.{shown}
use Rattle.image_chain.proofs.record.read_span.Goals as goal

pub returns-clause-answer : goal.returns-clause-answer
returns-clause-answer g c =
    let view = c.in-Ok.view in
    let n = c.in_ok-n.n in
    let inside = record_inside view _ c.in-Ok.ensures.found.0 c.in-Ok.ensures.found.1 in
    let size : image_length view ≡ n = (let b = c.in_ok-n.ensures.bound in let m = c.min.ensures in let l = c.length.ensures.answer in let s = c.if-length-span.false in omega (arith, inside.1, length-take n c.bytes.result.now)) in
    (view, ap (λ (l : List ℕ). image_at (take n l)) (sym c.bytes.ensures.answer) ∙ c.in-Ok.ensures.exact, size)

pub returns-clause-told : goal.returns-clause-told
returns-clause-told g c = λ tells r stands.
    let view = c.in-Ok.view in
    let n = c.in_ok-n.n in
    let inside = record_inside view _ c.in-Ok.ensures.found.0 c.in-Ok.ensures.found.1 in
    let size : n ≡ c.args.span.length = (let b = c.in_ok-n.ensures.bound in let m = c.min.ensures in let l = c.length.ensures.answer in let s = c.if-length-span.false in omega (arith, inside.1, length-take n c.bytes.result.now)) in
    let len : c.min.result ≡ c.args.span.length = (let short = stands.short in let m = c.min.ensures in omega arith) in
    shown n c.min.result c.args.span r view c.fill.new.self _ stands len (c.in_ok-n.ensures.answer tells) size

pub returns-clause-length : goal.returns-clause-length
returns-clause-length g c =
    let view = c.in-Ok.view in
    let n = c.in_ok-n.n in
    let inside = record_inside view _ c.in-Ok.ensures.found.0 c.in-Ok.ensures.found.1 in
    let b = c.in_ok-n.ensures.bound in let m = c.min.ensures in let l = c.length.ensures.answer in let s = c.if-length-span.false in
    omega (arith, inside.1, length-take n c.bytes.result.now)
