use Rattle.std.proofs.Common.{◌∙◌, ◌++◌, ap, arith, subst, sym, ℕ, List}
use Rattle.image_format.specs.Spelling.{spelling}
use Rattle.image_format.specs.Written.{AreListed, image_of}
use Rattle.image_format.proofs.WriteLaws.{sizes_short}
use Rattle.image_chain.proofs.StepLaws.{spells_length}
use Rattle.coalesce.proofs.joining.make_record.Goals as goal

pub write_record-requires-clause-room : goal.write_record-requires-clause-room
write_record-requires-clause-room c =
    let short = sizes_short 0 c.as_slice.result.now (subst AreListed (sym c.as_slice.ensures.answer) c.find_runs.ensures.rising) in
    let spare = c.clear.ensures.spare in
    let room = c.requires.room in
    omega (arith, short, spare, room)

pub returns-in-Some-clause-room : goal.returns-in-Some-clause-room
returns-in-Some-clause-room c =
    let image = image_of c.in-Some.fields c.as_slice.result.now c.args.kept.now.words in
    let spelled = c.write_record.ensures.list ∙ ap (λ (l : List ℕ). l ++ spelling image 0) c.clear.ensures.list in
    let size = spells_length image c.write_record.new.out.list (record { is_image = c.write_record.ensures.found; bytes_are = spelled }) in
    let spare = c.clear.ensures.spare in
    let room = c.requires.room in
    let left = c.write_record.ensures.spare in
    let is = c.write_record.ensures.size in
    omega (arith, spare, room, size, left, is)
