use Rattle.std.proofs.Common.{ap, ◌∙◌, ◌++◌, List, ℕ, arith}
use Rattle.image_format.specs.Spelling.{spelling}
use Rattle.image_format.specs.Written.{image_of}
use Rattle.image_format.proofs.WriteLaws.{sizes_short}
use Rattle.image_chain.proofs.StepLaws.{spells_length}
use Rattle.life_journal.proofs.record.make_record.Goals as goal

pub write_record-requires-clause-room : goal.write_record-requires-clause-room
write_record-requires-clause-room c =
    let short = sizes_short 0 c.args.runs.now c.requires.rising in
    let spare = c.clear.ensures.spare in
    let room = c.requires.room in
    omega (arith, short, spare, room)

pub returns-clause-room : goal.returns-clause-room
returns-clause-room c =
    let image = image_of c.args.fields.now c.args.runs.now c.args.frames.now in
    let spelled = c.write_record.ensures.list ∙ ap (λ (l : List ℕ). l ++ spelling image 0) c.clear.ensures.list in
    let size = spells_length image c.write_record.new.out.list (record { is_image = c.write_record.ensures.found; bytes_are = spelled }) in
    let short = sizes_short 0 c.args.runs.now c.requires.rising in
    let spare = c.clear.ensures.spare in
    let room = c.requires.room in
    let left = c.write_record.ensures.spare in
    let is = c.write_record.ensures.size in
    omega (arith, short, spare, room, size, left, is)
