use Rattle.std.proofs.Common.{arith}
use Rattle.image_format.proofs.WriteLaws.{few_runs, sizes_written, record_written, image_written, listed_words}
use Rattle.image_format.proofs.write.write_record.Goals as goal

pub overflow_cast-runs : goal.overflow_cast-runs
overflow_cast-runs c = let few = few_runs 0 c.args.runs.now c.requires.rising in omega arith

pub returns-clause-list : goal.returns-clause-list
returns-clause-list c = record_written c.args.fields.now c.args.words.now c.args.runs.now _ c.args.out.now.list _ _ _ c.requires.cells c.record_length-length.ensures.answer c.write_head.ensures.list c.write_runs.ensures.list c.push.ensures.list

pub returns-clause-found : goal.returns-clause-found
returns-clause-found c = image_written c.args.fields.now c.args.words.now c.args.runs.now c.hold.ensures.answer c.requires.rising c.requires.cells c.write_runs.ensures.words

pub returns-clause-size : goal.returns-clause-size
returns-clause-size c = let s = sizes_written 0 c.args.words.now c.args.runs.now c.requires.cells in omega arith

pub returns-clause-words : goal.returns-clause-words
returns-clause-words c cell = listed_words 0 c.args.runs.now c.args.words.now cell c.requires.cells
