use Rattle.image_chain.proofs.ReplaceLaws.{next_generation, start_moments, started}
use Rattle.image_chain.proofs.OutputLaws.{beside_output}
use Rattle.image_chain.proofs.replace.start_other.Goals as goal

pub returns-in_err-start_file-clause-any_moment : goal.returns-in_err-start_file-clause-any_moment
returns-in_err-start_file-clause-any_moment g c = λ tells rs behind rest.
    let chain = c.args.chain.now in
    start_moments chain _ _ c.start_file.result _ _ rs behind c.beside.ensures c.start_file.ensures.answer tells (g.met.D.Disk.lawful c.args.disk.now tells) (next_generation _ _ _ _ _ c.requires.sound c.requires.records) c.write_header-header.ensures.answer rest

pub returns-clause-answer : goal.returns-clause-answer
returns-clause-answer g c = λ tells rs behind rest.
    let chain = c.args.chain.now in
    started chain _ _ _ _ rs behind c.beside.ensures (c.in_ok-start_file.ensures.answer.does tells) (next_generation _ _ _ _ _ c.requires.sound c.requires.records) c.write_header-header.ensures.answer rest

pub returns-clause-any_moment : goal.returns-clause-any_moment
returns-clause-any_moment g c = λ tells rs behind rest.
    let chain = c.args.chain.now in
    start_moments chain _ _ c.start_file.result _ _ rs behind c.beside.ensures c.start_file.ensures.answer tells (g.met.D.Disk.lawful c.args.disk.now tells) (next_generation _ _ _ _ _ c.requires.sound c.requires.records) c.write_header-header.ensures.answer rest

pub returns-in_err-start_file-clause-output : goal.returns-in_err-start_file-clause-output
returns-in_err-start_file-clause-output g c = λ tells. beside_output c.args.chain.now _ _ c.start_file.result _ _ c.beside.ensures tells c.start_file.ensures.answer

pub returns-clause-output : goal.returns-clause-output
returns-clause-output g c = λ tells. beside_output c.args.chain.now _ _ c.start_file.result _ _ c.beside.ensures tells c.start_file.ensures.answer
