use Rattle.std.proofs.Common.{subst, sym, [], ◌∷◌, ◌++◌}
use Rattle.output_file.specs.Pushed.{Pushed}
use Rattle.output_file.specs.OnDisk.{IsOutputOn}
use Rattle.output_file.proofs.FileLaws.{more_waits}
use Rattle.output_file.proofs.output.Output.push.Goals as goal

pub returns-clause-answer : goal.returns-clause-answer
returns-clause-answer g c = λ tells bytes on.
    let v = g.D.Disk.view c.make_room.new.disk in
    let room = c.in_ok-make_room.ensures.answer tells bytes on in
    subst (λ (o : Pushed). IsOutputOn o v (bytes ++ c.args.b ∷ [])) (sym c.keep.ensures.exact) (more_waits c.make_room.new.self v bytes c.args.b room)
