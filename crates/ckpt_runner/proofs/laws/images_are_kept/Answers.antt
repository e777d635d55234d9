use Rattle.ckpt_runner.proofs.KeptLaws.{kept_rests, rests_kept, image_rests}
use Rattle.ckpt_runner.proofs.laws.images_are_kept.Goals as goal

pub returns : goal.returns
returns g c = record {
  law = λ o es node tick old new r due is was idle none saved kept.
      let u = g.D.Disk.view c.args.before.now in
      let v = g.D.Disk.view c.args.after.now in
      rests_kept o _ new v idle (image_rests o es node tick old new u v r due is none saved (kept_rests o es old u was kept));
}
