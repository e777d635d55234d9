use Rattle.std.proofs.Common.{sym, ◌≤◌, subst, arith}
use Rattle.run_images.specs.JoinedList.{IsJoinedList}
use Rattle.run_images.specs.Origin.{begun_at}
use Rattle.run_images.specs.Source.{images_of}
use Rattle.one_life.proofs.laws.begun_lives_come_to_what_is_meant.Goals as goal

pub returns : goal.returns
returns c = record {
  law = λ s p every until es l is compiled spaced runs.
      let o = begun_at p s.marks every s.input in
      let start : o.state.ticks ≤ until = omega arith in
      let of = c.begun_lives_are_of_their_source.ensures.law s p every is compiled spaced in
      let ends = c.lives_end_as_their_source.ensures.law s o until (record { events = es; memory = runs.0; ending = l.ending; ticks = l.steps }) of start runs.1 in
      record {
        ending = sym ends.ending;
        steps = sym ends.ticks;
        output = sym ends.shown.output;
        images = ends.shown.images;
        records = λ rs stand. subst (IsJoinedList rs) (sym ends.shown.images) (stand (images_of s every o.state.ticks) of.records);
      };
}
