use Rattle.std.proofs.Common.{ℕ, ◌<◌, ◌≡◌, ◌+◌, ◌*◌, take, drop, ap, sym, ◌∙◌, arith}
use Rattle.std.specs.Prelude.{slice_index}
use Rattle.page_frames.specs.Frame.{frame_bytes}
use Rattle.page_frames.proofs.Words.{length_view, frame_is}
use Rattle.page_frames.proofs.Frames.frame.Goals as goal

pub frame_part-requires : goal.frame_part-requires
frame_part-requires c =
    let l = length_view _ _ _ c.self.view_is in
    omega arith

pub returns : goal.returns
returns c =
    let l = length_view _ _ _ c.self.view_is in
    let bytes = c.self.inside.bytes.items in
    let at = c.args.p * 4096 in
    let small : (i : ℕ) → slice_index bytes i < 256 = λ i. omega (arith, ap (λ xs. slice_index xs i) c.deref.ensures.value, c.frame_part.ensures.bytes i) in
    record {
      answer =
          c.frame_part.ensures.part
          ∙ ap (λ b. take 4096 (drop at b)) c.deref.ensures.value
          ∙ sym (frame_is bytes c.args.p (512 * c.self.inside.pages) small (omega arith) (omega arith))
          ∙ ap (λ ws. frame_bytes ws c.args.p) c.self.view_is;
    }
