use Rattle.std.proofs.Common.{ℕ, List, ◌≡◌, ◌*◌, ◌<◌, ◌^◌, length, ap, sym, ◌∙◌, arith}
use Rattle.std.proofs.lemmas.List.{with_items_is}
use Rattle.std.specs.Int.{w64, to_be_bytes}
use Rattle.std.specs.Prelude.{slice_set}
use Rattle.page_frames.specs.Words.{words_of}
use Rattle.page_frames.proofs.Words.{length_view, words_put}
use borrow.Rule.Slice.PartMut.{put_mid}
use Rattle.page_frames.proofs.Frames.set_word.Goals as goal

pub write_part-requires : goal.write_part-requires
write_part-requires c =
    let l = length_view _ _ _ c.self.view_is in
    omega arith

pub returns : goal.returns
returns c =
    let l = length_view _ _ _ c.self.view_is in
    let n = 512 * c.self.inside.pages in
    let fits : c.args.w < 2 ^ 64 = omega arith in
    let len : length c.write_part.new.s ≡ c.self.inside.bytes.len = c.write_part.auto.s ∙ c.as_mut_slice.ensures.len in
    record {
      exact =
          ap (λ b. words_of b n) (with_items_is c.self.inside.bytes c.write_part.new.s len ∙ c.write_part.ensures ∙ ap (λ b. put_mid (c.args.c * 8) (length c.to_be_bytes.result) b c.to_be_bytes.result) c.as_mut_slice.ensures.value ∙ ap (λ (w : List ℕ). put_mid (c.args.c * 8) (length w) c.self.inside.bytes.items w) c.to_be_bytes.ensures)
          ∙ words_put c.self.inside.bytes.items c.args.c c.args.w n fits (omega arith) (omega arith)
          ∙ ap (λ ws. slice_set ws c.args.c c.args.w) c.self.view_is;
    }
