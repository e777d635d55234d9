use Rattle.std.proofs.Common.{ℕ, List, ◌≡◌, ◌+◌, ◌-◌, ◌*◌, ◌/◌, length, take, drop, ap, sym, ◌∙◌, arith}
use Rattle.std.proofs.lemmas.List.{with_items_is}
use Rattle.std.specs.Prelude.{slice_index}
use Rattle.page_frames.specs.Words.{words_of}
use Rattle.page_frames.specs.Frame.{page_words}
use Rattle.page_frames.proofs.Words.{length_view, length_words, page_is, page_same, page_taken, length_part}
use borrow.Rule.Slice.PartMut.{put_mid}
use Rattle.page_frames.proofs.Frames.copy_frame.Goals as goal

pub frame_part-requires : goal.frame_part-requires
frame_part-requires c =
    let l = length_view _ _ _ c.self.view_is in
    omega arith

pub write_part-requires : goal.write_part-requires
write_part-requires c =
    let here = length_view _ _ _ c.self.view_is in
    let there = length_view _ _ _ c.to.view_is in
    let whole = ap length c.frame_part.ensures.part ∙ length_part c.deref.result.now (c.args.p * 4096) 4096 (omega arith) in
    omega arith

pub returns : goal.returns
returns c =
    let here = length_view _ _ _ c.self.view_is in
    let there = length_view _ _ _ c.to.view_is in
    let n = 512 * c.to.inside.pages in
    let p = c.args.p in
    let at = p * 4096 in
    let from = c.self.inside.bytes.items in
    let old = c.to.inside.bytes.items in
    let ys = take 4096 (drop at from) in
    let part : c.frame_part.result.now ≡ ys = c.frame_part.ensures.part ∙ ap (λ b. take 4096 (drop at b)) c.deref.ensures.value in
    let whole : length ys ≡ 4096 = length_part from at 4096 (omega arith) in
    let len : length c.write_part.new.s ≡ c.to.inside.bytes.len = c.write_part.auto.s ∙ c.as_mut_slice.ensures.len in
    let items =
    with_items_is c.to.inside.bytes c.write_part.new.s len
    ∙ c.write_part.ensures
    ∙ ap (λ (b : List ℕ). put_mid at (length b) c.as_mut_slice.result.now b) part
    ∙ ap (λ (b : List ℕ). put_mid at (length ys) b ys) c.as_mut_slice.ensures.value
    ∙ ap (λ i. put_mid at i old ys) whole in
    let view = ap (λ b. words_of b n) items in
    record {
      words =
          ap (λ ws. page_words ws p) view
          ∙ page_is old ys p n (omega arith) (omega arith) whole
          ∙ page_taken from p (512 * c.self.inside.pages) (omega arith) (omega arith)
          ∙ ap (λ ws. page_words ws p) c.self.view_is;
      same = λ i ne. ap (λ ws. slice_index ws i) view ∙ page_same old ys p n i (omega arith) (omega arith) whole ne ∙ ap (λ ws. slice_index ws i) c.to.view_is;
      size = ap length view ∙ length_words _ 0 n ∙ sym there;
    }
