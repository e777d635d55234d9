use Rattle.std.proofs.Common.{ℕ, List, ◌≡◌, ◌*◌, ◌/◌, length, ap, sym, ◌∙◌, arith}
use Rattle.std.proofs.lemmas.List.{with_items_is}
use Rattle.std.specs.Prelude.{slice_index}
use Rattle.std.specs.List.{flat_map}
use Rattle.std.specs.Int.{w64, to_be_bytes}
use Rattle.page_frames.specs.Words.{words_of}
use Rattle.page_frames.specs.Frame.{page_words}
use Rattle.page_frames.proofs.Words.{length_view, length_words, page_is, page_same, bytes_back}
use borrow.Rule.Slice.PartMut.{put_mid}
use Rattle.page_frames.proofs.Frames.load_frame.Goals as goal

pub write_part-requires : goal.write_part-requires
write_part-requires c =
    let l = length_view _ _ _ c.self.view_is in
    omega arith

pub returns : goal.returns
returns c =
    let l = length_view _ _ _ c.self.view_is in
    let n = 512 * c.self.inside.pages in
    let p = c.args.p in
    let old = c.self.inside.bytes.items in
    let ys = c.args.bytes.now in
    let len : length c.write_part.new.s ≡ c.self.inside.bytes.len = c.write_part.auto.s ∙ c.as_mut_slice.ensures.len in
    let items = with_items_is c.self.inside.bytes c.write_part.new.s len ∙ c.write_part.ensures ∙ ap (λ (b : List ℕ). put_mid (p * 4096) (length ys) b ys) c.as_mut_slice.ensures.value ∙ ap (λ k. put_mid (p * 4096) k old ys) c.requires.whole in
    let view = ap (λ b. words_of b n) items in
    let words = ap (λ ws. page_words ws p) view ∙ page_is old ys p n (omega arith) (omega arith) c.requires.whole in
    record {
      words = words;
      frame = ap (flat_map (to_be_bytes w64)) words ∙ bytes_back ys (λ i. omega (arith, c.type_inv.bytes i)) c.requires.whole;
      same = λ k ne. ap (λ ws. slice_index ws k) view ∙ page_same old ys p n k (omega arith) (omega arith) c.requires.whole ne ∙ ap (λ ws. slice_index ws k) c.self.view_is;
      size = ap length view ∙ length_words _ 0 n ∙ sym l;
    }
