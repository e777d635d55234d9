use Rattle.std.proofs.Common.{ℕ, List, ◌≡◌, ◌+◌, ◌*◌, length, ap, sym, ◌∙◌, arith}
use Rattle.std.proofs.lemmas.List.{with_items_is}
use Rattle.std.specs.Prelude.{slice_index}
use Rattle.page_frames.specs.Words.{words_of}
use Rattle.page_frames.proofs.Words.{length_view, length_words, cells_loaded, cells_kept}
use borrow.Rule.Slice.PartMut.{put_mid}
use Rattle.page_frames.proofs.Frames.load_cells.Goals as goal

pub write_part-requires : goal.write_part-requires
write_part-requires c =
    let l = length_view _ _ _ c.self.view_is in
    omega arith

pub returns : goal.returns
returns c =
    let l = length_view _ _ _ c.self.view_is in
    let n = 512 * c.self.inside.pages in
    let first = c.args.first in
    let count = c.args.count in
    let old = c.self.inside.bytes.items in
    let ys = c.args.bytes.now in
    let size : length ys ≡ count * 8 = omega arith in
    let len : length c.write_part.new.s ≡ c.self.inside.bytes.len = c.write_part.auto.s ∙ c.as_mut_slice.ensures.len in
    let items = with_items_is c.self.inside.bytes c.write_part.new.s len ∙ c.write_part.ensures ∙ ap (λ (b : List ℕ). put_mid (first * 8) (length ys) b ys) c.as_mut_slice.ensures.value ∙ ap (λ k. put_mid (first * 8) k old ys) size in
    let view = ap (λ b. words_of b n) items in
    record {
      loaded = λ i lt. ap (λ ws. slice_index ws (first + i)) view ∙ cells_loaded old ys first count n i (omega arith) (omega arith) size lt;
      same = λ k out. ap (λ ws. slice_index ws k) view ∙ cells_kept old ys first count n k (omega arith) (omega arith) size out ∙ ap (λ ws. slice_index ws k) c.self.view_is;
      size = ap length view ∙ length_words _ 0 n ∙ sym l;
    }
