use Rattle.std.proofs.Common.{ℕ, List, ◌<◌, ◌≡◌, ◌+◌, ◌*◌, ◌^◌, take, drop, length, ap, sym, ◌∙◌, subst, arith}
use Rattle.std.specs.Prelude.{slice_index}
use Rattle.std.specs.List.{flat_map}
use Rattle.std.specs.Int.{w64, to_be_bytes}
use Rattle.page_frames.specs.Words.{words_from}
use Rattle.page_frames.proofs.Words.{length_view, length_part, cells_are, words_fit, bytes_of_words}
use Rattle.page_frames.proofs.Frames.cell_bytes.Goals as goal

pub cells_part-requires : goal.cells_part-requires
cells_part-requires c =
    let l = length_view _ _ _ c.self.view_is in
    omega arith

pub returns : goal.returns
returns c =
    let l = length_view _ _ _ c.self.view_is in
    let bytes = c.self.inside.bytes.items in
    let first = c.args.first in
    let count = c.args.count in
    let small : (i : ℕ) → slice_index bytes i < 256 = λ i. omega (arith, ap (λ xs. slice_index xs i) c.deref.ensures.value, c.cells_part.ensures.bytes i) in
    let cells : take count (drop first c.args.self.now) ≡ words_from bytes first count =
    ap (λ ws. take count (drop first ws)) (sym c.self.view_is) ∙ cells_are bytes first count (512 * c.self.inside.pages) (omega arith) in
    record {
      answer =
          c.cells_part.ensures.part
          ∙ ap (λ b. take (count * 8) (drop (first * 8) b)) c.deref.ensures.value
          ∙ sym (bytes_of_words bytes first count small (omega arith))
          ∙ ap (flat_map (to_be_bytes w64)) (sym cells);
      size =
          let n = ap length (c.cells_part.ensures.part ∙ ap (λ b. take (count * 8) (drop (first * 8) b)) c.deref.ensures.value) ∙ length_part bytes (first * 8) (count * 8) (omega arith) in
          omega arith;
      words = λ i. subst (λ (ws : List ℕ). slice_index ws i < 2 ^ 64) (sym cells) (words_fit bytes first count small i);
    }
