use Rattle.std.proofs.Common.{◌≡◌, ◌+◌, ◌*◌, ap, sym, ◌∙◌, arith}
use Rattle.std.specs.Prelude.{slice_index}
use Rattle.std.specs.Int.{w64, from_be_bytes}
use Rattle.page_frames.specs.Words.{eight, word_at}
use Rattle.page_frames.proofs.Words.{length_view, get_words, word_eight}
use Rattle.page_frames.proofs.Frames.word.Goals as goal

pub read_word-requires : goal.read_word-requires
read_word-requires c =
    let l = length_view _ _ _ c.self.view_is in
    omega arith

pub returns : goal.returns
returns c =
    let l = length_view _ _ _ c.self.view_is in
    let bytes = c.self.inside.bytes.items in
    let e : 0 + c.args.c ≡ c.args.c = omega arith in
    record {
      answer =
          c.read_word.ensures
          ∙ ap (λ b. from_be_bytes w64 (eight b (c.args.c * 8))) c.deref.ensures.value
          ∙ sym (word_eight bytes c.args.c)
          ∙ ap (word_at bytes) (sym e)
          ∙ sym (get_words bytes 0 (512 * c.self.inside.pages) c.args.c (omega arith))
          ∙ ap (λ ws. slice_index ws c.args.c) c.self.view_is;
    }
