use Rattle.std.proofs.Common.{◌≡◌, ◌*◌, ap, ◌∙◌, arith}
use Rattle.std.specs.Prelude.{replicate}
use Rattle.page_frames.specs.Words.{words_of}
use Rattle.page_frames.proofs.Words.{words_fill}
use Rattle.page_frames.proofs.Frames.new.Goals as goal

pub returns : goal.returns
returns c =
    let n = 512 * c.args.pages in
    let bytes = c.in_ok-vec.ensures.items_if_clones_equal (λ y e. e) in
    record {
      answer =
          ap (λ b. words_of b n) bytes ∙ words_fill (c.args.pages * 4096) c.args.fill 0 n (omega arith);
    }
