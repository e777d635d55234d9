-- The record that stands at a known place.
use Rattle.std.proofs.Common.{◌≡◌, refl, sym, ◌∙◌, ap, subst, ℕ, ◌+◌, ◌<◌, ◌≤◌, List, [], ◌∷◌, ◌++◌, length, take, drop, get_or, Ok, arith, append_assoc, length-append}
use Rattle.std.specs.List.{AllByRecursion}
use Rattle.std.proofs.lemmas.List.{append-nil, take_at, get_or-take}
use Rattle.disk_model.specs.Store.{file_of}
use Rattle.disk_model.specs.View.{View}
use Rattle.image_format.specs.declared.header.Header.{Header}
use Rattle.image_format.specs.Image.{Image, IsImage}
use Rattle.image_format.specs.Spelling.{text, spelling, image_length}
use Rattle.image_format.specs.Reading.{image_at}
use Rattle.image_format.proofs.RecordLaws.{text_length, image_short}
use Rattle.image_format.proofs.ViewLaws.{image_only}
use Rattle.image_chain.specs.ChainView.{ChainView}
use Rattle.image_chain.specs.declared.chain.Span.{Span}
use Rattle.image_chain.specs.Append.{header_of, head, chained, chained_length, spans_of}
use Rattle.image_chain.specs.Lists.{Rests}
use Rattle.image_chain.specs.Shown.{StandsAt, span_at}
use Rattle.image_chain.proofs.ListLaws.{behind_gate, next_gate}
use Rattle.image_chain.proofs.StepLaws.{length_chained}

abbrev span : ℕ → ℕ → Span
span at n = record { at = at; length = n }

images_split : (before : List Image) (r : Image) (after : List Image) → AllByRecursion IsImage (before ++ r ∷ after) → AllByRecursion IsImage before × IsImage r
images_split [] r after are = (tt, are.0)
images_split (s ∷ before) r after are = (let more = images_split before r after are.1 in ((are.0, more.0), more.1))

spans_split : (at : ℕ) (before : List Image) (r : Image) (after : List Image) (d : Span) → get_or (spans_of at (before ++ r ∷ after)) (length before) d ≡ span (at + chained_length before) (image_length r)
spans_split at [] r after d = ap (λ (n : ℕ). span n (image_length r)) (omega arith)
spans_split at (s ∷ before) r after d = spans_split (at + image_length s) before r after d ∙ ap (λ (n : ℕ). span n (image_length r)) (omega arith)

chained_split : (before : List Image) (r : Image) (after : List Image) (rest : List ℕ) → chained (before ++ r ∷ after) ++ rest ≡ chained before ++ 165 ∷ (text r ++ (chained after ++ rest))
chained_split [] r after rest = ap (λ (l : List ℕ). 165 ∷ l) (append_assoc (text r) (chained after) rest)
chained_split (s ∷ before) r after rest =
    ap (λ (l : List ℕ). 165 ∷ l) (append_assoc (text s) (chained (before ++ r ∷ after)) rest ∙ ap (λ (l : List ℕ). text s ++ l) (chained_split before r after rest) ∙ sym (append_assoc (text s) (chained before) (165 ∷ (text r ++ (chained after ++ rest)))))

-- the bytes of a record, with the gate behind it
one_record : (r : Image) (gate : ℕ) (more : List ℕ) (n : ℕ) → IsImage r → n ≡ image_length r → image_at (take n (text r ++ gate ∷ more)) ≡ Ok r
one_record r gate more n is size =
    let s = spelling r gate in
    let len : length s ≡ n = (let t = text_length r is in omega (arith, length-append (text r) (gate ∷ []))) in
    let bytes : take n (text r ++ gate ∷ more) ≡ s = ap (take n) (sym (append_assoc (text r) (gate ∷ []) more)) ∙ take_at s more n len in
    image_only (take n (text r ++ gate ∷ more)) r is (gate, [], bytes ∙ sym (append-nil s))

stands_in : (h : Header) (before : List Image) (r : Image) (after : List Image) (gate : ℕ) (behind file : List ℕ) (at : ℕ) → AllByRecursion IsImage before → IsImage r → file ≡ (head h ++ chained (before ++ r ∷ after)) ++ gate ∷ behind → at ≡ 16 + chained_length before
    → image_at (take (image_length r) (drop at file)) ≡ Ok r
stands_in h before r after gate behind file at images is text_is place =
    let front_bytes = head h ++ chained before in
    let rest = chained after ++ gate ∷ behind in
    let next = next_gate after gate behind in
    let whole : file ≡ front_bytes ++ 165 ∷ (text r ++ rest) =
    text_is ∙ append_assoc (head h) (chained (before ++ r ∷ after)) (gate ∷ behind) ∙ ap (λ (l : List ℕ). head h ++ l) (chained_split before r after (gate ∷ behind)) ∙ sym (append_assoc (head h) (chained before) (165 ∷ (text r ++ rest))) in
    let size : at ≡ length front_bytes + 1 = (let n = length_chained before images in omega (arith, length-append (head h) (chained before))) in
    let behind_is : drop at file ≡ text r ++ next.0 ∷ next.1 =
    ap (λ (n : ℕ). drop n file) size ∙ ap (drop (length front_bytes + 1)) whole ∙ behind_gate front_bytes 165 (text r ++ rest) ∙ ap (λ (l : List ℕ). text r ++ l) next.2 in
    ap (λ (l : List ℕ). image_at (take (image_length r) l)) behind_is ∙ one_record r next.0 next.1 (image_length r) is refl

is_short : (r : Image) → IsImage r → image_length r ≤ 3145837
is_short r is = (let short = image_short r is in omega arith)

stands_by : (s : Span) (at : ℕ) (r : Image) (file : List ℕ) → s ≡ span at (image_length r) → image_length r ≤ 3145837 → image_at (take (image_length r) (drop at file)) ≡ Ok r → StandsAt s r file
stands_by s at r file same short text_is = subst (λ (x : Span). StandsAt x r file) (sym same) (record { size = refl; short = short; text = text_is })

pub stands : (chain : ChainView) (v : View) (i : ℕ) (before : List Image) (r : Image) (after : List Image) → length before ≡ i → Rests chain v (before ++ r ∷ after) → StandsAt (span_at chain i) r (file_of chain.current.file v.seen)
stands chain v i before r after place rests =
    let rest = rests.1.1 in
    let keeps = rest.keeps in
    let split = images_split before r after keeps.images in
    let none = span 0 0 in
    let rs = before ++ r ∷ after in
    let inside : i < length rs = omega (arith, length-append before (r ∷ after)) in
    let here : span_at chain i ≡ span (16 + chained_length before) (image_length r) =
    sym (get_or-take (length rs) chain.current.spans i none inside) ∙ ap (λ (l : List Span). get_or l i none) keeps.spans ∙ ap (λ (k : ℕ). get_or (spans_of 16 rs) k none) (sym place) ∙ spans_split 16 before r after none in
    stands_by (span_at chain i) (16 + chained_length before) r (file_of chain.current.file v.seen) here (is_short r split.1)
    (stands_in (header_of chain.current) before r after rest.gate rests.1.0 (file_of chain.current.file v.seen) (16 + chained_length before) split.0 split.1 rest.reads refl)

pub shown : (n len : ℕ) (s : Span) (r view : Image) (room file : List ℕ) → StandsAt s r file → len ≡ s.length → take n room ≡ take len (drop s.at file) → n ≡ s.length → (n ≡ image_length r) × (image_at (take n room) ≡ Ok r)
shown n len s r view room file is len_is same size = (size ∙ is.size, ap image_at (same ∙ ap (λ (k : ℕ). take k (drop s.at file)) len_is) ∙ is.text)
