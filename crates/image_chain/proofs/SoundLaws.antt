-- What a chain keeps of its file stays sound.
use Rattle.std.proofs.Common.{◌≡◌, refl, sym, ◌∙◌, ap, subst, ℕ, ◌+◌, ◌≤◌, Option, Some, None, Ok, arith}
use Rattle.disk_model.specs.declared.disk_file.DiskFile.{DiskFile}
use Rattle.image_format.specs.declared.fields.Fields.{Fields}
use Rattle.image_format.specs.declared.header.Header.{Header}
use Rattle.image_format.specs.Image.{Image, IsImage, IsHeldHeader, AreFields}
use Rattle.image_chain.specs.declared.chain.Current.{Current}
use Rattle.image_chain.specs.Records.{broken_field, in_number}
use Rattle.image_chain.specs.Sound.{IsNumbered, HasNewest, IsSound}
use Rattle.image_chain.specs.Append.{header_of, IsSoundFile}
use Rattle.image_chain.proofs.StepLaws.{number_push}
use Rattle.image_chain.proofs.OpenLaws.{not_ahead}

same_fields : (f g : Fields) → Some f ≡ Some g → f ≡ g
same_fields f g same = cc

not_none : (f : Fields) → Some f ≡ None → ⊥
not_none f same = cc

numbered : (ahead : ℕ) (newest : Option Fields) → (newest ≡ None → ahead ≤ 1) → ((f : Fields) → newest ≡ Some f → ahead ≤ f.number + 1) → IsNumbered ahead newest
numbered ahead None none some = none refl
numbered ahead (Some f) none some = some f refl

-- a newest record that is what a record says and has its number
sound_newest : (generation every max count : ℕ) (newest : Option Fields) (f : Fields) → 1 ≤ generation → 1 ≤ every → 2 ≤ max → max ≤ 64 → newest ≡ Some f → AreFields f → generation + count ≤ f.number + 1 → IsSound generation every max count newest
sound_newest generation every max count newest f a b c d is said number = record {
  generation_least = a;
  every_least = b;
  max_least = c;
  max_most = d;
  none = λ e. absurd (not_none f (sym is ∙ e));
  number = λ g e. subst (λ (x : Fields). generation + count ≤ x.number + 1) (same_fields f g (sym is ∙ e)) number;
  said = λ g e. subst AreFields (same_fields f g (sym is ∙ e)) said;
}

-- one record more
pub sound_push : (chain after : Current) (r : Image) → IsImage r → broken_field chain.newest r.fields ≡ None → header_of after ≡ header_of chain → after.count ≡ chain.count + 1 → after.newest ≡ Some r.fields → IsSoundFile chain → IsSoundFile after
sound_push chain after r is follows same count newest sound =
    let generation : after.generation ≡ chain.generation = ap (λ (h : Header). h.generation) same in
    let every : after.every ≡ chain.every = ap (λ (h : Header). h.every) same in
    let max : after.max ≡ chain.max = ap (λ (h : Header). h.max) same in
    let number = number_push (chain.generation + chain.count) chain.newest r.fields (numbered (chain.generation + chain.count) chain.newest sound.none sound.number) is.fields.ranges.number follows in
    let a = sound.generation_least in let b = sound.every_least in let c = sound.max_least in let d = sound.max_most in
    sound_newest after.generation after.every after.max after.count after.newest r.fields (omega (arith, a, generation)) (omega (arith, b, every)) (omega (arith, c, max)) (omega (arith, d, max)) newest is.fields (omega (arith, number, generation, count))

newest_sound : (f : DiskFile) (generation every max count : ℕ) (newest : Option Fields) → 1 ≤ generation → 1 ≤ every → 2 ≤ max → max ≤ 64 → HasNewest newest → in_number f (generation + count) newest ≡ Ok tt → IsSound generation every max count newest
newest_sound f generation every max count None a b c d has number = absurd has
newest_sound f generation every max count (Some n) a b c d has number = sound_newest generation every max count (Some n) n a b c d refl has (not_ahead f (generation + count) n number)

-- a file that was read
pub sound_read : (current : Current) (h : Header) → IsHeldHeader h → header_of current ≡ h → HasNewest current.newest → in_number current.file (current.generation + current.count) current.newest ≡ Ok tt → IsSoundFile current
sound_read current h held same has number =
    let generation : current.generation ≡ h.generation = ap (λ (x : Header). x.generation) same in
    let every : current.every ≡ h.every = ap (λ (x : Header). x.every) same in
    let max : current.max ≡ h.max = ap (λ (x : Header). x.max) same in
    let r = held.ranges in
    let a = r.generation in let b = r.every in let c = r.max_least in let d = r.max_most in
    newest_sound current.file current.generation current.every current.max current.count current.newest (omega (arith, a, generation)) (omega (arith, b, every)) (omega (arith, c, max)) (omega (arith, d, max)) has number

-- a chain that has a record has a newest one
pub newest_said : (generation every max count : ℕ) (newest : Option Fields) → IsSound generation every max count newest → 1 ≤ count → HasNewest newest
newest_said generation every max count None sound some = let n = sound.none refl in let g = sound.generation_least in absurd (omega (arith, n, g, some))
newest_said generation every max count (Some f) sound some = sound.said f refl
