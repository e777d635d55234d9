use Rattle.std.proofs.Common.{◌≡◌, ◌+◌, ◌∙◌, refl, sym, subst, w64, Some, arith}
use Rattle.std.specs.Prelude.{slice_get, get_or}
use Rattle.std.proofs.lemmas.Bool.Decides.{nat_tests}
use Rattle.std.proofs.lemmas.Int.{of_z-to_z}
use Rattle.ckpt_base.specs.Word.{word_of}
use Rattle.machine_code.specs.declared.instr.Instr.TheVariants.{In}
use Rattle.machine_code.specs.CodeView.{CodeView}
use Rattle.paged_machine.specs.Standing.{StandsIn}
use Rattle.ckpt_runner.specs.LifeView.{LifeView}
use Rattle.ckpt_runner.specs.Lives.{Lives}
use Rattle.ckpt_runner.proofs.GivingLaws.{end_given, byte_given, gave_sound, same_input}
use Rattle.ckpt_runner.proofs.life.Life.give_input.Goals as goal

pub returns-in_default-clause-lives : goal.returns-in_default-clause-lives
returns-in_default-clause-lives c = λ o es h.
    let past = c.in_default.ensures.lookup.0 in
    let asked = subst (λ (l : LifeView). slice_get l.compiled.code.instrs l.machine.state.place ≡ Some In) (sym c.self.view_is) c.requires.asked in
    same_input o es _ _ _ c.self.view_is
    (end_given o es _ c.give.new.self _ c.give.ensures.exact refl (grind (arith, nat_tests, past)) asked (subst (λ (l : LifeView). Lives o es l) (sym c.self.view_is) h))

pub invariant_of-self-2 : goal.invariant_of-self-2
invariant_of-self-2 c =
    let within = c.in-Some.ensures.lookup.0 in
    gave_sound _ c.give-2.new.self (c.self.inside.progress.input_place + 1) c.self.invariant (subst (λ (k : CodeView). StandsIn k c.give-2.new.self) c.code-2.ensures.answer c.give-2.ensures.stands) (omega arith) (grind (arith, nat_tests, within))

pub returns-clause-lives : goal.returns-clause-lives
returns-clause-lives c = λ o es h.
    let within = c.in-Some.ensures.lookup.0 in
    let at : c.in-Some.byte.now ≡ get_or c.self.inside.input.now c.self.inside.progress.input_place c.in-Some.byte.now = c.in-Some.ensures.lookup.1 in
    let small = c.value_of-value.ensures.small in
    let value = of_z-to_z w64 (word_of c.value_of-value.result) (omega (arith, small)) ∙ c.value_of-value.ensures.answer in
    let asked = subst (λ (l : LifeView). slice_get l.compiled.code.instrs l.machine.state.place ≡ Some In) (sym c.self.view_is) c.requires.asked in
    same_input o es _ _ _ c.self.view_is
    (byte_given o es _ c.give-2.new.self _ c.in-Some.byte.now c.give-2.ensures.exact value (grind (arith, nat_tests, within)) at asked (subst (λ (l : LifeView). Lives o es l) (sym c.self.view_is) h))
