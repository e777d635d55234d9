use Rattle.std.proofs.Common.{◌≡◌, ◌∙◌, ◌++◌, ap, subst, ℕ, List, to_z-of_z}
use Rattle.std.specs.Fmt.{signed_decimal}
use Rattle.life_journal.specs.Holding.{HoldsJournal}
use Rattle.life_journal.specs.Writing.{KeepsJournal}
use Rattle.life_journal.proofs.journal.Journal.write_number.Goals as goal

pub returns-clause-holds : goal.returns-clause-holds
returns-clause-holds g c = λ tells rs w h.
    let is : c.as_bytes.result.now ≡ signed_decimal c.args.number = c.as_bytes.ensures.value ∙ c.format-text.ensures.text ∙ ap signed_decimal (to_z-of_z c.ranges.number) in
    subst (λ (l : List ℕ). HoldsJournal c.write.new.self (g.D.Disk.view c.write.new.disk) rs (w ++ l)) is (c.in_ok-write.ensures.holds tells rs w h)

pub returns-clause-keeps : goal.returns-clause-keeps
returns-clause-keeps g c = λ tells rs r w h.
    let is : c.as_bytes.result.now ≡ signed_decimal c.args.number = c.as_bytes.ensures.value ∙ c.format-text.ensures.text ∙ ap signed_decimal (to_z-of_z c.ranges.number) in
    subst (λ (l : List ℕ). KeepsJournal c.write.new.self (g.D.Disk.view c.write.new.disk) rs r (w ++ l)) is (c.in_ok-write.ensures.keeps tells rs r w h)
