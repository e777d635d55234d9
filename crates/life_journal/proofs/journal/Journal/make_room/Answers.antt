use Rattle.std.proofs.Common.{refl, sym, subst, ℕ, List, IsTrue}
use Rattle.disk_model.specs.Moments.{Among, LeavesOnly}
use Rattle.image_format.specs.Image.{Image}
use Rattle.life_journal.specs.JournalView.{JournalView}
use Rattle.life_journal.specs.Holding.{HoldsJournal}
use Rattle.life_journal.specs.Joining.{MayBeJoined}
use Rattle.life_journal.specs.contracts.journal.Journal.{the_view}
use Rattle.life_journal.proofs.HoldLaws.{joined_holds, joined_moments}
use Rattle.life_journal.proofs.journal.Journal.make_room.Goals as goal

pub returns-in_err-join-clause-any_moment : goal.returns-in_err-join-clause-any_moment
returns-in_err-join-clause-any_moment g c =
    let u = g.D.Disk.view c.args.disk.now in
    let v = g.D.Disk.view c.join.new.disk in
    subst (λ (j : JournalView). IsTrue u.tells → (rs : List Image) (w : List ℕ) → HoldsJournal j u rs w → LeavesOnly u v (Among u.may_leave (MayBeJoined j.chain.current rs))) c.self.view_is
    (λ tells rs w h. let made = c.join.ensures.joins tells rs h.rests h.content in joined_moments u v c.self.inside.chain.current rs made.image made.joins made.moments)

pub returns-clause-any_moment : goal.returns-clause-any_moment
returns-clause-any_moment g c =
    let u = g.D.Disk.view c.args.disk.now in
    let v = g.D.Disk.view c.join.new.disk in
    subst (λ (j : JournalView). IsTrue u.tells → (rs : List Image) (w : List ℕ) → HoldsJournal j u rs w → LeavesOnly u v (Among u.may_leave (MayBeJoined j.chain.current rs))) c.self.view_is
    (λ tells rs w h. let made = c.join.ensures.joins tells rs h.rests h.content in joined_moments u v c.self.inside.chain.current rs made.image made.joins made.moments)

pub returns-clause-holds : goal.returns-clause-holds
returns-clause-holds g c = λ tells rs w h.
    let u = g.D.Disk.view c.args.disk.now in
    let was = subst (λ (j : JournalView). HoldsJournal j u rs w) (sym c.self.view_is) h in
    let made = c.in_ok-join.ensures.joins tells rs was.rests was.content in
    joined_holds (the_view c.self.inside) _ u (g.D.Disk.view c.join.new.disk) rs w made.image refl refl (c.join.ensures.output tells) made.joins made.stands was
