use Rattle.image_chain.proofs.LoopLaws.{rest_lists, rest_due}
use Rattle.image_chain.proofs.chain.Chain.tells.Goals as goal

pub returns-clause-count : goal.returns-clause-count
returns-clause-count g c = λ told rs rests. rests.1.1.keeps.count

pub returns-clause-newest : goal.returns-clause-newest
returns-clause-newest g c = λ told rs rests. rests.1.1.keeps.newest

pub returns-clause-newest_place : goal.returns-clause-newest_place
returns-clause-newest_place g c = λ told rs rests. rests.1.1.keeps.newest_at

pub returns-clause-reads : goal.returns-clause-reads
returns-clause-reads g c = λ told rs rests. rest_lists c.args.self.now.current _ rs rests.1.0 rests.1.1 (g.D.Disk.view c.args.disk.now).seen (g.met.D.Disk.lawful c.args.disk.now told).seen_stays

pub returns-clause-lasting : goal.returns-clause-lasting
returns-clause-lasting g c = λ told rs rests. rest_lists c.args.self.now.current _ rs rests.1.0 rests.1.1

pub returns-clause-begins : goal.returns-clause-begins
returns-clause-begins g c = λ rs image rests. rest_due c.args.self.now.current _ rs image rests.1.0 rests.1.1
