-- The change of each kind, in the words of forks, joins, acquires and releases.
use Rattle.std.proofs.Common.{refl, rules}
use Rattle.roster.proofs.Changes.{noted_from, noted_by}
use Rattle.roster.proofs.roster.Roster.note.Goals as goal

pub returns-in-Fork : goal.returns-in-Fork
returns-in-Fork c = noted_by c.args.self.now _ c.args.event _ c.in-Fork.is c.set_state.ensures.threads c.set_state.ensures.locks

pub returns-in-Join : goal.returns-in-Join
returns-in-Join c = noted_by c.args.self.now _ c.args.event _ c.in-Join.is c.set_state-in-Join.ensures.threads c.set_state-in-Join.ensures.locks

pub returns-in-Acquire : goal.returns-in-Acquire
returns-in-Acquire c = noted_by c.args.self.now _ c.args.event _ c.in-Acquire.is (λ t. refl) c.acquire.ensures

pub returns-in-Release : goal.returns-in-Release
returns-in-Release c = noted_by c.args.self.now _ c.args.event _ c.in-Release.is (λ t. refl) c.release.ensures

pub returns-in_default : goal.returns-in_default
returns-in_default c = noted_from c.args.self.now _ c.args.event (λ t. search rules) (λ l. search rules)
