-- What a new roster says, how an accepted event changes it, and that it says what the record does. Assumes nothing.
--   Fresh r            thread 0 alone has started, and no lock is held
--   Noted r e r'       r' is r after the event e
--   Follows rec r      the roster says what the record does
-- A joined thread has started, whatever was before; an event that is not refused joins no other.
-- A forked thread has not ended, whatever was before; an event that is not refused forks no other.
use Rattle.std.specs.Prelude.{◌≡◌, ℕ, false, cond, not, ◌&&◌, ◌||◌, List, Some, None, nat_eq, nat_lt}
use Rattle.events.specs.declared.Event.{Event}
use Rattle.order.specs.Acts.{acquires, releases, forks, joins}
use Rattle.order.specs.Records.{started, ended, lock_holder}
use Rattle.roster.specs.declared.roster.Roster.{Roster}
use Rattle.roster.specs.States.{begun, over, holders}

pub record Fresh (r : Roster) : Type 0 where
  pub starts : begun r ≡ (λ t. nat_eq t 0)
  pub ends : over r ≡ (λ _. false)
  pub locked : holders r ≡ (λ _. None)

pub record Noted (r : Roster) (e : Event) (r' : Roster) : Type 0 where
  pub starts : begun r' ≡ (λ t. nat_lt t 8 && (forks e t || joins e t) || begun r t)
  pub ends : over r' ≡ (λ t. nat_lt t 8 && joins e t || not (forks e t) && over r t)
  pub locked : holders r' ≡ (λ l. cond (nat_lt l 32 && acquires e l) (Some e.thread) (cond (releases e l) None (holders r l)))

pub record Follows (rec : List Event) (r : Roster) : Type 0 where
  pub starts : (t : ℕ) → begun r t ≡ started rec t
  pub ends : (t : ℕ) → over r t ≡ ended rec t
  pub locked : (l : ℕ) → holders r l ≡ lock_holder rec l
