-- What it means that an event's numbers are in range. Assumes nothing.
use Rattle.std.proofs.Common.{◌≡◌, ℕ, ◌<◌, leb, List, subst, arith}
use Rattle.std.proofs.lemmas.Bool.{or_parts, leb-false}
use Rattle.std.proofs.lemmas.Bool.Decides.{nat_tests}
use Rattle.events.specs.declared.Event.{Event}
use Rattle.events.specs.declared.Action.{Action}
use Rattle.events.specs.declared.Action.TheVariants.{Read, Write, Acquire, Release, ReadFlag, WriteFlag, Fork, Join, Allocate, Commit}
use Rattle.order.specs.Acts.{by}
use Rattle.order.specs.Faults.{no_such_thread, no_such_thing, faults}
use Rattle.order.specs.Slots.{taken, given}
use Rattle.order.specs.Verdicts.{NoFault}
use Rattle.slots.specs.Bounds.{InBounds}
use Rattle.slots.proofs.Places.{holders_small, AllHolders}

-- the operand of the action is in range
abbrev pub Ranged : Action → Type 0
Ranged (Read p) = p < 64
Ranged (Write p) = p < 64
Ranged (Acquire l) = l < 32
Ranged (Release l) = l < 32
Ranged (ReadFlag f) = f < 32
Ranged (WriteFlag f) = f < 32
Ranged (Fork u) = u < 8
Ranged (Join u) = u < 8
Ranged (Allocate o) = o < 16
Ranged (Commit r w) = Unit {0}

ranged : (t : ℕ) (a : Action) → InBounds (by t a) → Ranged a
unfolding no_such_thread no_such_thing
ranged t (Read p) b = let h = b.thing in grind (arith, nat_tests)
ranged t (Write p) b = let h = b.thing in grind (arith, nat_tests)
ranged t (Acquire l) b = let h = b.thing in grind (arith, nat_tests)
ranged t (Release l) b = let h = b.thing in grind (arith, nat_tests)
ranged t (ReadFlag f) b = let h = b.thing in grind (arith, nat_tests)
ranged t (WriteFlag f) b = let h = b.thing in grind (arith, nat_tests)
ranged t (Fork u) b = let h = b.thread in grind (arith, nat_tests)
ranged t (Join u) b = let h = b.thread in grind (arith, nat_tests)
ranged t (Allocate o) b = let h = b.thing in grind (arith, nat_tests)
ranged t (Commit r w) b = tt

pub thread_in_range : (e : Event) → InBounds e → e.thread < 8
unfolding no_such_thread
thread_in_range e b = leb-false 8 e.thread (or_parts (leb 8 e.thread) _ b.thread).0

pub in_range : (e : Event) → InBounds e → Ranged e.action
in_range e b = ranged e.thread e.action b

pub in_range_of : (e : Event) (a : Action) → InBounds e → e.action ≡ a → Ranged a
in_range_of e a b is = subst Ranged is (in_range e b)

-- from whom and to whom it passes is the number of a holder
pub taken_holders : (a : Action) → Ranged a → AllHolders (taken a)
taken_holders (Read p) l = tt
taken_holders (Write p) l = tt
taken_holders (Acquire q) l = (omega arith, tt)
taken_holders (Release q) l = tt
taken_holders (ReadFlag f) l = (omega arith, tt)
taken_holders (WriteFlag f) l = tt
taken_holders (Fork u) l = tt
taken_holders (Join u) l = (omega arith, tt)
taken_holders (Allocate o) l = tt
taken_holders (Commit r w) l = holders_small r.word w.word

pub given_holders : (a : Action) → Ranged a → AllHolders (given a)
given_holders (Read p) l = tt
given_holders (Write p) l = tt
given_holders (Acquire q) l = tt
given_holders (Release q) l = (omega arith, tt)
given_holders (ReadFlag f) l = tt
given_holders (WriteFlag f) l = (omega arith, tt)
given_holders (Fork u) l = (omega arith, tt)
given_holders (Join u) l = tt
given_holders (Allocate o) l = tt
given_holders (Commit r w) l = holders_small r.word w.word

-- an event that no rule refuses is in bounds
pub in_bounds : (rec : List Event) (e : Event) → NoFault rec e → InBounds e
unfolding faults
in_bounds rec e none = record { thread = none 1; thing = none 2 }
