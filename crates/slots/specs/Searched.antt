-- What a search for a race reads of its slots, by place and slot of the place. Assumes nothing.
--   its.meaning       of the keeper, by its interface
--   serials_of s p k  the serial of slot k of place p
--   sets_of s p k     its set, of which nobody is where a number is out of range
use Rattle.std.specs.Prelude.{ℕ}
use Rattle.keepers.specs.declared.keeper.Keeper.{Ghosts}
use Rattle.order.specs.Slots.{Set}
use Rattle.slots.specs.Made.{held_at}
use Rattle.slots.specs.Serials.{serial_at}
use Rattle.slots.specs.declared.race.Search.{Search}

abbrev pub serials_of : {K : Type 0} {its : Ghosts K} → Search K its → ℕ → ℕ → ℕ
serials_of s = serial_at s.slots.now.serials

abbrev pub sets_of : {K : Type 0} {its : Ghosts K} → Search K its → ℕ → ℕ → Set
sets_of {its = its} s = held_at (its.meaning s.slots.now.keeper)
