-- The holders with whom an event shares. Assumes nothing.
--   holders_left i     the holders that an iterator over them has still to give
--   capped hs          hs with every number past a byte's end put down to 255, which is no holder either
use Rattle.std.specs.Prelude.{ℕ, ◌+◌, min, List, ◌++◌, map}
use Rattle.std.specs.Option.{option_to_list}
use Rattle.events.specs.Places.{places_left}
use Rattle.slots.specs.declared.holders.Holders.{Holders}

abbrev pub holders_left : Holders → List ℕ
holders_left i = option_to_list i.one ++ map (λ p. 72 + p) (places_left i.places)

abbrev pub capped : List ℕ → List ℕ
capped hs = map (λ h. min h 255) hs
