-- What is printed of a set of places, of an action and of an event. Assumes nothing.
--   places_text ps      the places ps with a space between two, or `none`
--   action_text a       what a thread does, as `reads place 5`
--   event_text e        which thread does it, and what it does
use Rattle.std.specs.Prelude.{ℕ, List, [], ◌∷◌, ◌++◌, codes, decimal, flat_map}
use Rattle.events.specs.declared.Event.{Event}
use Rattle.events.specs.declared.Action.{Action}
use Rattle.events.specs.declared.Action.TheVariants.{Read, Write, Acquire, Release, ReadFlag, WriteFlag, Fork, Join, Allocate, Commit}
use Rattle.events.specs.declared.places.PlaceSet.{PlaceSet}
use Rattle.events.specs.Places.{places_of}

abbrev pub after_space : ℕ → List ℕ
after_space p = codes " " ++ decimal p

abbrev pub places_text : List ℕ → List ℕ
places_text [] = codes "none"
places_text (p ∷ ps) = decimal p ++ flat_map after_space ps

abbrev pub set_text : PlaceSet → List ℕ
set_text s = places_text (places_of s)

abbrev pub action_text : Action → List ℕ
action_text (Read p) = codes "reads place " ++ decimal p
action_text (Write p) = codes "writes place " ++ decimal p
action_text (Acquire l) = codes "acquires lock " ++ decimal l
action_text (Release l) = codes "releases lock " ++ decimal l
action_text (ReadFlag f) = codes "reads flag " ++ decimal f
action_text (WriteFlag f) = codes "writes flag " ++ decimal f
action_text (Fork u) = codes "forks thread " ++ decimal u
action_text (Join u) = codes "joins thread " ++ decimal u
action_text (Allocate o) = codes "allocates object " ++ decimal o
action_text (Commit r w) = codes "commits, reading places " ++ (set_text r ++ (codes ", writing places " ++ set_text w))

abbrev pub event_text : Event → List ℕ
event_text e = codes "thread " ++ (decimal e.thread ++ (codes " " ++ action_text e.action))
