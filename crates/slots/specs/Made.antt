-- What a list of calls comes to on a keeper. Assumes nothing.
-- Several clauses say `Made K.live K.meaning`: it relates two keepers, so no type can hold it, and says that a live one
-- is left live, which the field `lives` of `Slots` holds only truncated.
--   called c m    the meaning m after the call c; a refused call leaves it
--   made cs m     the meaning after a list of calls, in that order
--   Made          a live keeper is left live, and the calls have been made on it
--   passes_in t hs, passes_out t hs   a pass from each of hs to t, or to each of hs from t
--   set_at m p k  the set of slot k of place p
--   held m s h    holder h is in the set of slot s, and neither is out of range
--   held_at m p k  that set of slot k of place p
use Rattle.std.specs.Prelude.{◌≡◌, ℕ, ◌+◌, ◌*◌, ◌&&◌, List, [], ◌∷◌, map}
use Rattle.keepers.specs.Meaning.{Meaning, is_slot, is_holder, begun, forgotten, passed}
use Rattle.order.specs.Slots.{Set}
use Rattle.order.specs.Work.{Call, begin, forget, pass}

abbrev pub called : Call → Meaning → Meaning
called (begin s t) m = begun m s t
called (forget s) m = forgotten m s
called (pass a b) m = passed m a b

abbrev pub made : List Call → Meaning → Meaning
made [] m = m
made (c ∷ cs) m = made cs (called c m)

abbrev pub Made : {K : Type 0} → (K → Type 0) → (K → Meaning) → List Call → K → K → Type 0
Made live meaning cs k k' = live k → live k' × (meaning k' ≡ made cs (meaning k))

abbrev pub set_at : Meaning → ℕ → ℕ → Set
set_at m p k = m.sets (9 * p + k)

abbrev pub held : Meaning → ℕ → Set
held m s h = is_slot s && is_holder h && m.sets s h

abbrev pub held_at : Meaning → ℕ → ℕ → Set
held_at m p k = held m (9 * p + k)

abbrev pub passes_in : ℕ → List ℕ → List Call
passes_in t hs = map (λ h. pass h t) hs

abbrev pub passes_out : ℕ → List ℕ → List Call
passes_out t hs = map (λ h. pass t h) hs
