-- Sets that a keeper holds in a table with an entry for each slot. Assumes nothing.
--
-- none                     what is read where the table has no entry
-- has e h                  holder h is in the set that the entry e stands for
-- table none has xs s h    holder h is in the set of slot s, by the table xs; nothing is out of range
use Rattle.std.specs.Prelude.{ℕ, Bool, ◌&&◌, List, slice_index_or}
use Rattle.keepers.specs.Meaning.{is_slot, is_holder}

abbrev pub table : {E : Type 0} → E → (E → ℕ → Bool) → List E → ℕ → ℕ → Bool
table none has xs s h = is_slot s && (is_holder h && has (slice_index_or xs s none) h)
