-- What a lockset keeper means. Assumes nothing.
--
-- set_at xs s        the set for slot s, by the table xs
-- Carries old new a b s    a pass from a to b takes the set for slot s from the table old to the table new
-- locksets_mean k    the meaning of k: the sets of its table, for slots and holders in range, and its count
-- no_sets            the keeper with empty sets and no pass
use Rattle.std.specs.Prelude.{◌≡◌, ℕ, List, [], replicate, slice_index_or}
use Rattle.keepers.specs.Meaning.{Meaning}
use Rattle.keepers.specs.Tables.{table}
use Rattle.locksets.specs.Sets.{member, no_holder, carried, Wide}
use Rattle.locksets.specs.declared.keeper.Locksets.{Locksets}
use Rattle.locksets.specs.declared.set.LockSet.{LockSet}

-- what stands where there is no slot
abbrev pub no_set : LockSet
no_set = record { words = [] }

abbrev pub set_at : List LockSet → ℕ → LockSet
set_at xs s = slice_index_or xs s no_set

abbrev pub Carries : List LockSet → List LockSet → ℕ → ℕ → ℕ → Type 0
Carries old new from to s = (set_at new s ≡ carried (set_at old s) from to) × Wide (set_at old s) to

unfoldable pub locksets_mean : Locksets → Meaning
locksets_mean k = record { sets = table no_set member k.sets; passes = k.passes }

abbrev pub no_sets : Locksets
no_sets = record { sets = replicate 576 no_holder; passes = 0 }
