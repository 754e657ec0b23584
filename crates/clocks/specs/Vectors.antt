-- What a clock vector says. Assumes nothing.
--
-- count_at v t     how far v has heard of thread t; 0 for a number that is no thread
-- no_clock         what stands where there is no holder
-- heard_of vs h t  how far holder h has heard of thread t, by the vectors of all holders
-- never_heard      a vector that has heard of no thread
use Rattle.std.specs.Prelude.{ℕ, cond, List, [], ◌∷◌, slice_index, slice_index_or}
use Rattle.keepers.specs.Meaning.{is_thread}
use Rattle.clocks.specs.declared.vector.ClockVector.{ClockVector}

abbrev pub count_at : ClockVector → ℕ → ℕ
count_at v t = cond (is_thread t) (slice_index v.counts t) 0

abbrev pub no_clock : ClockVector
no_clock = record { counts = [] }

abbrev pub heard_of : List ClockVector → ℕ → ℕ → ℕ
heard_of vs h t = count_at (slice_index_or vs h no_clock) t

abbrev pub never_heard : ClockVector
never_heard = record { counts = 0 ∷ 0 ∷ 0 ∷ 0 ∷ 0 ∷ 0 ∷ 0 ∷ 0 ∷ [] }
