-- What a clock keeper means, and what holds of it once it has been cleared. Assumes nothing.
--
-- clock_at k h t    how far holder h has heard of thread t
-- epoch_at k s      the time of the access that began slot s, if any
-- reached e f       an access of time e is known to a holder that has heard f
-- clocks_mean k     the meaning of k: a slot's set is every holder that its access has reached
-- joined            what each holder has heard after b takes over what a has heard
-- moved             the same after a's own count then moves on, if a is a thread
-- Running k         k has been cleared:
--   ahead             nobody has heard as much of a thread as the thread itself
--   bounded           a count is at most one more than the passes, so none runs out before the limit
--   past              a slot's access is one of a thread, and not in the thread's future
use Rattle.std.specs.Prelude.{◌≡◌, ℕ, ◌+◌, ◌-◌, ◌^◌, ◌<◌, ◌≤◌, min, max, Bool, false, cond, ◌&&◌, replicate, Some, None, Option, ◌==◌, ◌≢◌, nat_le, slice_index_or, slice_set}
use Rattle.keepers.specs.Meaning.{Meaning, is_thread}
use Rattle.keepers.specs.Tables.{table}
use Rattle.clocks.specs.Vectors.{heard_of}
use Rattle.clocks.specs.declared.keeper.Clocks.{Clocks}
use Rattle.clocks.specs.declared.vector.Epoch.{Epoch}

abbrev pub clock_at : Clocks → ℕ → ℕ → ℕ
clock_at k h t = heard_of k.clocks h t

abbrev pub epoch_at : Clocks → ℕ → Option Epoch
epoch_at k s = slice_index_or k.epochs s None

abbrev pub reached : Option Epoch → (ℕ → ℕ) → Bool
reached None heard = false
reached (Some e) heard = nat_le e.count (heard e.thread)

abbrev pub joined : (ℕ → ℕ → ℕ) → ℕ → ℕ → ℕ → ℕ → ℕ
joined f a b h t = cond (h == b) (max (f b t) (f a t)) (f h t)

abbrev pub moved : (ℕ → ℕ → ℕ) → ℕ → ℕ → ℕ → ℕ → ℕ
moved f a b h t = cond (h == a && (is_thread t && t == a)) (min (joined f a b h t + 1) (2 ^ 32 - 1)) (joined f a b h t)

unfoldable pub clocks_mean : Clocks → Meaning
clocks_mean k = record { sets = table None (λ e h. reached e (clock_at k h)) k.epochs; passes = k.passes }

pub record Run (clock : ℕ → ℕ → ℕ) (epoch : ℕ → Option Epoch) (passes : ℕ) : Type 0 where
  pub ahead : (h t : ℕ) → h < 136 → t < 8 → (h ≢ t) → clock h t < clock t t
  pub bounded : (h t : ℕ) → h < 136 → t < 8 → clock h t ≤ passes + 1
  pub past : (s : ℕ) (e : Epoch) → s < 576 → epoch s ≡ Some e → (e.thread < 8) × (e.count ≤ clock e.thread e.thread)

abbrev pub Running : Clocks → Type 0
Running k = Run (clock_at k) (epoch_at k) k.passes

-- k with the epoch of a slot replaced
abbrev pub with_epoch : Clocks → ℕ → Option Epoch → Clocks
with_epoch k slot v = record { clocks = k.clocks; epochs = slice_set k.epochs slot v; passes = k.passes }

-- how a clear leaves a keeper: each thread has heard of itself alone, no access and no pass was made
abbrev pub Started : Clocks → Type 0
Started k = ((h t : ℕ) → h < 136 → t < 8 → clock_at k h t ≡ cond (h == t) 1 0) × (k.epochs ≡ replicate 576 None) × (k.passes ≡ 0)
