-- The serials of the slots, and what accesses make of them. Assumes nothing.
--   number_at t s      the serial of slot s in the table t, 0 where it is empty or out of range
--   some_serial n      the serial n, if it is one
--   serial_at t p k    the serial of slot k of place p: k is 0 for its write, u + 1 for thread u's read
--   Numbered t t' f    each serial of t' is what f makes of that of t, by place and slot
--   Emptied t t' i n   t' is t with n slots from i on emptied
--   by_read q u n, by_write q n, by_commit r w u n   what an access with the serial n makes of them
use Rattle.std.specs.Prelude.{◌≡◌, ℕ, ◌+◌, ◌*◌, ◌<◌, cond, ◌&&◌, ◌==◌, nat_le, nat_lt, slice_index, Option, Some, None}
use Rattle.events.specs.Places.{member}
use Rattle.keepers.specs.Meaning.{is_slot}
use Rattle.slots.specs.declared.serials.Serials.{Serials}

unfoldable pub number_at : Serials → ℕ → ℕ
number_at t s = cond (is_slot s) (slice_index t.numbers s) 0

abbrev pub some_serial : ℕ → Option ℕ
some_serial n = cond (n == 0) None (Some n)

abbrev pub serial_at : Serials → ℕ → ℕ → ℕ
serial_at t p k = number_at t (9 * p + k)

abbrev pub Numbered : Serials → Serials → (ℕ → ℕ → ℕ → ℕ) → Type 0
Numbered t t' f = (p k : ℕ) → p < 64 → k < 9 → serial_at t' p k ≡ f p k (serial_at t p k)

abbrev pub Emptied : Serials → Serials → ℕ → ℕ → Type 0
Emptied t t' i n = (s : ℕ) → s < 576 → number_at t' s ≡ cond (nat_le i s && nat_lt s (i + n)) 0 (number_at t s)

unfoldable pub by_read : ℕ → ℕ → ℕ → ℕ → ℕ → ℕ → ℕ
by_read q u n p k x = cond (q == p && k == u + 1) n x

unfoldable pub by_write : ℕ → ℕ → ℕ → ℕ → ℕ → ℕ
by_write q n p k x = cond (q == p) (cond (k == 0) n 0) x

unfoldable pub by_commit : ℕ → ℕ → ℕ → ℕ → ℕ → ℕ → ℕ → ℕ
by_commit r w u n p k x = cond (member w p) (cond (k == 0) n 0) (cond (member r p && k == u + 1) n x)
