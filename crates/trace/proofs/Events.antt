-- The bytes of an event: how many there are. Assumes nothing.
use Rattle.std.proofs.Common.{◌≡◌, ℕ, ◌+◌, ◌≤◌, eqb, ◌++◌, length, refl, ap, arith}
use Rattle.std.proofs.lemmas.List.{length-append}
use Rattle.std.proofs.lemmas.Bool.{cond_both}
use Rattle.events.specs.declared.Event.{Event}
use Rattle.events.specs.declared.Action.{Action}
use Rattle.events.specs.declared.Action.TheVariants.{Read, Write, Acquire, Release, ReadFlag, WriteFlag, Fork, Join, Allocate, Commit}
use Rattle.trace.specs.Words.{bytes_of}
use Rattle.events.specs.Kinds.{kind}
use Rattle.trace.specs.Codec.{operands, size, event_bytes}
use Rattle.trace.proofs.Numbers.{length_bytes_of}

-- an event has at most 18 bytes
pub size_few : (k : ℕ) → size k ≤ 18
size_few k = cond_both (eqb k 9) 18 3 (λ n. n ≤ 18) (λ _. omega arith) (λ _. omega arith)

pub length_sets : (r w : ℕ) → length (bytes_of 8 r ++ bytes_of 8 w) ≡ 16
length_sets r w = let a = length_bytes_of 8 r in let b = length_bytes_of 8 w in omega (arith, length-append (bytes_of 8 r) (bytes_of 8 w))

length_operands : (a : Action) → 2 + length (operands a) ≡ size (kind a)
length_operands (Read p) = refl
length_operands (Write p) = refl
length_operands (Acquire l) = refl
length_operands (Release l) = refl
length_operands (ReadFlag f) = refl
length_operands (WriteFlag f) = refl
length_operands (Fork t) = refl
length_operands (Join t) = refl
length_operands (Allocate o) = refl
length_operands (Commit r w) = ap (λ n. 2 + n) (length_sets r.word w.word)

pub length_event : (e : Event) → length (event_bytes e) ≡ size (kind e.action)
length_event e = let n = length_operands e.action in omega arith
