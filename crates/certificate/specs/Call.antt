-- The kinds of keeper and the faults of a call, by number. Assumes nothing.
--   NamedBy n r       r is the kind of keeper of number n, or the fault where there is none
--   fault_answer f    what a host is answered for the fault f: -22 or -19
--   fault_words f     what the fault f means
use Rattle.std.specs.Prelude.{◌≡◌, ℕ, ◌≤◌, List, ℤ, negsuc, codes, Ok, Err, Result}
use Rattle.certificate.specs.declared.call.KeeperKind.{KeeperKind}
use Rattle.certificate.specs.declared.call.KeeperKind.TheVariants.{Locksets, Clocks, LayeredLocksets, LayeredClocks}
use Rattle.certificate.specs.declared.call.CallFault.{CallFault}
use Rattle.certificate.specs.declared.call.CallFault.TheVariants.{NoSuchKind, NoRoom}

abbrev pub kind_number : KeeperKind → ℕ
kind_number Locksets = 1
kind_number Clocks = 2
kind_number LayeredLocksets = 3
kind_number LayeredClocks = 4

abbrev pub NamedBy : ℕ → Result KeeperKind CallFault → Type 0
NamedBy n (Ok kind) = n ≡ kind_number kind
NamedBy n (Err fault) = (fault ≡ NoSuchKind) × (1 ≤ n → n ≤ 4 → ⊥)

abbrev pub fault_answer : CallFault → ℤ
fault_answer NoSuchKind = negsuc 21
fault_answer NoRoom = negsuc 18

abbrev pub fault_words : CallFault → List ℕ
fault_words NoSuchKind = codes "there is no such kind of keeper"
fault_words NoRoom = codes "the certificate does not fit the buffer"
