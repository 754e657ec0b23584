-- The number of each refusal of a keeper. Assumes nothing.
use Rattle.std.specs.Prelude.{ℕ}
use Rattle.keepers.specs.declared.fault.KeeperFault.{KeeperFault}
use Rattle.keepers.specs.declared.fault.KeeperFault.TheVariants.{OutOfRange, PassLimit}

abbrev pub fault_number : KeeperFault → ℕ
fault_number OutOfRange = 20
fault_number PassLimit = 21
