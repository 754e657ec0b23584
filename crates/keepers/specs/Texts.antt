-- What is printed of a refusal. Assumes nothing.
--   fault_words f      what the fault f means
use Rattle.std.specs.Prelude.{ℕ, List, codes}
use Rattle.keepers.specs.declared.fault.KeeperFault.{KeeperFault}
use Rattle.keepers.specs.declared.fault.KeeperFault.TheVariants.{OutOfRange, PassLimit}

abbrev pub fault_words : KeeperFault → List ℕ
fault_words OutOfRange = codes "a slot, a holder or a thread is beyond its range"
fault_words PassLimit = codes "no more passes are counted"
