-- Statements about the judgement that stand beside the promise. Assumes nothing.
use Rattle.std.specs.Prelude.{◌≡◌, ℕ, suc, ◌*◌, ◌^◌, ◌<◌, ◌↔◌, List, length, Some, Decides, bit_or, count_ones}
use Rattle.events.specs.declared.Event.{Event}
use Rattle.events.specs.declared.Action.TheVariants.{Read, Commit}
use Rattle.events.specs.declared.places.PlaceSet.{PlaceSet}
use Rattle.order.specs.Acts.{by}
use Rattle.order.specs.Holders.{of_thread, reached}
use Rattle.order.specs.Judgement.{Answer}
use Rattle.order.specs.Order.{Ordered, ordered}
use Rattle.order.specs.Slots.{slot_access}
use Rattle.order.specs.Verdicts.{LatestWrite, LatestRead, Before, Right}
use Rattle.order.specs.Work.{passes_of}

abbrev pub OrderDecided : Type 0
OrderDecided = (rec : List Event) (i j : ℕ) → Decides (ordered rec i j) (Ordered rec i j)

-- an access has reached a thread just if it is ordered before what that thread would read next
abbrev pub ReachedOrdered : Type 0
ReachedOrdered =
    (rec : List Event) (i t p : ℕ) → i < length rec → Decides (reached rec i (of_thread t)) (Before rec (by t (Read p)) i)

-- a write slot stands for the latest write of the life, and a read slot for its thread's latest read, if that is newer
abbrev pub SlotStands : Type 0
SlotStands =
    (rec : List Event) (p t i : ℕ) →
    ((slot_access rec p 0 ≡ Some i) ↔ LatestWrite rec p i)
    × ((slot_access rec p (suc t) ≡ Some i) ↔ (LatestRead rec p t i × ((w : ℕ) → LatestWrite rec p w → w < i)))

-- no two answers to an offered event are right
abbrev pub OneRight : Type 0
OneRight = (rec : List Event) (e : Event) (a b : Answer) → Right rec e a → Right rec e b → a ≡ b

abbrev pub CommitPasses : Type 0
CommitPasses =
    (t : ℕ) (r w : PlaceSet) → r.word < 2 ^ 64 → w.word < 2 ^ 64 → passes_of (by t (Commit r w)) ≡ 2 * count_ones (bit_or r.word w.word)
