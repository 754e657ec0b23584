-- What the front of a file says of the whole. Assumes nothing.
use Rattle.std.proofs.Common.{ℕ, List, Some, inl, inr}
use Rattle.events.specs.declared.Event.{Event}
use Rattle.trace.specs.declared.fault.Refusal.{Refusal}
use Rattle.trace.specs.Whole.{tagged, Refuses}
use Rattle.trace.specs.Fronts.{IsFrontOf}

-- reading the file comes to the refusal with which its front ends
pub front_refuses : (bytes counts : List ℕ) (events : List Event) (f : Refusal) → IsFrontOf bytes counts events (Some f) → Refuses bytes f
front_refuses bytes counts events f (inl (first, no_counts, no_events)) = inl first
front_refuses bytes counts events f (inr stops) = inr (tagged 1 counts events, stops.reads)
