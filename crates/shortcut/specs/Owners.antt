-- What the table of owners remembers, and when it agrees with a keeper. Assumes nothing.
--
-- owner_at o s            the thread that the table o remembers for slot s, if any
-- no_owners               nobody is remembered
-- Remembers o o' slot v   the table o' has v for the slot, where there is such a slot, and for every other what o has
-- Owned m o               whom o remembers for a slot is a thread in the slot's set; where it remembers nobody, the set is
--                         empty, so that whoever began a slot is remembered while the slot has anybody
use Rattle.std.specs.Prelude.{◌≡◌, ◌≢◌, ℕ, ◌<◌, true, false, cond}
use Rattle.std.specs.Prelude.{replicate, Some, None, Option, slice_index_or}
use Rattle.keepers.specs.Meaning.{Meaning, is_slot}
use Rattle.shortcut.specs.declared.owners.OwnerTable.{OwnerTable}

abbrev pub owner_at : OwnerTable → ℕ → Option ℕ
owner_at o s = cond (is_slot s) (slice_index_or o.owners s None) None

abbrev pub no_owners : OwnerTable
no_owners = record { owners = replicate 576 None }

pub record Remembers (old new : OwnerTable) (slot : ℕ) (v : Option ℕ) : Type 0 where
  pub here : slot < 576 → owner_at new slot ≡ v
  pub others : (s : ℕ) → s ≢ slot → owner_at new s ≡ owner_at old s

pub record Owned (m : Meaning) (o : OwnerTable) : Type 0 where
  pub owned : (s t : ℕ) → owner_at o s ≡ Some t → (s < 576) × (t < 8) × (m.sets s t ≡ true)
  pub remembered : (s h : ℕ) → s < 576 → owner_at o s ≡ None → m.sets s h ≡ false
