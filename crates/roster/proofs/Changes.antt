-- The changes kind by kind are those of forks, joins, acquires and releases. Assumes nothing.
use Rattle.std.proofs.Common.{◌≡◌, ℕ, Bool, true, false, cond, not, ◌&&◌, ◌||◌, eqb, ltb, Some, None, Option, refl, sym, ap, ◌∙◌}
use Rattle.std.proofs.lemmas.Bool.{cond-false}
use mathlib.Core.Path.{fun_ext}
use Rattle.events.specs.declared.Event.{Event}
use Rattle.events.specs.declared.Action.{Action}
use Rattle.events.specs.declared.Action.TheVariants.{Read, Write, Acquire, Release, ReadFlag, WriteFlag, Fork, Join, Allocate, Commit}
use Rattle.order.specs.Acts.{by, does, acquires, releases, forks, joins}
use Rattle.roster.specs.declared.roster.Roster.{Roster}
use Rattle.roster.specs.declared.roster.ThreadState.{ThreadState}
use Rattle.roster.specs.declared.roster.ThreadState.TheVariants.{Unstarted, Running, Ended}
use Rattle.roster.specs.Follows.{Noted}
use Rattle.roster.specs.States.{has_begun, is_over, state_of, holders}

-- what an action makes of thread u's state s, and, done by thread t, of lock l held by h
abbrev state_after : Action → ℕ → ThreadState → ThreadState
state_after (Fork c) u s = cond (ltb u 8 && eqb c u) Running s
state_after (Join c) u s = cond (ltb u 8 && eqb c u) Ended s
state_after (Read p) u s = s
state_after (Write p) u s = s
state_after (Acquire k) u s = s
state_after (Release k) u s = s
state_after (ReadFlag f) u s = s
state_after (WriteFlag f) u s = s
state_after (Allocate o) u s = s
state_after (Commit r w) u s = s

abbrev holder_after : ℕ → Action → ℕ → Option ℕ → Option ℕ
holder_after t (Acquire k) l h = cond (ltb l 32 && eqb k l) (Some t) h
holder_after t (Release k) l h = cond (eqb k l) None h
holder_after t (Read p) l h = h
holder_after t (Write p) l h = h
holder_after t (ReadFlag f) l h = h
holder_after t (WriteFlag f) l h = h
holder_after t (Fork c) l h = h
holder_after t (Join c) l h = h
holder_after t (Allocate o) l h = h
holder_after t (Commit r w) l h = h

-- in plain tests: x that the number is in range, y that it is the one named
fork_begins : (x y : Bool) (s : ThreadState) → has_begun (cond (x && y) Running s) ≡ (x && (y || false) || has_begun s)
fork_begins true true s = refl
fork_begins true false s = refl
fork_begins false y s = refl

join_begins : (x y : Bool) (s : ThreadState) → has_begun (cond (x && y) Ended s) ≡ (x && (false || y) || has_begun s)
join_begins true true s = refl
join_begins true false s = refl
join_begins false y s = refl

none_begins : (x b : Bool) → b ≡ (x && (false || false) || b)
none_begins true b = refl
none_begins false b = refl

fork_ends : (x y : Bool) (s : ThreadState) → (x ≡ false → s ≡ Unstarted) → is_over (cond (x && y) Running s) ≡ (x && false || not y && is_over s)
fork_ends true true s h = refl
fork_ends true false s h = refl
fork_ends false true s h = ap is_over (h refl)
fork_ends false false s h = refl

join_ends : (x y : Bool) (s : ThreadState) → is_over (cond (x && y) Ended s) ≡ (x && y || not false && is_over s)
join_ends true true s = refl
join_ends true false s = refl
join_ends false y s = refl

none_ends : (x b : Bool) → b ≡ (x && false || not false && b)
none_ends true b = refl
none_ends false b = refl

not_taken : {X : Type 0} (x : Bool) (a b : X) → b ≡ cond (x && false) a b
not_taken true a b = refl
not_taken false a b = refl

begun_after : (t : ℕ) (a : Action) (u : ℕ) (s : ThreadState) → has_begun (state_after a u s) ≡ (ltb u 8 && (forks (by t a) u || joins (by t a) u) || has_begun s)
unfolding does
begun_after t (Fork c) u s = fork_begins (ltb u 8) (eqb c u) s
begun_after t (Join c) u s = join_begins (ltb u 8) (eqb c u) s
begun_after t (Read p) u s = none_begins (ltb u 8) (has_begun s)
begun_after t (Write p) u s = none_begins (ltb u 8) (has_begun s)
begun_after t (Acquire l) u s = none_begins (ltb u 8) (has_begun s)
begun_after t (Release l) u s = none_begins (ltb u 8) (has_begun s)
begun_after t (ReadFlag f) u s = none_begins (ltb u 8) (has_begun s)
begun_after t (WriteFlag f) u s = none_begins (ltb u 8) (has_begun s)
begun_after t (Allocate o) u s = none_begins (ltb u 8) (has_begun s)
begun_after t (Commit r w) u s = none_begins (ltb u 8) (has_begun s)

over_after : (t : ℕ) (a : Action) (u : ℕ) (s : ThreadState) → (ltb u 8 ≡ false → s ≡ Unstarted) → is_over (state_after a u s) ≡ (ltb u 8 && joins (by t a) u || not (forks (by t a) u) && is_over s)
unfolding does
over_after t (Fork c) u s h = fork_ends (ltb u 8) (eqb c u) s h
over_after t (Join c) u s h = join_ends (ltb u 8) (eqb c u) s
over_after t (Read p) u s h = none_ends (ltb u 8) (is_over s)
over_after t (Write p) u s h = none_ends (ltb u 8) (is_over s)
over_after t (Acquire l) u s h = none_ends (ltb u 8) (is_over s)
over_after t (Release l) u s h = none_ends (ltb u 8) (is_over s)
over_after t (ReadFlag f) u s h = none_ends (ltb u 8) (is_over s)
over_after t (WriteFlag f) u s h = none_ends (ltb u 8) (is_over s)
over_after t (Allocate o) u s h = none_ends (ltb u 8) (is_over s)
over_after t (Commit r w) u s h = none_ends (ltb u 8) (is_over s)

held_after : (t : ℕ) (a : Action) (l : ℕ) (h : Option ℕ) → holder_after t a l h ≡ cond (ltb l 32 && acquires (by t a) l) (Some t) (cond (releases (by t a) l) None h)
unfolding does
held_after t (Acquire k) l h = refl
held_after t (Release k) l h = not_taken (ltb l 32) (Some t) (cond (eqb k l) None h)
held_after t (Read p) l h = not_taken (ltb l 32) (Some t) h
held_after t (Write p) l h = not_taken (ltb l 32) (Some t) h
held_after t (ReadFlag f) l h = not_taken (ltb l 32) (Some t) h
held_after t (WriteFlag f) l h = not_taken (ltb l 32) (Some t) h
held_after t (Fork c) l h = not_taken (ltb l 32) (Some t) h
held_after t (Join c) l h = not_taken (ltb l 32) (Some t) h
held_after t (Allocate o) l h = not_taken (ltb l 32) (Some t) h
held_after t (Commit r w) l h = not_taken (ltb l 32) (Some t) h

pub noted_from : (r r' : Roster) (e : Event) → ((t : ℕ) → state_of r' t ≡ state_after e.action t (state_of r t)) → ((l : ℕ) → holders r' l ≡ holder_after e.thread e.action l (holders r l)) → Noted r e r'
noted_from r r' e threads locks =
    record {
      starts = fun_ext (λ t. ap has_begun (threads t) ∙ begun_after e.thread e.action t (state_of r t));
      ends = fun_ext (λ t. ap is_over (threads t) ∙ over_after e.thread e.action t (state_of r t) (λ h. cond-false (ltb t 8) _ Unstarted h));
      locked = fun_ext (λ l. locks l ∙ held_after e.thread e.action l (holders r l));
    }

-- where it is known which action the event does
pub noted_by : (r r' : Roster) (e : Event) (a : Action) → e.action ≡ a → ((t : ℕ) → state_of r' t ≡ state_after a t (state_of r t)) → ((l : ℕ) → holders r' l ≡ holder_after e.thread a l (holders r l)) → Noted r e r'
noted_by r r' e a is threads locks =
    noted_from r r' e (λ t. threads t ∙ ap (λ b. state_after b t (state_of r t)) (sym is)) (λ l. locks l ∙ ap (λ b. holder_after e.thread b l (holders r l)) (sym is))
