-- The tests kind by kind are those that refuse an event by number. Assumes nothing.
use Rattle.std.proofs.Common.{◌≡◌, ℕ, Bool, true, false, cond, not, ◌||◌, leb, Some, None, Option, sym, refl, ap, ◌∙◌}
use Rattle.std.proofs.Math.Bool.{or-false}
use Rattle.events.specs.declared.Event.{Event}
use Rattle.events.specs.declared.Action.{Action}
use Rattle.events.specs.declared.Action.TheVariants.{Read, Write, Acquire, Release, ReadFlag, WriteFlag, Fork, Join, Allocate, Commit}
use Rattle.order.specs.Acts.{by}
use Rattle.order.specs.Faults.{held_by, no_such_thread, no_such_thing, not_running, forked_before, joins_amiss, lock_held, lock_not_held, joined_holds, record_full}
use Rattle.order.specs.Searches.{or_else}
use Rattle.order.proofs.Faults.{rule_is}
use Rattle.roster.specs.declared.roster.Roster.{Roster}
use Rattle.roster.specs.declared.roster.ThreadState.{ThreadState}
use Rattle.roster.specs.declared.roster.ThreadState.TheVariants.{Unstarted, Running, Ended}
use Rattle.roster.specs.Checks.{strange_thread, strange_thing, range_number, child_number, state_number, lock_number, count_number}
use Rattle.roster.specs.Numbers.{refused}
use Rattle.roster.specs.States.{holds_some, has_begun, is_over, state_of, begun, over, holders}

cond_not : {X : Type 0} (b : Bool) (x y : X) → cond b x y ≡ cond (not b) y x
cond_not true x y = refl
cond_not false x y = refl

thread_is : (t : ℕ) (a : Action) → strange_thread t a ≡ no_such_thread (by t a)
unfolding no_such_thread
thread_is t (Fork u) = refl
thread_is t (Join u) = refl
thread_is t (Read p) = sym (or-false (leb 8 t))
thread_is t (Write p) = sym (or-false (leb 8 t))
thread_is t (Acquire l) = sym (or-false (leb 8 t))
thread_is t (Release l) = sym (or-false (leb 8 t))
thread_is t (ReadFlag f) = sym (or-false (leb 8 t))
thread_is t (WriteFlag f) = sym (or-false (leb 8 t))
thread_is t (Allocate o) = sym (or-false (leb 8 t))
thread_is t (Commit r w) = sym (or-false (leb 8 t))

thing_is : (t : ℕ) (a : Action) → strange_thing a ≡ no_such_thing (by t a)
unfolding no_such_thing
thing_is t (Read p) = sym (or-false (leb 64 p || false) ∙ or-false (leb 64 p))
thing_is t (Write p) = sym (or-false (leb 64 p || false) ∙ or-false (leb 64 p))
thing_is t (Acquire l) = sym (or-false (leb 32 l))
thing_is t (Release l) = sym (or-false (leb 32 l))
thing_is t (ReadFlag f) = sym (or-false (leb 32 f))
thing_is t (WriteFlag f) = sym (or-false (leb 32 f))
thing_is t (Allocate o) = refl
thing_is t (Fork u) = refl
thing_is t (Join u) = refl
thing_is t (Commit r w) = refl

range_is : (t : ℕ) (a : Action) → range_number t a ≡ cond (no_such_thread (by t a)) (Some 1) (cond (no_such_thing (by t a)) (Some 2) None)
range_is t a = λ i. cond (thread_is t a i) (Some 1) (cond (thing_is t a i) (Some 2) None)

child_is : (f : ℕ → Bool) (t : ℕ) (a : Action) → child_number f t a ≡ cond (forked_before f (by t a)) (Some 4) (cond (joins_amiss f (by t a)) (Some 5) None)
unfolding forked_before joins_amiss
child_is f t (Fork u) = refl
child_is f t (Join u) = refl
child_is f t (Read p) = refl
child_is f t (Write p) = refl
child_is f t (Acquire l) = refl
child_is f t (Release l) = refl
child_is f t (ReadFlag g) = refl
child_is f t (WriteFlag g) = refl
child_is f t (Allocate o) = refl
child_is f t (Commit r w) = refl

state_parts : (s : ThreadState) (f : ℕ → Bool) (t : ℕ) (a : Action) → state_number s f t a ≡ cond (not (has_begun s) || is_over s) (Some 3) (child_number f t a)
state_parts Unstarted f t a = refl
state_parts Running f t a = refl
state_parts Ended f t a = refl

lock_is : (h : ℕ → Option ℕ) (t : ℕ) (a : Action) → lock_number h t a ≡ cond (lock_held h (by t a)) (Some 6) (cond (lock_not_held h (by t a)) (Some 7) (cond (joined_holds h (by t a)) (Some 8) None))
unfolding lock_held lock_not_held joined_holds holds_some
lock_is h t (Acquire l) = refl
lock_is h t (Release l) = cond_not (held_by (h l) t) None (Some 7)
lock_is h t (Join u) = refl
lock_is h t (Fork u) = refl
lock_is h t (Read p) = refl
lock_is h t (Write p) = refl
lock_is h t (ReadFlag f) = refl
lock_is h t (WriteFlag f) = refl
lock_is h t (Allocate o) = refl
lock_is h t (Commit r w) = refl

-- groups of tests one after another are the tests one after another
chain : (a b c d e f g h : Bool) (z : Option ℕ) → or_else (cond a (Some 1) (cond b (Some 2) None)) (or_else (cond c (Some 3) (cond d (Some 4) (cond e (Some 5) None))) (or_else (cond f (Some 6) (cond g (Some 7) (cond h (Some 8) None))) z)) ≡ cond a (Some 1) (cond b (Some 2) (cond c (Some 3) (cond d (Some 4) (cond e (Some 5) (cond f (Some 6) (cond g (Some 7) (cond h (Some 8) z)))))))
chain true b c d e f g h z = refl
chain false true c d e f g h z = refl
chain false false true d e f g h z = refl
chain false false false true e f g h z = refl
chain false false false false true f g h z = refl
chain false false false false false true g h z = refl
chain false false false false false false true h z = refl
chain false false false false false false false true z = refl
chain false false false false false false false false z = refl

abbrev first_number : Roster → ℕ → ℕ → Action → Option ℕ
first_number r n t a =
    or_else (range_number t a) (or_else (state_number (state_of r t) (begun r) t a) (or_else (lock_number (holders r) t a) (count_number n)))

-- the first of them all is the number that refuses the event
pub first_is_refused : (r : Roster) (n : ℕ) (e : Event) → first_number r n e.thread e.action ≡ refused r n e
unfolding not_running record_full
first_is_refused r n e =
    let t = e.thread in
    let a = e.action in
    let range = range_is t a in
    let child = child_is (begun r) t a in
    let states : state_number (state_of r t) (begun r) t a ≡ cond (not_running (begun r) (over r) e) (Some 3) (cond (forked_before (begun r) e) (Some 4) (cond (joins_amiss (begun r) e) (Some 5) None)) = state_parts (state_of r t) (begun r) t a ∙ ap (λ o. cond (not_running (begun r) (over r) e) (Some 3) o) child in
    let locks = lock_is (holders r) t a in
    let parts : first_number r n t a ≡ or_else (cond (no_such_thread e) (Some 1) (cond (no_such_thing e) (Some 2) None)) (or_else (cond (not_running (begun r) (over r) e) (Some 3) (cond (forked_before (begun r) e) (Some 4) (cond (joins_amiss (begun r) e) (Some 5) None))) (or_else (cond (lock_held (holders r) e) (Some 6) (cond (lock_not_held (holders r) e) (Some 7) (cond (joined_holds (holders r) e) (Some 8) None))) (count_number n))) = λ i. or_else (range i) (or_else (states i) (or_else (locks i) (count_number n))) in
    parts ∙ chain (no_such_thread e) (no_such_thing e) (not_running (begun r) (over r) e) (forked_before (begun r) e) (joins_amiss (begun r) e) (lock_held (holders r) e) (lock_not_held (holders r) e) (joined_holds (holders r) e) (count_number n) ∙ sym (rule_is (begun r) (over r) (holders r) n e)

-- so what the four groups of tests answer, one after another, is too
pub told : (r : Roster) (n : ℕ) (e : Event) (ranges states locks count : Option ℕ) → ranges ≡ range_number e.thread e.action → states ≡ state_number (state_of r e.thread) (begun r) e.thread e.action → locks ≡ lock_number (holders r) e.thread e.action → count ≡ count_number n → or_else ranges (or_else states (or_else locks count)) ≡ refused r n e
told r n e ranges states locks count f g h k = (λ i. or_else (f i) (or_else (g i) (or_else (h i) (k i)))) ∙ first_is_refused r n e
