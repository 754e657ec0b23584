-- What an event in bounds does to a keeper's sets and to its count of passes. Assumes nothing.
use Rattle.std.specs.List.{AllByRecursion}
use Rattle.std.proofs.Common.{◌≡◌, ℕ, zero, suc, ◌+◌, ◌*◌, ◌<◌, ◌≤◌, Bool, true, false, cond, eqb, List, [], ◌∷◌, ◌++◌, sym, refl, ap, ◌∙◌, arith}
use Rattle.std.proofs.ByRecursion.{All-append}
use mathlib.Core.Path.{fun_ext}
use Rattle.events.specs.declared.Event.{Event}
use Rattle.events.specs.declared.Action.{Action}
use Rattle.events.specs.declared.Action.TheVariants.{Read, Write, Acquire, Release, ReadFlag, WriteFlag, Fork, Join, Allocate, Commit}
use Rattle.events.specs.Places.{member}
use Rattle.keepers.specs.Meaning.{Meaning}
use Rattle.keepers.proofs.Laws.{sets_begun, sets_forgotten, sets_passed, passes_begun, passes_forgotten, passes_passed}
use Rattle.order.specs.Slots.{Set, taken, given}
use Rattle.order.specs.Work.{Call, begin, forget, pass, forget_from, written, looked_at, committed, accesses, calls, passes_of}
use Rattle.order.proofs.Work.{calls_work, Sets, done, all_done}
use Rattle.order.proofs.PassCounts.{calls_passes, passes_made}
use Rattle.order.proofs.Passes.{worked, nobody, only}
use Rattle.slots.specs.Bounds.{InBounds}
use Rattle.slots.specs.Made.{called, made, passes_in, passes_out, set_at}
use Rattle.slots.proofs.Ranges.{Ranged, in_range, thread_in_range, taken_holders, given_holders}
use Rattle.slots.proofs.Places.{AllHolders}

-- the call's numbers are in range
abbrev Fits : Call → Type 0
Fits (begin s t) = (s < 576) × (t < 8)
Fits (forget s) = s < 576
Fits (pass a b) = (a < 136) × (b < 136)

cond_at : (b : Bool) (f g : Set) (h : ℕ) → cond b f g h ≡ cond b (f h) (g h)
cond_at true f g h = refl
cond_at false f g h = refl

-- one call that is not refused
sets_called : (c : Call) (m : Meaning) → Fits c → m.passes + passes_made (c ∷ []) ≤ 200000000 → (called c m).sets ≡ done c m.sets
sets_called (begin i t) m fits few =
    fun_ext (λ s. fun_ext (λ h. sets_begun i t fits.0 fits.1 m s h ∙ sym (cond_at (eqb s i) (only t) (m.sets s) h)))
sets_called (forget i) m fits few = fun_ext (λ s. fun_ext (λ h. sets_forgotten i fits m s h ∙ sym (cond_at (eqb s i) nobody (m.sets s) h)))
sets_called (pass a b) m fits few = fun_ext (λ s. fun_ext (λ h. sets_passed m a b fits.0 fits.1 (omega arith) s h))

passes_called : (c : Call) (m : Meaning) → Fits c → m.passes + passes_made (c ∷ []) ≤ 200000000 → (called c m).passes ≡ m.passes + passes_made (c ∷ [])
passes_called (begin i t) m fits few = passes_begun m i t ∙ omega arith
passes_called (forget i) m fits few = passes_forgotten m i ∙ omega arith
passes_called (pass a b) m fits few = passes_passed m a b fits.0 fits.1 (omega arith)

counted : (c : Call) (cs : List Call) → passes_made (c ∷ cs) ≡ passes_made (c ∷ []) + passes_made cs
counted (begin i t) cs = omega arith
counted (forget i) cs = omega arith
counted (pass a b) cs = omega arith

-- a list of calls, none of which is refused
pub made_in_range : (cs : List Call) (m : Meaning) → AllByRecursion Fits cs → m.passes + passes_made cs ≤ 200000000 → ((made cs m).sets ≡ all_done cs m.sets) × ((made cs m).passes ≡ m.passes + passes_made cs)
unfolding all_done
made_in_range [] m fits few = (refl, omega arith)
made_in_range (c ∷ cs) m fits few =
    let both = counted c cs in
    let one = passes_called c m fits.0 (omega arith) in
    let rest = made_in_range cs (called c m) fits.1 (omega arith) in
    (rest.0 ∙ ap (all_done cs) (sets_called c m fits.0 (omega arith)), rest.1 ∙ omega arith)

-- the calls of an event in bounds are in range
fits_in : (t : ℕ) (hs : List ℕ) → t < 8 → AllHolders hs → AllByRecursion Fits (passes_in t hs)
fits_in t [] l small = tt
fits_in t (h ∷ hs) l small = ((small.0, omega arith), fits_in t hs l small.1)

fits_out : (t : ℕ) (hs : List ℕ) → t < 8 → AllHolders hs → AllByRecursion Fits (passes_out t hs)
fits_out t [] l small = tt
fits_out t (h ∷ hs) l small = ((omega arith, small.0), fits_out t hs l small.1)

fits_forgetting : (n i : ℕ) → i + n ≤ 576 → AllByRecursion Fits (forget_from n i)
unfolding forget_from
fits_forgetting zero i l = tt
fits_forgetting (suc n) i l = (omega arith, fits_forgetting n (i + 1) (omega arith))

fits_writing : (t p : ℕ) → t < 8 → p < 64 → AllByRecursion Fits (written t p)
fits_writing t p l place = ((omega arith, l), fits_forgetting 8 (9 * p + 1) (omega arith))

fits_reading : (t p : ℕ) → t < 8 → p < 64 → AllByRecursion Fits (looked_at t p)
fits_reading t p l place = ((omega arith, l), tt)

fits_committing : (n t r w : ℕ) → n ≤ 64 → t < 8 → AllByRecursion Fits (committed n t r w)
unfolding committed
fits_committing zero t r w l thread = tt
fits_committing (suc n) t r w l thread =
    All-append Fits (committed n t r w) _ (fits_committing n t r w (omega arith) thread) (part (member w n) (member r n))
  where
    part : (x y : Bool) → AllByRecursion Fits (cond x (written t n) (cond y (looked_at t n) []))
    part true y = fits_writing t n thread (omega arith)
    part false true = fits_reading t n thread (omega arith)
    part false false = tt

fits_accessing : (t : ℕ) (a : Action) → t < 8 → Ranged a → AllByRecursion Fits (accesses t a)
fits_accessing t (Read p) l r = fits_reading t p l r
fits_accessing t (Write p) l r = fits_writing t p l r
fits_accessing t (Acquire q) l r = tt
fits_accessing t (Release q) l r = tt
fits_accessing t (ReadFlag f) l r = tt
fits_accessing t (WriteFlag f) l r = tt
fits_accessing t (Fork u) l r = tt
fits_accessing t (Join u) l r = tt
fits_accessing t (Allocate o) l r = fits_forgetting 36 (36 * o) (omega arith)
fits_accessing t (Commit x y) l r = fits_committing 64 t x.word y.word (omega arith) l

fits_all : (e : Event) → InBounds e → AllByRecursion Fits (calls e)
unfolding calls
fits_all e bounds =
    let t = e.thread in
    let a = e.action in
    let l = thread_in_range e bounds in
    let r = in_range e bounds in
    All-append Fits (passes_in t (taken a)) (accesses t a ++ passes_out t (given a))
    (fits_in t (taken a) l (taken_holders a r))
    (All-append Fits (accesses t a) (passes_out t (given a)) (fits_accessing t a l r) (fits_out t (given a) l (given_holders a r)))

module _ (e : Event) (bounds : InBounds e) (m : Meaning) (few : m.passes + passes_of e ≤ 200000000) where
  all_made : ((made (calls e) m).sets ≡ all_done (calls e) m.sets) × ((made (calls e) m).passes ≡ m.passes + passes_made (calls e))
  all_made = let count = calls_passes e in made_in_range (calls e) m (fits_all e bounds) (omega arith)

  -- each slot's set is worked on as its rule says
  pub made_sets : (p k : ℕ) → p < 64 → k < 9 → set_at (made (calls e) m) p k ≡ worked e p k (set_at m p k)
  made_sets p k place slot =
      ap (λ (f : Sets). f (9 * p + k)) all_made.0 ∙ calls_work e (thread_in_range e bounds) m.sets p k place slot

  -- and every pass is counted
  pub made_passes : (made (calls e) m).passes ≡ m.passes + passes_of e
  made_passes = all_made.1 ∙ ap (λ n. m.passes + n) (calls_passes e)
