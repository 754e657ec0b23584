-- How many passes an event makes: a commit twice as many as it has places, and none more than 128. Assumes nothing.
use Rattle.std.proofs.Common.{◌≡◌, ℕ, zero, suc, ◌+◌, ◌*◌, ◌^◌, ◌<◌, ◌≤◌, Bool, true, false, cond, ◌||◌, List, [], ◌∷◌, ◌++◌, map, length, sym, refl, ap, ◌∙◌, arith}
use mathlib.Core.Path.{fun_ext}
use lib.Bits.{bit_or, or_lt}
use lib.Count.{ones}
use lib.ListN.{length-map}
use Rattle.events.specs.declared.Event.{Event}
use Rattle.events.specs.declared.Action.{Action}
use Rattle.events.specs.declared.Action.TheVariants.{Read, Write, Acquire, Release, ReadFlag, WriteFlag, Fork, Join, Allocate, Commit}
use Rattle.events.specs.declared.PlaceSet.{PlaceSet}
use Rattle.events.specs.Places.{member, those_below}
use Rattle.events.proofs.Counts.{those_few, places_ones, member_or}
use Rattle.order.specs.Acts.{by}
use Rattle.order.specs.Work.{Call, begin, forget, pass, forget_from, written, looked_at, committed, accesses, calls, passes_of, passes_by}
use Rattle.order.specs.Slots.{place_holders, taken, given}

-- how many of the calls are passes
abbrev pub passes_made : List Call → ℕ
passes_made [] = 0
passes_made (begin i t ∷ cs) = passes_made cs
passes_made (forget i ∷ cs) = passes_made cs
passes_made (pass a b ∷ cs) = suc (passes_made cs)

-- the holders of two sets' places are as many as the places of their union
pub place_holders_union : (r w : ℕ) → length (place_holders r w) ≡ length (those_below 64 (member (bit_or r w)))
unfolding place_holders
place_holders_union r w =
    length-map (those_below 64 (λ p. member r p || member w p)) (λ p. 72 + p) ∙ ap (λ f. length (those_below 64 f)) (sym (fun_ext (member_or r w)))

place_holders_few : (r w : ℕ) → length (place_holders r w) ≤ 64
unfolding place_holders
place_holders_few r w = rw (length-map (those_below 64 (λ p. member r p || member w p)) (λ p. 72 + p)) (those_few 64 (λ p. member r p || member w p))

-- a commit makes twice as many passes as it has places
pub commit_passes : (t : ℕ) (r w : PlaceSet) → r.word < 2 ^ 64 → w.word < 2 ^ 64 → passes_of (by t (Commit r w)) ≡ 2 * ones (bit_or r.word w.word)
commit_passes t r w l m =
    let count = place_holders_union r.word w.word ∙ places_ones (bit_or r.word w.word) (or_lt 64 r.word w.word l m) in omega arith

passes : Action → ℕ
passes a = length (taken a) + length (given a)

few_passes : (a : Action) → passes a ≤ 128
unfolding passes
few_passes (Read p) = omega arith
few_passes (Write p) = omega arith
few_passes (Acquire l) = omega arith
few_passes (Release l) = omega arith
few_passes (ReadFlag f) = omega arith
few_passes (WriteFlag f) = omega arith
few_passes (Fork u) = omega arith
few_passes (Join u) = omega arith
few_passes (Allocate o) = omega arith
few_passes (Commit r w) = let few = place_holders_few r.word w.word in omega arith

pub passes_of_few : (e : Event) → passes_of e ≤ 128
unfolding passes
passes_of_few e = few_passes e.action

-- so a million events make fewer than 200,000,000
pub passes_by_few : (rec : List Event) → passes_by rec ≤ 128 * length rec
passes_by_few [] = omega arith
passes_by_few (e ∷ rec) = let one = passes_of_few e in let rest = passes_by_few rec in omega arith

-- the passes among the calls of an event
made_append : (cs ds : List Call) → passes_made (cs ++ ds) ≡ passes_made cs + passes_made ds
made_append [] ds = omega arith
made_append (begin i t ∷ cs) ds = made_append cs ds
made_append (forget i ∷ cs) ds = made_append cs ds
made_append (pass a b ∷ cs) ds = let rest = made_append cs ds in omega arith

made_in : (t : ℕ) (hs : List ℕ) → passes_made (map (λ h. pass h t) hs) ≡ length hs
made_in t [] = refl
made_in t (h ∷ hs) = ap suc (made_in t hs)

made_out : (t : ℕ) (hs : List ℕ) → passes_made (map (λ h. pass t h) hs) ≡ length hs
made_out t [] = refl
made_out t (h ∷ hs) = ap suc (made_out t hs)

made_forgetting : (n i : ℕ) → passes_made (forget_from n i) ≡ 0
unfolding forget_from
made_forgetting zero i = refl
made_forgetting (suc n) i = made_forgetting n (i + 1)

made_part : (x y : Bool) (t n : ℕ) → passes_made (cond x (written t n) (cond y (looked_at t n) [])) ≡ 0
made_part true y t n = made_forgetting 8 (9 * n + 1)
made_part false true t n = refl
made_part false false t n = refl

made_committing : (n t r w : ℕ) → passes_made (committed n t r w) ≡ 0
unfolding committed
made_committing zero t r w = refl
made_committing (suc n) t r w =
    made_append (committed n t r w) _ ∙ (λ d. made_committing n t r w d + made_part (member w n) (member r n) t n d)

made_accessing : (t : ℕ) (a : Action) → passes_made (accesses t a) ≡ 0
made_accessing t (Read p) = refl
made_accessing t (Write p) = made_forgetting 8 (9 * p + 1)
made_accessing t (Acquire l) = refl
made_accessing t (Release l) = refl
made_accessing t (ReadFlag f) = refl
made_accessing t (WriteFlag f) = refl
made_accessing t (Fork u) = refl
made_accessing t (Join u) = refl
made_accessing t (Allocate o) = made_forgetting 36 (36 * o)
made_accessing t (Commit r w) = made_committing 64 t r.word w.word

pub calls_passes : (e : Event) → passes_made (calls e) ≡ passes_of e
unfolding calls
calls_passes e =
    let t = e.thread in
    let a = e.action in
    let all = made_append (map (λ h. pass h t) (taken a)) (accesses t a ++ map (λ h. pass t h) (given a)) in
    let rest = made_append (accesses t a) (map (λ h. pass t h) (given a)) in
    let ins = made_in t (taken a) in
    let none = made_accessing t a in
    let outs = made_out t (given a) in
    all ∙ omega arith
