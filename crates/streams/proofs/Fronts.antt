-- Fronts of a buffer that grow by one read or write more. Assumes nothing.
use Rattle.std.proofs.Common.{◌≡◌, ℕ, ◌+◌, List, ◌++◌, length, take, drop, Option, Some, None, Result, Ok, Err, sym, ap, ◌∙◌, subst, le_refl, arith, ◌<◌, ◌≤◌, ◌-◌, min, [], IfSome, ⊎_elim, drop_of_length-le, append-nil, length-take-le}
use Rattle.std.proofs.Math.Seq.{take-add, take-append-add, take-append_seam, drop-append_seam}
use Rattle.std.proofs.lemmas.List.{append_assoc, take-append-le, take_all, take_min, take_rest, length-drop}
use Rattle.std.specs.Io.KnownBytes.{Appends, Consumes, IsAtEnd, Keeps}
use Rattle.std.proofs.lemmas.Bool.{cases_lt}
use Rattle.streams.specs.Told.{AppendsFront, WritesWhole}

joins : (xs : List ℕ) (at n : ℕ) → take at xs ++ take n (drop at xs) ≡ take (at + n) xs
joins xs at n = sym (take-add at n xs)

consumes_both : (a b c : Option (List ℕ)) (xs ys : List ℕ) → Consumes a b xs → Consumes b c ys → Consumes a c (xs ++ ys)
consumes_both None b c xs ys p q = tt
consumes_both (Some x) None c xs ys p q = absurd p
consumes_both (Some x) (Some y) None xs ys p q = absurd q
consumes_both (Some x) (Some y) (Some z) xs ys p q = p ∙ ap (λ l. xs ++ l) q ∙ sym (append_assoc xs ys z)

pub appends_both : (a b c : Option (List ℕ)) (xs ys : List ℕ) → Appends a b xs → Appends b c ys → Appends a c (xs ++ ys)
appends_both None b c xs ys p q = tt
appends_both (Some x) None c xs ys p q = absurd p
appends_both (Some x) (Some y) None xs ys p q = absurd q
appends_both (Some x) (Some y) (Some z) xs ys p q = q ∙ ap (λ l. l ++ ys) p ∙ append_assoc x xs ys

-- a read to the place `at`, where the buffer's front has stayed
pub reads_on : (a b c : Option (List ℕ)) (old new : List ℕ) (at n : ℕ) → take at new ≡ take at old
    → Consumes a b (take at old) → Consumes b c (take n (drop at new)) → Consumes a c (take (at + n) new)
reads_on a b c old new at n front before now =
    subst (Consumes a c) (ap (λ l. l ++ take n (drop at new)) (sym front) ∙ joins new at n) (consumes_both a b c _ _ before now)

-- a write from the place `at` on, of all that is left of the bytes
pub writes_on : (a b c : Option (List ℕ)) (bytes : List ℕ) (at n : ℕ)
    → Appends a b (take at bytes) → Appends b c (take n (take (length bytes - at) (drop at bytes))) → Appends a c (take (at + n) bytes)
writes_on a b c bytes at n before now =
    subst (Appends a c) (ap (λ l. take at bytes ++ take n l) (take_rest bytes at) ∙ joins bytes at n) (appends_both a b c _ _ before now)

pub writes_within : (bytes : List ℕ) (at n : ℕ) → at < length bytes → n ≤ length (take (length bytes - at) (drop at bytes)) → at + n ≤ length bytes
writes_within bytes at n l fits =
    let rest : n ≤ length (drop at bytes) = subst (λ l. n ≤ length l) (take_rest bytes at) fits in
    let left = length-drop at bytes in
    omega arith

pub appends_kept : (a b c : Option (List ℕ)) (xs : List ℕ) → Appends a b xs → Keeps b c → Appends a c xs
appends_kept None b c xs p q = tt
appends_kept (Some x) None c xs p q = absurd p
appends_kept (Some x) (Some y) None xs p q = absurd q
appends_kept (Some x) (Some y) (Some z) xs p q = q ∙ p

-- all of one text and a front of the next are a front of both
pub front_after : (a b c : Option (List ℕ)) (xs ys : List ℕ) → Appends a b xs → AppendsFront b c ys → AppendsFront a c (xs ++ ys)
front_after a b c xs ys p q =
    (length xs + q.0, subst (Appends a c) (sym (take-append-add xs ys q.0)) (appends_both a b c xs (take q.0 ys) p q.1))

-- a front of the first of two texts is one of both
pub front_of_first : (a b : Option (List ℕ)) (xs ys : List ℕ) → AppendsFront a b xs → AppendsFront a b (xs ++ ys)
front_of_first a b xs ys p =
    let n = min p.0 (length xs) in
    let short : n ≤ length xs = omega arith in
    (n, subst (Appends a b) (sym (take-append-le n xs ys short ∙ take_min p.0 xs)) p.1)

-- a flush behind all the bytes
pub flushed : {E : Type 0} (a b c : Option (List ℕ)) (bytes : List ℕ) (r : Result (Unit {0}) E)
    → Appends a b bytes → Keeps b c → WritesWhole a c r bytes
flushed a b c bytes (Ok x) p q = appends_kept a b c bytes p q
flushed a b c bytes (Err e) p q = (length bytes, subst (Appends a c) (sym (take_all (length bytes) bytes (le_refl (length bytes)))) (appends_kept a b c bytes p q))

-- a list is its front of k elements and the others
split_at : (k : ℕ) (xs front rest : List ℕ) → length front ≡ k → xs ≡ front ++ rest → (take k xs ≡ front) × (drop k xs ≡ rest)
split_at k xs front rest long is =
    (ap (take k) is ∙ ap (λ n. take n (front ++ rest)) (sym long) ∙ take-append_seam front rest, ap (drop k) is ∙ ap (λ n. drop n (front ++ rest)) (sym long) ∙ drop-append_seam front rest)

all_of : (k : ℕ) (xs front rest : List ℕ) → length front ≤ k → xs ≡ front ++ rest → rest ≡ [] → (take k xs ≡ front) × (drop k xs ≡ rest)
all_of k xs front rest few is none =
    let all : xs ≡ front = is ∙ ap (λ l. front ++ l) none ∙ append-nil front in
    (ap (take k) all ∙ take_all k front few, ap (drop k) all ∙ drop_of_length-le front few ∙ sym none)

-- a buffer that was filled up to its end or the source's holds the source's first bytes, and the source has the others left
pub first_read : (a b : Option (List ℕ)) (buf : List ℕ) (n : ℕ) → n ≤ length buf → Consumes a b (take n buf) → (n < length buf → IsAtEnd b)
    → IfSome a (λ xs. (take n buf ≡ take (length buf) xs) × (b ≡ Some (drop (length buf) xs)))
first_read None b buf n fits read end = tt
first_read (Some xs) None buf n fits read end = absurd read
first_read (Some xs) (Some ys) buf n fits read end =
    let long = length-take-le n buf fits in
    let both : (take (length buf) xs ≡ take n buf) × (drop (length buf) xs ≡ ys) =
    ⊎_elim
    (λ some. all_of (length buf) xs (take n buf) ys (omega arith) read (end some))
    (λ full. split_at (length buf) xs (take n buf) ys (omega arith) read)
    (cases_lt n (length buf)) in
    (sym both.0, ap Some (sym both.1))
