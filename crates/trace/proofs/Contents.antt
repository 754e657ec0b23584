-- The contents as they are written, one entry more. Assumes nothing.
use Rattle.std.proofs.Common.{◌≡◌, ℕ, ◌+◌, ◌*◌, ◌<◌, List, [], ◌∷◌, ◌++◌, length, get_or, take, drop, sym, refl, ap, ◌∙◌, arith}
use Rattle.std.proofs.lemmas.List.{append_assoc, length-append, drop_at, drop_more, drop-drop}
use Rattle.events.specs.declared.Event.{Event}
use Rattle.trace.specs.Words.{bytes_of}
use Rattle.trace.specs.File.{body, contents}
use Rattle.trace.proofs.Numbers.{length_bytes_of}

-- an entry's bytes
abbrev pub entry_bytes : ℕ → ℕ → List ℕ
entry_bytes offset size = bytes_of 4 offset ++ bytes_of 4 size

pub length_entry : (offset size : ℕ) → length (entry_bytes offset size) ≡ 8
length_entry offset size = let a = length_bytes_of 4 offset in let b = length_bytes_of 4 size in omega (arith, length-append (bytes_of 4 offset) (bytes_of 4 size))

pub contents_none : (at : ℕ) (events : List Event) → contents at [] events ≡ []
unfolding contents
contents_none at events = refl

pub contents_cons : (at c : ℕ) (counts : List ℕ) (events : List Event) → contents at (c ∷ counts) events ≡ entry_bytes at (length (body (take c events))) ++ contents (at + length (body (take c events))) counts (drop c events)
unfolding contents
contents_cons at c counts events = sym (append_assoc (bytes_of 4 at) (bytes_of 4 (length (body (take c events)))) (contents (at + length (body (take c events))) counts (drop c events)))

pub length_contents : (at : ℕ) (counts : List ℕ) (events : List Event) → length (contents at counts events) ≡ 8 * length counts
length_contents at [] events = ap length (contents_none at events)
length_contents at (c ∷ counts) events =
    let n = length (body (take c events)) in
    let whole = ap length (contents_cons at c counts events) ∙ length-append (entry_bytes at n) (contents (at + n) counts (drop c events)) in
    let rest = length_contents (at + n) counts (drop c events) in
    omega (arith, length_entry at n)

-- the entry of the next section, with what follows it
pub contents_next : (at i size : ℕ) (counts : List ℕ) (left : List Event) → i < length counts → size ≡ length (body (take (get_or counts i 0) left)) → contents at (drop i counts) left ≡ entry_bytes at size ++ contents (at + size) (drop (i + 1) counts) (drop (get_or counts i 0) left)
contents_next at i size counts left h e =
    let c = get_or counts i 0 in
    ap (λ l. contents at l left) (drop_more counts i 0 h)
    ∙ contents_cons at c (drop (i + 1) counts) left
    ∙ ap (λ n. entry_bytes at n ++ contents (at + n) (drop (i + 1) counts) (drop c left)) (sym e)

pub part_left : (all part rest : List ℕ) (k : ℕ) → drop k all ≡ part ++ rest → drop (k + length part) all ≡ rest
part_left all part rest k e = sym (drop-drop (length part) k all) ∙ ap (drop (length part)) e ∙ drop_at part rest (length part) refl
