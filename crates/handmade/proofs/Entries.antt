-- A file as it is made, entry by entry. Assumes nothing.
use Rattle.std.proofs.Common.{◌≡◌, ℕ, ◌+◌, ◌<◌, ◌≤◌, List, [], ◌++◌, length, get_or, take, sym, ap, ◌∙◌}
use Rattle.std.proofs.lemmas.List.{append-nil, append_assoc, flat_map_more, take_more, take_all}
use Rattle.trace.specs.Words.{bytes_of}
use Rattle.handmade.specs.Told.{entries_bytes, told_bytes}

-- what is read past the end of a list of entries
abbrev pub blank : ℕ × ℕ
blank = (0, 0)

pub entries_none : (out : List ℕ) → out ≡ out ++ entries_bytes []
unfolding entries_bytes
entries_none out = sym (append-nil out)

-- one entry more
pub entries_more : (entries : List (ℕ × ℕ)) (i : ℕ) (first out out' out'' x y : List ℕ) → i < length entries → out ≡ first ++ entries_bytes (take i entries) → out' ≡ out ++ x → out'' ≡ out' ++ y → x ≡ bytes_of 4 (get_or entries i blank).0 → y ≡ bytes_of 4 (get_or entries i blank).1 → out'' ≡ first ++ entries_bytes (take (i + 1) entries)
unfolding entries_bytes
entries_more entries i first out out' out'' x y h sofar one two is-x is-y =
    let e = get_or entries i blank in
    two ∙ ap (λ l. l ++ y) one ∙ append_assoc out x y
    ∙ ap (λ l. l ++ (x ++ y)) sofar
    ∙ ap (λ l. (first ++ entries_bytes (take i entries)) ++ (l ++ y)) is-x
    ∙ ap (λ l. (first ++ entries_bytes (take i entries)) ++ (bytes_of 4 e.0 ++ l)) is-y
    ∙ flat_map_more (λ z. bytes_of 4 z.0 ++ bytes_of 4 z.1) first (take i entries) e
    ∙ ap (λ l. first ++ entries_bytes l) (sym (take_more entries i blank h))

-- header, entries and the rest, one behind the other
pub told_all : (n i : ℕ) (entries : List (ℕ × ℕ)) (rest none one two three four x y : List ℕ) → none ≡ [] → one ≡ none ++ x → two ≡ one ++ y → x ≡ bytes_of 2 1 → y ≡ bytes_of 2 n → three ≡ two ++ entries_bytes (take i entries) → length entries ≤ i → four ≡ three ++ rest → four ≡ told_bytes n entries rest
unfolding told_bytes
told_all n i entries rest none one two three four x y empty first second is-x is-y sofar last end =
    let head = second ∙ ap (λ l. l ++ y) (first ∙ ap (λ l. l ++ x) empty ∙ is-x) ∙ ap (λ l. bytes_of 2 1 ++ l) is-y in
    end
    ∙ ap (λ l. l ++ rest) (sofar ∙ ap (λ l. two ++ entries_bytes l) (take_all i entries last) ∙ ap (λ l. l ++ entries_bytes entries) head)
    ∙ append_assoc (bytes_of 2 1 ++ bytes_of 2 n) (entries_bytes entries) rest
    ∙ append_assoc (bytes_of 2 1) (bytes_of 2 n) (entries_bytes entries ++ rest)
