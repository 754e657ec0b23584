-- The bytes of several events, one event more, and cut in two. Assumes nothing.
use Rattle.std.proofs.Common.{◌≡◌, ℕ, ◌+◌, ◌*◌, ◌<◌, ◌≤◌, List, [], ◌∷◌, ◌++◌, length, get_or, take, drop, sym, refl, ap, ◌∙◌, arith}
use Rattle.std.proofs.lemmas.List.{append-nil, append_assoc, length-append, take_more, take-append-drop}
use Rattle.std.proofs.lemmas.List.Concat.{length-flat_map}
use Rattle.std.specs.List.{sum_by}
use Rattle.events.specs.declared.Event.{Event}
use Rattle.events.specs.declared.Action.TheVariants.{Read}
use Rattle.events.specs.Kinds.{kind}
use Rattle.trace.specs.Codec.{event_bytes}
use Rattle.trace.specs.File.{body}
use Rattle.trace.proofs.Events.{size_few, length_event}
use Rattle.trace.proofs.Opened.{size_some}

pub body_none : body [] ≡ []
unfolding body
body_none = refl

pub body_cons : (e : Event) (es : List Event) → body (e ∷ es) ≡ event_bytes e ++ body es
unfolding body
body_cons e es = refl

pub body_append : (xs ys : List Event) → body (xs ++ ys) ≡ body xs ++ body ys
body_append [] ys = ap (λ l. l ++ body ys) (sym body_none)
body_append (x ∷ xs) ys =
    body_cons x (xs ++ ys) ∙ ap (λ l. event_bytes x ++ l) (body_append xs ys) ∙ sym (append_assoc (event_bytes x) (body xs) (body ys)) ∙ ap (λ l. l ++ body ys) (sym (body_cons x xs))

pub body_one : (e : Event) → body (e ∷ []) ≡ event_bytes e
body_one e = body_cons e [] ∙ ap (λ l. event_bytes e ++ l) body_none ∙ append-nil (event_bytes e)

-- what is read past the end of a list of events
abbrev pub blank : Event
blank = record { thread = 0; action = Read 0 }

-- one event more
pub body_more : (es : List Event) (i : ℕ) → i < length es → body (take (i + 1) es) ≡ body (take i es) ++ event_bytes (get_or es i blank)
body_more es i h =
    ap body (take_more es i blank h) ∙ body_append (take i es) (get_or es i blank ∷ []) ∙ ap (λ l. body (take i es) ++ l) (body_one (get_or es i blank))

pub length_body_more : (es : List Event) (i : ℕ) → i < length es → length (body (take (i + 1) es)) ≡ length (body (take i es)) + length (event_bytes (get_or es i blank))
length_body_more es i h = ap length (body_more es i h) ∙ length-append (body (take i es)) (event_bytes (get_or es i blank))

pub body_split : (es : List Event) (i : ℕ) → body es ≡ body (take i es) ++ body (drop i es)
body_split es i = ap body (sym (take-append-drop i es)) ∙ body_append (take i es) (drop i es)

pub length_body_take : (es : List Event) (i : ℕ) → length (body (take i es)) ≤ length (body es)
length_body_take es i = let e = ap length (body_split es i) ∙ length-append (body (take i es)) (body (drop i es)) in omega arith

pub length_body_sum : (es : List Event) → length (body es) ≡ sum_by (λ e. length (event_bytes e)) es
unfolding body
length_body_sum es = length-flat_map event_bytes es

-- an event has 3 to 18 bytes
pub length_body_least : (es : List Event) → length es ≤ length (body es)
length_body_least [] = omega arith
length_body_least (e ∷ es) =
    let first = ap length (body_cons e es) ∙ length-append (event_bytes e) (body es) in
    let least = size_some (kind e.action) in
    omega (arith, length_event e, length_body_least es)

pub length_body_most : (es : List Event) → length (body es) ≤ 18 * length es
length_body_most [] = let none = ap length body_none in omega arith
length_body_most (e ∷ es) =
    let first = ap length (body_cons e es) ∙ length-append (event_bytes e) (body es) in
    let most = size_few (kind e.action) in
    omega (arith, length_event e, length_body_most es)
