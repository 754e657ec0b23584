-- What a run lists: each race once, and in the file's order. Assumes nothing.
use Rattle.std.proofs.Common.{◌≡◌, ℕ, ◌+◌, ◌≤◌, List, [], ◌∷◌, ◌++◌, length, Contains, sym, refl, ap, ◌∙◌, subst, arith}
use Rattle.std.proofs.lemmas.List.{append_assoc, append-nil}
use Rattle.std.proofs.lemmas.List.Elements.{Contains-append_left, Contains-push}
use Rattle.events.specs.declared.Event.{Event}
use Rattle.order.specs.Conflicts.{RaceFree}
use Rattle.order.specs.Faults.{Lawful}
use Rattle.order.specs.Judgement.{Answer, accepted, refused, declined, judge, recorded}
use Rattle.order.specs.Verdicts.{Right}
use Rattle.order.proofs.Judgement.{right_at, recorded_sound}
use Rattle.order.proofs.Verdicts.{right_unique}
use Rattle.trace.specs.declared.place.Place.{Place}
use Rattle.trace.specs.Reading.{inside, after}
use Rattle.certificate.specs.declared.finding.Finding.{Finding}
use Rattle.certificate.specs.Running.{recorded_all, listed, Passes, Outcome, Runs}
use Rattle.certificate.specs.Sentence.{NamesRace, Ascends}
use Rattle.certificate.proofs.Ahead.{counted}

ascends_less : (m n : ℕ) (fs : List Finding) → m ≤ n → Ascends n fs → Ascends m fs
ascends_less m n [] few h = tt
ascends_less m n (f ∷ fs) few h = (let first = h.0 in omega arith, h.1)

-- behind the findings fs come those of the events after event n
pub record Grown (n : ℕ) (fs all : List Finding) : Type 0 where
  pub new : List Finding
  pub is : all ≡ fs ++ new
  pub ascends : Ascends n new

grown_more : (n : ℕ) (fs all : List Finding) (a : Answer) → Passes fs a → Grown (n + 1) (listed fs (n + 1) a) all → Grown n fs all
grown_more n fs all (accepted s) passes rest = record { new = rest.new; is = rest.is; ascends = ascends_less n (n + 1) rest.new (omega arith) rest.ascends }
grown_more n fs all (refused k) passes rest = absurd passes
grown_more n fs all (declined p w) passes rest = record {
  new = record { event = n + 1; place = p; witness = w } ∷ rest.new;
  is = rest.is ∙ append_assoc fs (record { event = n + 1; place = p; witness = w } ∷ []) rest.new;
  ascends = (omega arith, rest.ascends);
}

pub grown : (bytes : List ℕ) (p : Place) (rec : List Event) (fs : List Finding) (es : List Event) (o : Outcome) → Runs bytes p rec fs es o → Grown (inside bytes p).events fs o.findings
unfolding Runs
grown bytes p rec fs [] o stops = record { new = []; is = stops.findings_stay ∙ sym (append-nil fs); ascends = tt }
grown bytes p rec fs (e ∷ es) o (reads, passes, runs) =
    let n = (inside bytes p).events in
    let rest = grown bytes (after bytes p) (recorded rec e (judge rec e)) (listed fs (n + 1) (judge rec e)) es o runs in
    grown_more n fs o.findings (judge rec e) passes (subst (λ k. Grown k (listed fs (n + 1) (judge rec e)) o.findings) (counted bytes p e reads) rest)

-- a declined event is listed, and stays so
lists : (fs all : List Finding) (n : ℕ) (a : Answer) (f : Finding) → a ≡ declined f.place f.witness → f.event ≡ n + 1 → Grown (n + 1) (listed fs (n + 1) a) all → Contains all f
lists fs all n a f declines event grew =
    let named : record { event = n + 1; place = f.place; witness = f.witness } ≡ f = ap (λ k. record { event = k; place = f.place; witness = f.witness }) (sym event) in
    let here : listed fs (n + 1) a ≡ fs ++ (f ∷ []) = ap (listed fs (n + 1)) declines ∙ ap (λ g. fs ++ (g ∷ [])) named in
    subst (λ l. Contains l f) (sym (grew.is ∙ ap (λ l. l ++ grew.new) here)) (Contains-append_left (fs ++ (f ∷ [])) grew.new f (Contains-push fs f))

lists_race : (bytes : List ℕ) (p : Place) (rec : List Event) (fs : List Finding) (es : List Event) (o : Outcome) → Lawful rec → RaceFree rec → Runs bytes p rec fs es o
    → (earlier later : List Event) (e : Event) (f : Finding) → es ≡ earlier ++ (e ∷ later) → f.event ≡ (inside bytes p).events + length earlier + 1 → Right (recorded_all rec earlier) e (declined f.place f.witness) → Contains o.findings f
unfolding Runs recorded_all
lists_race bytes p rec fs [] o lawful free runs [] later e f is event real = absurd (let z = ap length is in omega arith)
lists_race bytes p rec fs [] o lawful free runs (x ∷ xs) later e f is event real = absurd (let z = ap length is in omega arith)
lists_race bytes p rec fs (d ∷ es) o lawful free (reads, passes, runs) [] later e f is event real =
    let n = (inside bytes p).events in
    let same : e ≡ d = cc in
    let declines = right_unique rec d (judge rec d) (declined f.place f.witness) (right_at rec d lawful free (judge rec d) refl) (subst (λ x. Right rec x (declined f.place f.witness)) same real) in
    let rest = grown bytes (after bytes p) (recorded rec d (judge rec d)) (listed fs (n + 1) (judge rec d)) es o runs in
    lists fs o.findings n (judge rec d) f declines (omega arith) (subst (λ k. Grown k (listed fs (n + 1) (judge rec d)) o.findings) (counted bytes p d reads) rest)
lists_race bytes p rec fs (d ∷ es) o lawful free (reads, passes, runs) (x ∷ xs) later e f is event real =
    let n = (inside bytes p).events in
    let same : x ≡ d = cc in
    let rest : es ≡ xs ++ (e ∷ later) = cc in
    let count = counted bytes p d reads in
    let stays = recorded_sound rec d lawful free in
    lists_race bytes (after bytes p) (recorded rec d (judge rec d)) (listed fs (n + 1) (judge rec d)) es o stays.0 stays.1 runs xs later e f rest (omega arith) (subst (λ y. Right (recorded_all (recorded rec y (judge rec y)) xs) e (declined f.place f.witness)) same real)

pub lists_races : (bytes : List ℕ) (p : Place) (rec es : List Event) (o : Outcome) → Lawful rec → RaceFree rec → Runs bytes p rec [] es o → (f : Finding) → NamesRace rec (inside bytes p).events es f → Contains o.findings f
lists_races bytes p rec es o lawful free runs f r = lists_race bytes p rec [] es o lawful free runs r.earlier r.later r.event f r.stands_in r.numbered r.real

pub in_order : (bytes : List ℕ) (p : Place) (rec es : List Event) (o : Outcome) → Runs bytes p rec [] es o → Ascends (inside bytes p).events o.findings
in_order bytes p rec es o runs = let grew = grown bytes p rec [] es o runs in subst (Ascends (inside bytes p).events) (sym grew.is) grew.ascends
