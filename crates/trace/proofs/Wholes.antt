-- Events that were read up to the file's end or to a refusal, each with its section, make its front, and every file has one. Assumes nothing.
use Rattle.std.proofs.Common.{◌≡◌, ℕ, zero, suc, ◌+◌, ◌-◌, ◌*◌, ◌<◌, ◌≤◌, List, [], ◌∷◌, map, length, get_or, Some, None, Ok, Err, Option, Result, sum, sym, refl, ap, ◌∙◌, subst, ⊎_elim, inl, inr, arith}
use Rattle.std.proofs.lemmas.List.{length-map}
use Rattle.std.proofs.lemmas.List.Sums.{sum_by-cons}
use Rattle.std.proofs.lemmas.Bool.{cases_eq, cases_lt}
use Rattle.events.specs.declared.Event.{Event}
use Rattle.trace.specs.declared.fault.Refusal.{Refusal}
use Rattle.trace.specs.declared.place.Place.{Place}
use Rattle.trace.specs.Layout.{count, body_end, opening, section_at}
use Rattle.trace.specs.Reading.{origin, taken, moved}
use Rattle.trace.specs.Refusals.{InBody}
use Rattle.trace.specs.Whole.{Reads, tagged, IsTraceOf}
use Rattle.trace.specs.Fronts.{IsFrontOf}
use Rattle.trace.specs.Theorems.{sections_until}
use Rattle.trace.proofs.Entries.{body_end_none}
use Rattle.trace.proofs.Opened.{Opened, opened, ends_ordered, size_some}
use Rattle.trace.proofs.Refusals.{first_refusal, in_body, event_refusal}

-- a front of the file
abbrev HasFront : List ℕ → Type 0
HasFront bytes = (counts : List ℕ) × (events : List Event) × (end : Option Refusal) × IsFrontOf bytes counts events end

abbrev pub events_of : List (ℕ × Event) → List Event
events_of ts = map (λ t. t.1) ts

-- the sections of the events rise from s on and stay below n
abbrev Rises : ℕ → ℕ → List (ℕ × Event) → Type 0
Rises s n [] = Unit {0}
Rises s n (t ∷ ts) = (s ≤ t.0) × (t.0 < n) × Rises t.0 n ts

-- the events lie in k sections from s on, so many in each
record Sectioned (s k : ℕ) (ts : List (ℕ × Event)) : Type 0 where
  pub counts : List ℕ
  pub many : length counts ≡ k
  pub total : sum counts ≡ length ts
  pub tags : tagged s counts (events_of ts) ≡ ts

-- none lies in section s
skipped : (s k : ℕ) (ts : List (ℕ × Event)) → Sectioned (suc s) k ts → Sectioned s (suc k) ts
unfolding tagged
skipped s k ts r = record {
  counts = 0 ∷ r.counts;
  many = ap suc r.many;
  total = let all = sum_by-cons (λ y. y) 0 r.counts in omega (arith, r.total);
  tags = r.tags;
}

-- one more lies in section s
counted_in : (s k : ℕ) (t : ℕ × Event) (ts : List (ℕ × Event)) → t.0 ≡ s → (counts : List ℕ) → length counts ≡ suc k → sum counts ≡ length ts → tagged s counts (events_of ts) ≡ ts → Sectioned s (suc k) (t ∷ ts)
unfolding tagged
counted_in s k t ts at [] many total tags = absurd (omega arith)
counted_in s k t ts at (c ∷ cs) many total tags = record {
  counts = suc c ∷ cs;
  many = many;
  total = let one = sum_by-cons (λ y. y) c cs in let more = sum_by-cons (λ y. y) (suc c) cs in omega arith;
  tags = ap (λ l. (s, t.1) ∷ l) tags ∙ ap (λ n. (n, t.1) ∷ ts) (sym at);
}

sectioned_none : (s k : ℕ) → Sectioned s k []
unfolding tagged
sectioned_none s zero = record { counts = []; many = refl; total = refl; tags = refl }
sectioned_none s (suc k) = skipped s k [] (sectioned_none (suc s) k)

sectioned_more : (s k : ℕ) → ((us : List (ℕ × Event)) → Rises (suc s) (suc s + k) us → Sectioned (suc s) k us) → (ts : List (ℕ × Event)) → Rises s (s + suc k) ts → Sectioned s (suc k) ts
sectioned_more s k later [] rises = sectioned_none s (suc k)
sectioned_more s k later (t ∷ ts) (low, high, rest) =
    let n : s + suc k ≡ suc s + k = omega arith in
    ⊎_elim
    (λ same. let r = sectioned_more s k later ts (subst (λ m. Rises m (s + suc k) ts) same rest) in counted_in s k t ts same r.counts r.many r.total r.tags)
    (λ apart. skipped s k (t ∷ ts) (later (t ∷ ts) (omega arith, omega arith, subst (λ m. Rises t.0 m ts) n rest)))
    (cases_eq t.0 s)

sectioned : (k s : ℕ) (ts : List (ℕ × Event)) → Rises s (s + k) ts → Sectioned s k ts
sectioned zero s [] rises = sectioned_none s zero
sectioned zero s (t ∷ ts) (low, high, rest) = absurd (omega arith)
sectioned (suc k) s ts rises = sectioned_more s k (λ us r. sectioned k (suc s) us r) ts rises

-- a byte that is not before section s lies in no section before it
section_least : (bytes : List ℕ) (s t b : ℕ) → body_end bytes (s - 1) ≤ b → InBody bytes t b → s ≤ t
section_least bytes s t b from body =
    ⊎_elim (λ less. let rise = ends_ordered bytes t (s - 1) (omega arith) in absurd (omega (arith, body.before))) (λ h. h) (cases_lt t s)

module _ (bytes : List ℕ) (file : Opened bytes) where
  -- a section that has begun is not behind the last
  reaches : (ts : List (ℕ × Event)) (p : Place) (s : ℕ) (o : Option Refusal) → s ≤ count bytes → body_end bytes (s - 1) ≤ p.byte → Reads bytes p ts o → s ≤ sections_until bytes o
  unfolding Reads
  reaches [] p s None few from reads = few
  reaches [] p s (Some f) few from reads = section_least bytes s f.at.section p.byte from reads.site.section
  reaches (t ∷ ts) p s o few from (more, at, takes, rest) = reaches ts (moved bytes p) s o few (omega arith) rest

  -- the reader goes from section to section, never back
  reads_rise : (ts : List (ℕ × Event)) (p : Place) (s : ℕ) (o : Option Refusal) → 4 + 8 * count bytes ≤ p.byte → body_end bytes (s - 1) ≤ p.byte → Reads bytes p ts o → Rises s (1 + sections_until bytes o) ts
  unfolding Reads
  reads_rise [] p s o low from reads = tt
  reads_rise (t ∷ ts) p s o low from (more, at, takes, rest) =
      let body = subst (λ n. InBody bytes n p.byte) at (in_body bytes p.byte file low more) in
      let here = body.from in
      let last = reaches ts (moved bytes p) t.0 o body.last (omega arith) rest in
      (section_least bytes s t.0 p.byte from body, omega arith, reads_rise ts (moved bytes p) t.0 o (omega arith) (omega arith) rest)

module _ (bytes : List ℕ) (opens : opening bytes ≡ None) where
  front_of_reading : (ts : List (ℕ × Event)) (o : Option Refusal) → Reads bytes (origin bytes) ts o → (counts : List ℕ) × IsFrontOf bytes counts (events_of ts) o
  front_of_reading ts o reads =
      let start = body_end_none bytes in
      let rises = reads_rise bytes (opened bytes opens) ts (origin bytes) 1 o (omega arith) (omega arith) reads in
      let r = sectioned (sections_until bytes o) 1 ts rises in
      (r.counts, front o r.counts r.many (r.total ∙ sym (length-map ts (λ t. t.1))) (subst (λ l. Reads bytes (origin bytes) l o) (sym r.tags) reads))
    where
      front : (o : Option Refusal) (counts : List ℕ) → length counts ≡ sections_until bytes o → sum counts ≡ length (events_of ts) → Reads bytes (origin bytes) (tagged 1 counts (events_of ts)) o → IsFrontOf bytes counts (events_of ts) o
      front None counts many total reads = record { opens = opens; sections = many; total = total; reads = reads }
      front (Some f) counts many total reads = inr (record { opens = opens; sections = many; total = total; reads = reads })

  pub trace_of_reading : (ts : List (ℕ × Event)) (es : List Event) → Reads bytes (origin bytes) ts None → events_of ts ≡ es → (counts : List ℕ) × IsTraceOf bytes counts es
  trace_of_reading ts es reads same = subst (λ l. (counts : List ℕ) × IsTraceOf bytes counts l) same (front_of_reading ts None reads)

  -- reading comes to an end, since each event has some bytes
  reads_out : (left : ℕ) (p : Place) → 4 + 8 * count bytes ≤ p.byte → length bytes ≤ p.byte + left → (ts : List (ℕ × Event)) × (o : Option Refusal) × Reads bytes p ts o
  unfolding Reads
  reads_out zero p low far = ([], None, omega arith)
  reads_out (suc left) p low far = ⊎_elim (λ more. step (λ q a b. reads_out left q a b) more (taken bytes p) refl) (λ end. ([], None, end)) (cases_lt p.byte (length bytes))
    where
      step : ((q : Place) → 4 + 8 * count bytes ≤ q.byte → length bytes ≤ q.byte + left → (ts : List (ℕ × Event)) × (o : Option Refusal) × Reads bytes q ts o) → p.byte < length bytes → (r : Result Event Refusal) → taken bytes p ≡ r → (ts : List (ℕ × Event)) × (o : Option Refusal) × Reads bytes p ts o
      step later more (Ok e) takes =
          let some = size_some (get_or bytes p.byte 0) in
          let rest = later (moved bytes p) (omega arith) (omega arith) in
          ((section_at bytes p.byte, e) ∷ rest.0, rest.1, (more, refl, takes, rest.2))
      step later more (Err f) refuses = ([], Some f, event_refusal bytes p f opens low more refuses)

  front_inside : HasFront bytes
  front_inside =
      let r = reads_out (length bytes) (origin bytes) (omega arith) (omega arith) in
      let f = front_of_reading r.0 r.1 r.2 in
      (f.0, events_of r.0, r.1, f.1)

pub every_front : (bytes : List ℕ) → HasFront bytes
every_front bytes = by (opening bytes) refl
  where
    by : (o : Option Refusal) → opening bytes ≡ o → HasFront bytes
    by None opens = front_inside bytes opens
    by (Some f) refused = ([], [], Some f, inl (first_refusal bytes f refused, refl, refl))
