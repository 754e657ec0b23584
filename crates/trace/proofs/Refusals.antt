-- The refusal of a file is the first that applies, and so is that of an event. Assumes nothing.
use Rattle.std.proofs.Common.{◌≡◌, ℕ, zero, suc, ◌+◌, ◌-◌, ◌*◌, ◌<◌, ◌≤◌, Bool, true, false, cond, ltb, leb, List, length, get_or, Some, None, Ok, Err, Option, Result, sym, refl, ap, ◌∙◌, subst, ⊎_elim, add-one, arith}
use Rattle.std.proofs.lemmas.Bool.{and_parts, and_from, both_ways, cases_Bool, cases_lt, cond-true, cond-false, eq-eqb, eqb-true, le-leb, le-ltb, leb-false, leb-true, lt-ltb, ltb-false, ltb-true, ne_eqb, eqb-false, not-false, not-true, not_from_true, not_from_false}
use Rattle.events.specs.declared.Event.{Event}
use Rattle.trace.specs.declared.fault.TraceFault.{TraceFault}
use Rattle.trace.specs.declared.fault.TraceFault.TheVariants.{Kind, Overrun}
use Rattle.trace.specs.declared.fault.Site.{Site}
use Rattle.trace.specs.declared.fault.Refusal.{Refusal}
use Rattle.trace.specs.declared.place.Place.{Place}
use Rattle.trace.specs.Codec.{size, decoded, event_at}
use Rattle.trace.specs.Layout.{count, body_end, good_entry, bad_entry, entries, opening, section_at}
use Rattle.trace.specs.Reading.{site, placed, taken}
use Rattle.trace.specs.Refusals.{GoodEntry, Framed, FirstRefusal, too_long, header_cut, other_edition, many_sections, contents_cut, wrong_entry, left_over, Opens, InBody, EventSite, EventFault, no_such_kind, runs_over, EventRefusal}
use Rattle.trace.proofs.Entries.{body_end_none, entries_by}
use Rattle.trace.proofs.Opened.{Opened, opened, all_good, section_is, size_some}

good_from_test : (bytes : List ℕ) (i : ℕ) → good_entry bytes i ≡ true → GoodEntry bytes i
good_from_test bytes i e = let parts = and_parts _ _ e in record { begins = eqb-true _ _ parts.0; fits = leb-true _ _ parts.1 }

test_from_good : (bytes : List ℕ) (i : ℕ) → GoodEntry bytes i → good_entry bytes i ≡ true
test_from_good bytes i good = and_from _ _ (eq-eqb _ _ good.begins) (le-leb _ _ good.fits)

wrong_from_test : (bytes : List ℕ) (i : ℕ) → good_entry bytes i ≡ false → GoodEntry bytes i → ⊥
wrong_from_test bytes i e good = both_ways (good_entry bytes i) e (test_from_good bytes i good)

test_from_wrong : (bytes : List ℕ) (i : ℕ) → (GoodEntry bytes i → ⊥) → good_entry bytes i ≡ false
test_from_wrong bytes i wrong = ⊎_elim (λ t. absurd (wrong (good_from_test bytes i t))) (λ f. f) (cases_Bool (good_entry bytes i))

-- a test refuses, or nothing is refused by it and something after it
by_test : {P : Type 0} (b : Bool) (x : Refusal) (r : Option Refusal) (f : Refusal) → cond b (Some x) r ≡ Some f → (b ≡ true → f ≡ x → P) → (b ≡ false → r ≡ Some f → P) → P
by_test true x r f e refuses passes = refuses refl (cc)
by_test false x r f e refuses passes = passes refl e

-- entry i is the first wrong one of the k entries from `from` on
record FirstWrong (bytes : List ℕ) (k from i : ℕ) : Type 0 where
  pub low : from ≤ i
  pub high : i < from + k
  pub earlier : (j : ℕ) → from ≤ j → j < i → GoodEntry bytes j
  pub wrong : GoodEntry bytes i → ⊥

wrong_here : (bytes : List ℕ) (k from : ℕ) → good_entry bytes from ≡ false → FirstWrong bytes (suc k) from from
wrong_here bytes k from bad = record {
  low = omega arith;
  high = omega arith;
  earlier = λ j a b. absurd (omega arith);
  wrong = wrong_from_test bytes from bad;
}

wrong_later : (bytes : List ℕ) (k from i : ℕ) → good_entry bytes from ≡ true → FirstWrong bytes k (suc from) i → FirstWrong bytes (suc k) from i
wrong_later bytes k from i good rest = record {
  low = omega (arith, rest.low);
  high = omega (arith, rest.high);
  earlier = λ j a b. ⊎_elim (λ more. rest.earlier j (omega arith) b) (λ same. subst (GoodEntry bytes) (omega arith) (good_from_test bytes from good)) (cases_lt from j);
  wrong = rest.wrong;
}

wrong_so : (bytes : List ℕ) (k from i : ℕ) (b : Bool) → good_entry bytes from ≡ b → cond b (bad_entry bytes k (suc from)) (Some from) ≡ Some i → (bad_entry bytes k (suc from) ≡ Some i → FirstWrong bytes k (suc from) i) → FirstWrong bytes (suc k) from i
wrong_so bytes k from i true good e rest = wrong_later bytes k from i good (rest e)
wrong_so bytes k from i false bad e rest = let same : from ≡ i = cc in subst (FirstWrong bytes (suc k) from) same (wrong_here bytes k from bad)

first_wrong : (bytes : List ℕ) (k from i : ℕ) → bad_entry bytes k from ≡ Some i → FirstWrong bytes k from i
unfolding bad_entry
first_wrong bytes zero from i e = absurd (let z : ◌≡◌ {A = ℕ} 0 1 = cc in omega arith)
first_wrong bytes (suc k) from i e = wrong_so bytes k from i (good_entry bytes from) refl e (λ rest. first_wrong bytes k (suc from) i rest)

wrong_first : (bytes : List ℕ) (k from i : ℕ) → FirstWrong bytes k from i → bad_entry bytes k from ≡ Some i
unfolding bad_entry
wrong_first bytes zero from i w = absurd (omega (arith, w.low, w.high))
wrong_first bytes (suc k) from i w =
    ⊎_elim
    (λ more. cond-true _ _ _ (test_from_good bytes from (w.earlier from (omega arith) more)) ∙ wrong_first bytes k (suc from) i (record { low = omega arith; high = omega (arith, w.high); earlier = λ j a b. w.earlier j (omega arith) b; wrong = w.wrong }))
    (λ here. let same : i ≡ from = omega (arith, w.low) in cond-false _ _ _ (test_from_wrong bytes from (subst (λ n. GoodEntry bytes n → ⊥) same w.wrong)) ∙ ap Some (sym same))
    (cases_lt from i)

none_wrong : (bytes : List ℕ) (k from : ℕ) → ((j : ℕ) → from ≤ j → j < from + k → GoodEntry bytes j) → bad_entry bytes k from ≡ None
unfolding bad_entry
none_wrong bytes zero from good = refl
none_wrong bytes (suc k) from good =
    cond-true _ _ _ (test_from_good bytes from (good from (omega arith) (omega arith))) ∙ none_wrong bytes k (suc from) (λ j a b. good j (omega arith) (omega arith))

-- what the entries and the bytes behind the last body are refused for
entries_refused : (bytes : List ℕ) (f : Refusal) → Framed bytes → (r : Option ℕ) → bad_entry bytes (count bytes) 0 ≡ r → entries bytes r ≡ Some f → FirstRefusal bytes f
entries_refused bytes f framed (Some i) bad e =
    let w = first_wrong bytes (count bytes) 0 i bad in
    wrong_entry framed i (omega (arith, w.high)) (λ j h. w.earlier j (omega arith) h) w.wrong (cc)
entries_refused bytes f framed None bad e =
    by_test _ _ _ f e
    (λ over is. left_over framed (λ j h. good_from_test bytes j (all_good bytes (count bytes) 0 bad j (omega arith) (omega arith))) (ltb-true _ _ over) is)
    (λ _ none. absurd (let z : ◌≡◌ {A = ℕ} 0 1 = cc in omega arith))

pub first_refusal : (bytes : List ℕ) (f : Refusal) → opening bytes ≡ Some f → FirstRefusal bytes f
first_refusal bytes f e =
    by_test _ _ _ f e (λ t is. too_long (ltb-true _ _ t) is) (λ short e.
    by_test _ _ _ f e (λ t is. header_cut (ltb-false _ _ short) (ltb-true _ _ t) is) (λ header e.
    by_test _ _ _ f e (λ t is. other_edition (ltb-false _ _ short) (ltb-false _ _ header) (eqb-false _ _ (not-true _ t)) is) (λ edition e.
    by_test _ _ _ f e (λ t is. many_sections (ltb-false _ _ short) (ltb-false _ _ header) (eqb-true _ _ (not-false _ edition)) (ltb-true _ _ t) is) (λ few e.
    by_test _ _ _ f e (λ t is. contents_cut (ltb-false _ _ short) (ltb-false _ _ header) (eqb-true _ _ (not-false _ edition)) (ltb-false _ _ few) (ltb-true _ _ t) is) (λ room e.
    entries_refused bytes f (record { short = ltb-false _ _ short; header = ltb-false _ _ header; edition = eqb-true _ _ (not-false _ edition); few = ltb-false _ _ few; contents = ltb-false _ _ room }) (bad_entry bytes (count bytes) 0) refl e)))))

-- the converse: a file to which a rule applies does not open
pub refusal_opens : (bytes : List ℕ) (f : Refusal) → FirstRefusal bytes f → opening bytes ≡ Some f
refusal_opens bytes f (too_long a is) = cond-true _ _ _ (lt-ltb _ _ a) ∙ ap Some (sym is)
refusal_opens bytes f (header_cut a b is) = cond-false _ _ _ (le-ltb _ _ a) ∙ cond-true _ _ _ (lt-ltb _ _ b) ∙ ap Some (sym is)
refusal_opens bytes f (other_edition a b c is) =
    cond-false _ _ _ (le-ltb _ _ a) ∙ cond-false _ _ _ (le-ltb _ _ b) ∙ cond-true _ _ _ (not_from_false _ (ne_eqb _ _ c)) ∙ ap Some (sym is)
refusal_opens bytes f (many_sections a b c d is) =
    cond-false _ _ _ (le-ltb _ _ a) ∙ cond-false _ _ _ (le-ltb _ _ b) ∙ cond-false _ _ _ (not_from_true _ (eq-eqb _ _ c)) ∙ cond-true _ _ _ (lt-ltb _ _ d) ∙ ap Some (sym is)
refusal_opens bytes f (contents_cut a b c d e is) =
    cond-false _ _ _ (le-ltb _ _ a) ∙ cond-false _ _ _ (le-ltb _ _ b) ∙ cond-false _ _ _ (not_from_true _ (eq-eqb _ _ c)) ∙ cond-false _ _ _ (le-ltb _ _ d) ∙ cond-true _ _ _ (lt-ltb _ _ e) ∙ ap Some (sym is)
refusal_opens bytes f (wrong_entry framed i few earlier wrong is) =
    entries_by bytes framed ∙ ap (entries bytes) (wrong_first bytes (count bytes) 0 i (record { low = omega arith; high = omega arith; earlier = λ j _ h. earlier j h; wrong = wrong })) ∙ ap Some (sym is)
refusal_opens bytes f (left_over framed good over is) =
    entries_by bytes framed ∙ ap (entries bytes) (none_wrong bytes (count bytes) 0 (λ j _ h. good j (omega arith))) ∙ cond-true _ _ _ (lt-ltb _ _ over) ∙ ap Some (sym is)

pub opens : (bytes : List ℕ) → opening bytes ≡ None → Opens bytes
opens bytes none f first = let some = refusal_opens bytes f first in absurd (let z : ◌≡◌ {A = ℕ} 0 1 = cc in omega arith)

-- the section in whose body a byte lies
body_found : (bytes : List ℕ) (k b : ℕ) → body_end bytes 0 ≤ b → b < body_end bytes k → (m : ℕ) × (m < k) × (body_end bytes m ≤ b) × (b < body_end bytes (m + 1))
body_found bytes zero b low high = absurd (omega arith)
body_found bytes (suc k) b low high =
    ⊎_elim
    (λ h. let r = body_found bytes k b low h in (r.0, omega arith, r.2, r.3))
    (λ h. (k, omega arith, h, subst (λ n. b < body_end bytes n) (sym (add-one k)) high))
    (cases_lt b (body_end bytes k))

pub in_body : (bytes : List ℕ) (b : ℕ) → Opened bytes → 4 + 8 * count bytes ≤ b → b < length bytes → InBody bytes (section_at bytes b) b
in_body bytes b file low high =
    let start = body_end_none bytes in
    let whole = file.whole in
    let r = body_found bytes (count bytes) b (omega arith) (omega arith) in
    let s = r.0 + 1 in
    let less : s - 1 ≡ r.0 = omega arith in
    let from = subst (λ n. body_end bytes n ≤ b) (sym less) r.2 in
    let is = section_is bytes s b (omega arith) (omega arith) from r.3 in
    subst (λ n. InBody bytes n b) (sym is) (record { some = omega arith; last = omega arith; from = from; before = r.3 })

-- a test refuses an event, or it does not and what comes after it does
event_refused : (bytes : List ℕ) (b end : ℕ) (k : TraceFault) → event_at bytes b end ≡ Err k → EventFault bytes b end k
event_refused bytes b end k e = go (leb 10 (get_or bytes b 0)) (ltb (end - b) (size (get_or bytes b 0))) refl refl e
  where
    go : (x y : Bool) → leb 10 (get_or bytes b 0) ≡ x → ltb (end - b) (size (get_or bytes b 0)) ≡ y → cond {A = Result Event TraceFault} x (Err Kind) (cond y (Err Overrun) (Ok (decoded bytes b))) ≡ Err k → EventFault bytes b end k
    go true y t u h = no_such_kind (leb-true _ _ t) (cc)
    go false true t u h = runs_over (leb-false _ _ t) (let some = size_some (get_or bytes b 0) in let less = ltb-true _ _ u in omega arith) (cc)
    go false false t u h = absurd (let z : ◌≡◌ {A = ℕ} 0 1 = cc in omega arith)

pub event_site : (bytes : List ℕ) (p : Place) → opening bytes ≡ None → 4 + 8 * count bytes ≤ p.byte → p.byte < length bytes → EventSite bytes p (site bytes p)
event_site bytes p none low high = record {
  opens = opens bytes none;
  more = high;
  section = in_body bytes p.byte (opened bytes none) low high;
  event = refl;
  byte = refl;
}

placed_err : (s : Site) (r : Result Event TraceFault) (f : Refusal) → placed s r ≡ Err f → (r ≡ Err f.fault) × (f.at ≡ s)
placed_err s (Ok x) f h = absurd (let z : ◌≡◌ {A = ℕ} 0 1 = cc in omega arith)
placed_err s (Err k) f h = let is : f ≡ record { fault = k; at = s } = cc in (ap (λ g. Err g.fault) (sym is), ap (λ g. g.at) is)

pub event_refusal : (bytes : List ℕ) (p : Place) (f : Refusal) → opening bytes ≡ None → 4 + 8 * count bytes ≤ p.byte → p.byte < length bytes → taken bytes p ≡ Err f → EventRefusal bytes p f
event_refusal bytes p f none low high e =
    let told = placed_err (site bytes p) (event_at bytes p.byte (body_end bytes (section_at bytes p.byte))) f e in
    record {
      site = subst (EventSite bytes p) (sym told.1) (event_site bytes p none low high);
      fault = subst (λ s. EventFault bytes p.byte (body_end bytes s.section) f.fault) (sym told.1) (event_refused bytes p.byte (body_end bytes (section_at bytes p.byte)) f.fault told.0);
    }
