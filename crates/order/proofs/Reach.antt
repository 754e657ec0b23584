-- Holders that an event has reached: how they decide the order, and what one more event changes. Assumes nothing.
use Rattle.std.proofs.Common.{◌≡◌, ℕ, ◌<◌, true, false, ◌&&◌, ◌||◌, eqb, ◌⊎◌, ◌↔◌, List, ◌∷◌, length, Decides, sym, refl, ◌∙◌, subst, inl, inr, arith}
use Rattle.std.proofs.lemmas.Bool.{and_parts, and_from, or_cases, or_left, or_right, eq-eqb, eqb-true, false≢true}
use Rattle.events.specs.declared.Event.{Event}
use Rattle.events.specs.declared.Action.TheVariants.{Read}
use Rattle.order.specs.Acts.{by, does, commits}
use Rattle.order.specs.Order.{Ordered, ordered}
use Rattle.order.specs.Holders.{Holder, of_thread, of_lock, of_flag, of_place, gives, takes, gives_at, Reached, reached}
use Rattle.order.specs.Verdicts.{Before}
use Rattle.order.proofs.Records.{holds_at_last, holds_at_past, holds_at_cases, holds_at_within}
use Rattle.order.proofs.Chains.{chain_last, chain_from_last, ordered_longer, ordered_shorter, ordered_decides}
use Rattle.order.proofs.Searches.{some_below_found, some_below_from}
use Rattle.order.proofs.Links.{linked_iff}

-- an event is ordered before e, at the end, just if e takes from a holder that it has reached
pub ordered_iff_reached : (rec : List Event) (e : Event) (i : ℕ) → i < length rec → Ordered (e ∷ rec) i (length rec) ↔ ((h : Holder) × Reached rec i h × (takes rec e h ≡ true))
ordered_iff_reached rec e i l = (
  λ c.
      let last = chain_last c in
      let before = last.2.earlier in
      let k = last.0 in
      let through = (linked_iff (e ∷ rec) k (length rec) (omega arith) (omega arith)).0 last.2.link in (
        through.0,
        record {
          giver = k;
          from = elim last.1 [ inl q ↦ inl q | inr d ↦ inr (ordered_shorter rec e before d) ];
          gives = sym (holds_at_past rec e k _ before) ∙ through.1;
        },
        sym (holds_at_last rec e _) ∙ through.2,
      ),
  λ t.
      let r = t.1 in
      let k = r.giver in
      let m = holds_at_within rec k _ r.gives in
      chain_from_last
      (elim r.from as (λ _. (i ≡ k) ⊎ Ordered (e ∷ rec) i k) [ inl q ↦ inl q | inr d ↦ inr (ordered_longer rec e d) ])
      (record {
        earlier = m;
        within = omega arith;
        link = (linked_iff (e ∷ rec) k (length rec) (omega arith) (omega arith)).1 (t.0, holds_at_past rec e k _ m ∙ r.gives, holds_at_last rec e _ ∙ t.2);
      }),
)

-- one more event: a holder is reached that was, or to which e gives if i is e or is ordered before e
pub reached_more : (rec : List Event) (e : Event) (i : ℕ) (h : Holder) → Reached (e ∷ rec) i h ↔ (Reached rec i h ⊎ ((gives rec e h ≡ true) × ((i ≡ length rec) ⊎ Ordered (e ∷ rec) i (length rec))))
reached_more rec e i h = (
  λ r.
      let k = r.giver in
      elim (holds_at_cases rec e k _ r.gives) [
        | inl q ↦ inr (q.1, subst (λ x. (i ≡ x) ⊎ Ordered (e ∷ rec) i x) q.0 r.from)
        | inr q ↦
            inl (record {
              giver = k;
              from = elim r.from [ inl same ↦ inl same | inr c ↦ inr (ordered_shorter rec e (holds_at_within rec k _ q) c) ];
              gives = q;
            })
      ],
  elim [
    | inl r ↦
        record {
          giver = r.giver;
          from = elim r.from [ inl same ↦ inl same | inr c ↦ inr (ordered_longer rec e c) ];
          gives = holds_at_past rec e r.giver _ (holds_at_within rec r.giver _ r.gives) ∙ r.gives;
        }
    | inr q ↦ record { giver = length rec; from = q.1; gives = holds_at_last rec e _ ∙ q.0 }
  ],
)

-- the test decides whether a holder is reached
pub reached_decides : (rec : List Event) (i : ℕ) (h : Holder) → Decides (reached rec i h) (Reached rec i h)
unfolding reached
reached_decides rec i h = (
  λ q.
      let found = some_below_found (length rec) (λ k. (eqb i k || ordered rec i k) && gives_at rec k h) q in
      let k = found.0 in
      let both = and_parts (eqb i k || ordered rec i k) (gives_at rec k h) found.2 in
      record {
        giver = k;
        from = elim (or_cases (eqb i k) (ordered rec i k) both.0) [ inl s ↦ inl (eqb-true i k s) | inr s ↦ inr ((ordered_decides rec i k).0 s) ];
        gives = both.1;
      },
  λ r.
      let k = r.giver in
      let from : (eqb i k || ordered rec i k) ≡ true = elim r.from [ inl s ↦ or_left (eqb i k) _ (eq-eqb i k s) | inr s ↦ or_right (eqb i k) _ ((ordered_decides rec i k).1 s) ] in
      some_below_from (length rec) (λ m. (eqb i m || ordered rec i m) && gives_at rec m h) k (holds_at_within rec k _ r.gives) (and_from (eqb i k || ordered rec i k) (gives_at rec k h) from r.gives),
)

-- what a reader takes is what has reached its thread
reader_takes : (rec : List Event) (t p i : ℕ) (h : Holder) → takes rec (by t (Read p)) h ≡ true → Reached rec i h → Reached rec i (of_thread t)
unfolding takes does commits
reader_takes rec t p i (of_thread u) q r =
    elim (or_cases (eqb t u) false q) as (λ _. Reached rec i (of_thread t)) [
      | inl s ↦ subst (λ x. Reached rec i (of_thread x)) (sym (eqb-true t u s)) r
      | inr s ↦ absurd (false≢true s)
    ]
reader_takes rec t p i (of_lock l) q r = absurd (false≢true q)
reader_takes rec t p i (of_flag f) q r = absurd (false≢true q)
reader_takes rec t p i (of_place q) h r = absurd (false≢true h)

reader_own : (rec : List Event) (t p : ℕ) → takes rec (by t (Read p)) (of_thread t) ≡ true
unfolding takes
reader_own rec t p = or_left (eqb t t) _ (eq-eqb t t refl)

-- an event has reached a thread just if it is ordered before what that thread would read next
pub reached_ordered : (rec : List Event) (i t p : ℕ) → i < length rec → Decides (reached rec i (of_thread t)) (Before rec (by t (Read p)) i)
reached_ordered rec i t p l =
    let through = ordered_iff_reached rec (by t (Read p)) i l in
    let decides = reached_decides rec i (of_thread t) in (
      λ q. through.1 (of_thread t, decides.0 q, reader_own rec t p),
      λ b. let r = through.0 b in decides.1 (reader_takes rec t p i r.0 r.2 r.1),
    )
