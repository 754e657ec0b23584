-- What reading and printing come to. Assumes nothing.
use Rattle.std.proofs.Common.{◌≡◌, ℕ, ◌+◌, ◌*◌, ◌<◌, ◌≤◌, List, [], ◌++◌, ⊎_elim, inl, refl, length, take, drop, IfSome, Some, None, Option, Ok, Err, Result, sym, subst, ap, ◌∙◌, arith}
use Rattle.std.proofs.lemmas.List.{length-take-le, take_all}
use Rattle.std.proofs.Math.Seq.{take-append_seam}
use Rattle.streams.specs.Told.{FillsUpTo}
use Rattle.streams.proofs.Fronts.{first_read}
use Rattle.std.proofs.lemmas.Bool.{cases_lt}
use Rattle.trace.specs.declared.fault.TraceFault.TheVariants.{TooLong}
use Rattle.trace.specs.declared.fault.Refusal.{Refusal}
use Rattle.trace.specs.Fronts.{IsFrontOf}
use Rattle.trace.specs.Layout.{at_start, count}
use Rattle.trace.specs.Refusals.{too_long}
use Rattle.trace.proofs.OneFront.{one_front}
use Rattle.inspector.specs.Listings.{IsListing, listing, refusal_line}
use Rattle.inspector.specs.Prints.{ListsAll, Uses}
use Rattle.inspector.proofs.Lines.{sections_none}

pub uses : {E : Type 0} (old new : Option (List ℕ)) (r : Result ℕ E) (buf : List ℕ) → length buf ≤ 65537 → FillsUpTo old new r buf → Uses old new
uses old new (Ok n) buf few fills = let long = length-take-le n buf fills.0.0 in record { used = take n buf; few = omega arith; consumed = fills.0.1 }
uses old new (Err e) buf few fills = let long = length-take-le fills.0 buf fills.1.0 in record { used = take fills.0 buf; few = omega arith; consumed = fills.1.1 }

-- the buffer that was filled, cut where the reading ended
pub gives : (E : Type 0) (a b : Option (List ℕ)) (buf items kept : List ℕ) (n k : ℕ) → length buf ≡ 65537 → k ≡ 65537 → FillsUpTo {E = E} a b (Ok n) buf →
    kept ≡ take n (take k (buf ++ drop (length buf) items)) → IfSome a (λ xs. kept ≡ take 65537 xs)
gives E None b buf items kept n k long all fills is = tt
gives E (Some xs) b buf items kept n k long all fills is =
    let read = first_read (Some xs) b buf n fills.0.0 fills.0.1 fills.1 in
    is ∙ ap (λ m. take n (take m (buf ++ drop (length buf) items))) (all ∙ sym long) ∙ ap (take n) (take-append_seam buf (drop (length buf) items))
    ∙ read.0 ∙ ap (λ m. take m xs) long

-- a file that is too long is refused for its length, so its first bytes have its listing
abbrev too_many : Refusal
too_many = at_start TooLong 65536

long_front : (bytes : List ℕ) → 65536 < length bytes → IsFrontOf bytes [] [] (Some too_many)
long_front bytes long = inl (too_long long refl, refl, refl)

long_text : (bytes : List ℕ) → listing bytes [] [] (Some too_many) ≡ refusal_line too_many
long_text bytes = ap (λ l. l ++ refusal_line too_many) (sections_none 1 1 (4 + 8 * count bytes) [])

long_listed : (bytes t : List ℕ) → 65536 < length bytes → IsListing (take 65537 bytes) t → IsListing bytes t
long_listed bytes t long l =
    let read = take 65537 bytes in
    let front : 65536 < length read = (let n = length-take-le 65537 bytes (omega arith) in omega arith) in
    let one = one_front read l.counts [] l.events [] l.end (Some too_many) l.front (long_front read front) in
    record {
      counts = [];
      events = [];
      end = Some too_many;
      front = long_front bytes long;
      same = tt;
      text = l.text ∙ ap (λ cs. listing read cs l.events l.end) one.0 ∙ ap (λ es. listing read [] es l.end) one.1 ∙ ap (listing read [] []) one.2
          ∙ long_text read ∙ sym (long_text bytes);
    }

pub lists_all : (input : Option (List ℕ)) (read t : List ℕ) → IfSome input (λ bytes. read ≡ take 65537 bytes) → IsListing read t → ListsAll input t
lists_all None read t is l = record { file = read; whole = tt; lists = l }
lists_all (Some bytes) read t is l =
    let front = subst (λ xs. IsListing xs t) is l in
    record {
      file = bytes;
      whole = refl;
      lists = ⊎_elim (λ long. long_listed bytes t long front) (λ short. subst (λ xs. IsListing xs t) (take_all 65537 bytes (omega arith)) front) (cases_lt 65536 (length bytes));
    }
