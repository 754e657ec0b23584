-- A file that is too long is refused for its length, so its first bytes have its certificate. Assumes nothing.
use Rattle.std.proofs.Common.{ℕ, ◌<◌, List, [], length, take, Some, Err, sym, refl, ap, subst, ⊎_elim, arith}
use Rattle.std.proofs.lemmas.Bool.{cases_lt}
use Rattle.std.proofs.lemmas.List.{length-take-le, take_all}
use Rattle.order.proofs.Judgement.{nothing_races}
use Rattle.trace.specs.declared.fault.TraceFault.TheVariants.{TooLong}
use Rattle.trace.specs.declared.fault.Refusal.{Refusal}
use Rattle.trace.specs.Reading.{site, entered, inside, outside, onward, unless_refused}
use Rattle.trace.specs.Refusals.{too_long}
use Rattle.trace.proofs.Refusals.{refusal_opens}
use Rattle.certificate.specs.declared.fault.Cause.TheVariants.{Trace}
use Rattle.certificate.specs.Running.{Outcome, StopsAs, Runs}
use Rattle.certificate.specs.Texts.{text}
use Rattle.certificate.specs.Certified.{Certifies}
use Rattle.certificate.proofs.Agreeing.{agree}
use Rattle.certificate.proofs.Bounds.{fits}
use Rattle.certificate.proofs.LastLines.{tells}
use Rattle.certificate.proofs.Sentences.{sentence}

-- the refusal of such a file, and what its run comes to
abbrev too_many : Refusal
too_many = record { fault = TooLong; at = record { section = 0; event = 0; byte = 65536 } }

abbrev refused_long : Outcome
refused_long = record { recorded_as = []; findings = []; end = Some (record { cause = Trace TooLong; at = too_many.at }); place = outside }

abbrev long_text : List ℕ
long_text = text 0 [] refused_long.end

runs_long : (bytes : List ℕ) → 65536 < length bytes → Runs bytes outside [] [] [] refused_long
unfolding Runs
runs_long bytes long =
    let shut = refusal_opens bytes too_many (too_long long refl) in
    record {
      ends = subst (λ o. StopsAs (unless_refused o Err (onward bytes (inside bytes outside))) (site bytes (inside bytes outside)) [] [] refused_long.end) (sym shut) refl;
      record_stays = refl;
      findings_stay = refl;
      place_stays = ap (λ o. entered bytes o outside) (sym shut);
    }

long_certified : (bytes : List ℕ) → 65536 < length bytes → Certifies bytes long_text
long_certified bytes long =
    let runs = runs_long bytes long in
    let says = sentence bytes outside [] [] refused_long (λ some. absurd (omega arith)) tt nothing_races runs in
    record {
      events = [];
      outcome = refused_long;
      runs = runs;
      says = says;
      is = refl;
      tells = tells bytes long_text [] refused_long says refl;
      fits = fits bytes [] refused_long runs says;
    }

-- the certificate of what is read is that of the whole
pub certified_whole : (bytes t : List ℕ) → Certifies (take 65537 bytes) t → Certifies bytes t
certified_whole bytes t c =
    ⊎_elim
    (λ long. let front : 65536 < length (take 65537 bytes) = (let n = length-take-le 65537 bytes (omega arith) in omega arith) in
    subst (Certifies bytes) (agree (take 65537 bytes) long_text t (long_certified (take 65537 bytes) front) c) (long_certified bytes long))
    (λ short. subst (λ xs. Certifies xs t) (take_all 65537 bytes (omega arith)) c)
    (cases_lt 65536 (length bytes))
