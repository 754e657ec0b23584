-- What was read into the buffer is the source's first bytes, and so its certificate is that of them all. Assumes nothing.
use Rattle.std.proofs.Common.{◌≡◌, ℕ, ◌≤◌, List, length, take, drop, IfSome, Some, None, Option, Ok, Result, ◌++◌, sym, refl, ap, ◌∙◌, subst, arith, length-take-le, take_all}
use Rattle.streams.specs.Told.{FillsUpTo}
use Rattle.streams.proofs.Fronts.{first_read}
use Rattle.certificate.specs.declared.call.KeeperKind.TheVariants.{Locksets}
use Rattle.std.proofs.Math.Seq.{take-append_seam}
use Rattle.std.proofs.lemmas.List.{length-append}
use Rattle.certificate.specs.LastLine.{EndsAs}
use Rattle.certificate.specs.MadeBy.{MadeBy}
use Rattle.certificate.specs.Host.{CertifiedInto}
use Rattle.certificate.specs.declared.call.Summary.{Summary}
use Rattle.certifier.specs.Prints.{CertifiesAll, UsesFirst, Wrote}
use Rattle.certifier.proofs.Enough.{certified_whole}

-- a buffer of 65,537 bytes was filled from the source up to its end or the source's, by n bytes
pub record Filled (a b : Option (List ℕ)) (buf : List ℕ) (n : ℕ) : Type 0 where
  pub few : length (take n buf) ≤ 65537
  pub firsts : IfSome a (λ xs. (take n buf ≡ take 65537 xs) × (b ≡ Some (drop 65537 xs)))

pub filled : {E : Type 0} (a b : Option (List ℕ)) (r : Result ℕ E) (buf : List ℕ) (n : ℕ) → r ≡ Ok n → length buf ≡ 65537 → FillsUpTo a b r buf → Filled a b buf n
filled a b r buf n is long fills =
    let f = subst (λ q. FillsUpTo a b q buf) is fills in
    record {
      few = let e = length-take-le n buf f.0.0 in let l = f.0.0 in omega arith;
      firsts = subst (λ k. IfSome a (λ xs. (take n buf ≡ take k xs) × (b ≡ Some (drop k xs)))) long (first_read a b buf n f.0.0 f.0.1 f.1);
    }

pub uses_first : (a b : Option (List ℕ)) (buf : List ℕ) (n : ℕ) → Filled a b buf n → UsesFirst a b
uses_first None b buf n is = tt
uses_first (Some xs) b buf n is = is.firsts.1

pub certifies_all : (a b : Option (List ℕ)) (buf : List ℕ) (n : ℕ) (t : List ℕ) → Filled a b buf n → MadeBy Locksets (take n buf) t → CertifiesAll a t
certifies_all None b buf n t is made =
    let same = sym (take_all 65537 (take n buf) is.few) in
    record { file = take n buf; whole = tt; certifies = made.certifies; made = subst (λ xs. MadeBy Locksets xs t) same made }
certifies_all (Some xs) b buf n t is made =
    let firsts = subst (λ ys. MadeBy Locksets ys t) is.firsts.0 made in
    record { file = xs; whole = refl; certifies = certified_whole xs t firsts.certifies; made = firsts }

pub wrote : (bytes out out' : List ℕ) (told : Summary) → CertifiedInto (MadeBy Locksets bytes) out out' (Ok told) → Wrote bytes out' told
wrote bytes out out' told (t, made, (long, ends, fits, is)) =
    let front : take told.length out' ≡ t = ap (take told.length) is ∙ ap (λ n. take n (t ++ drop (length t) out)) long ∙ take-append_seam t (drop (length t) out) in
    record {
      made = subst (MadeBy Locksets bytes) (sym front) made;
      ends = subst (λ xs. EndsAs xs told.ending) (sym front) ends;
      fits = let e = ap length is in let e2 = length-append t (drop (length t) out) in omega arith;
    }
