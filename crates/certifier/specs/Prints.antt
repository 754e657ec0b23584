-- What is printed of what a source gives. Assumes nothing. Of a source and a sink, `input`, `old` and `new` are the bytes
-- that are known, and `input'` are those that the source has left.
--   CertifiesAll input t     t is the certificate of a file, which is all of the source's bytes where they are known, and
--                            it was made over locksets, of no more bytes than show that a file is too long
--   Wrote bytes out made     a certificate of the bytes, made over locksets, stands at the front of the buffer `out`, as
--                            long and with such an ending as is told
--   Prints input old new e   behind what the sink had stands the one text that certifies all, and its ending is e
--   Leaves contents input s s' f   with the failure f: where the source was not read, the sink s' is the sink s; where the
--                            text was not printed, some front of a text that certifies all stands behind what s had
--   UsesFirst input input'   the source has given its first 65,537 bytes, or all where it has no more
--   UsesUp input input' r    with the answer r: those bytes, or some front of them where the source was not read
--   Excused s w f            the failure f is that of a source or a sink which isn't steady: s and w say that they are
use Rattle.std.specs.Prelude.{◌≡◌, ℕ, ◌≤◌, List, take, drop, length, IfSome, Some, Ok, Err, Option, Result}
use Rattle.std.specs.Io.KnownBytes.{Appends}
use Rattle.streams.specs.Told.{AppendsFront}
use Rattle.certificate.specs.Certified.{Certifies}
use Rattle.certificate.specs.declared.call.KeeperKind.TheVariants.{Locksets}
use Rattle.certificate.specs.LastLine.{EndsAs}
use Rattle.certificate.specs.MadeBy.{MadeBy}
use Rattle.certificate.specs.declared.ending.Ending.{Ending}
use Rattle.certificate.specs.declared.call.Summary.{Summary}
use Rattle.certifier.specs.declared.printing.Failure.{Failure}
use Rattle.certifier.specs.declared.printing.Failure.TheVariants.{Reading, Printing}

pub record CertifiesAll (input : Option (List ℕ)) (t : List ℕ) : Type 0 where
  pub file : List ℕ
  pub whole : IfSome input (λ bytes. file ≡ bytes)
  pub certifies : Certifies file t
  pub made : MadeBy Locksets (take 65537 file) t

pub record Wrote (bytes out : List ℕ) (told : Summary) : Type 0 where
  pub made : MadeBy Locksets bytes (take told.length out)
  pub ends : EndsAs (take told.length out) told.ending
  pub fits : told.length ≤ length out

pub record Prints (input old new : Option (List ℕ)) (e : Ending) : Type 0 where
  pub text : List ℕ
  pub certifies : CertifiesAll input text
  pub ends : EndsAs text e
  pub appended : Appends old new text

abbrev pub Leaves : {W : Type 0} → (W → Option (List ℕ)) → Option (List ℕ) → W → W → Failure → Type 0
Leaves contents input s s' (Reading e) = s' ≡ s
Leaves contents input s s' (Printing e) =
    (t : List ℕ) × CertifiesAll input t × AppendsFront (contents s) (contents s') t

abbrev pub UsesFirst : Option (List ℕ) → Option (List ℕ) → Type 0
UsesFirst input input' = IfSome input (λ xs. input' ≡ Some (drop 65537 xs))

abbrev pub UsesUp : Option (List ℕ) → Option (List ℕ) → Result Ending Failure → Type 0
UsesUp input input' (Ok e) = UsesFirst input input'
UsesUp input input' (Err (Printing e)) = UsesFirst input input'
UsesUp input input' (Err (Reading e)) = (n : ℕ) × (n ≤ 65537) × IfSome input (λ xs. input' ≡ Some (drop n xs))

abbrev pub Excused : Type 0 → Type 0 → Failure → Type 0
Excused s w (Reading e) = s → ⊥
Excused s w (Printing e) = w → ⊥
