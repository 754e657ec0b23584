-- The lines of a certificate, one after another. Assumes nothing.
use Rattle.std.proofs.Common.{◌≡◌, ℕ, ◌+◌, ◌<◌, ◌≤◌, List, [], ◌∷◌, ◌++◌, length, get_or, take, drop, Option, None, sym, refl, ap, ◌∙◌, arith}
use Rattle.std.proofs.lemmas.List.{append-nil, append_assoc, length-append, take-append-drop, take_more, take_all}
use Rattle.std.proofs.Output.{writes_in_calls_nil, has_written_append, has_written_of_eq}
use Rattle.std.specs.declared.fmt.Formatter.{Formatter}
use Rattle.std.specs.Prelude.{codes}
use Rattle.std.specs.Fmt.{HasWritten, IsPlainFormatter}
use Rattle.certificate.specs.declared.fault.Fault.{Fault}
use Rattle.certificate.specs.declared.finding.Finding.{Finding}
use Rattle.certificate.specs.Texts.{finding_text, findings_text, first_text, last_text, text}

findings_append : (xs ys : List Finding) → findings_text (xs ++ ys) ≡ findings_text xs ++ findings_text ys
unfolding findings_text
findings_append [] ys = refl
findings_append (f ∷ xs) ys = ap (λ l. (finding_text f ++ (10 ∷ [])) ++ l) (findings_append xs ys) ∙ sym (append_assoc (finding_text f ++ (10 ∷ [])) (findings_text xs) (findings_text ys))

findings_one : (f : Finding) → findings_text (f ∷ []) ≡ finding_text f ++ (10 ∷ [])
unfolding findings_text
findings_one f = append-nil (finding_text f ++ (10 ∷ []))

pub findings_more : (fs : List Finding) (i : ℕ) (d : Finding) → i < length fs → findings_text (take i fs) ++ (finding_text (get_or fs i d) ++ (10 ∷ [])) ≡ findings_text (take (i + 1) fs)
findings_more fs i d h =
    ap (λ l. findings_text (take i fs) ++ l) (sym (findings_one (get_or fs i d))) ∙ sym (findings_append (take i fs) (get_or fs i d ∷ [])) ∙ ap findings_text (sym (take_more fs i d h))

-- the last line where no fault ended the run
pub last_clean : (fs : List Finding) (end : Option Fault) → length fs < 1 → end ≡ None → codes "clean" ++ (10 ∷ []) ≡ last_text fs end
last_clean [] end few none = sym (ap (last_text []) none)
last_clean (f ∷ fs) end few none = absurd (omega arith)

pub last_not_clean : (fs : List Finding) (end : Option Fault) → 0 < length fs → end ≡ None → codes "not clean" ++ (10 ∷ []) ≡ last_text fs end
last_not_clean [] end some none = absurd (omega arith)
last_not_clean (f ∷ fs) end some none = sym (ap (last_text (f ∷ fs)) none)

-- the first line and those of the first i findings
unfoldable pub upto : ℕ → List Finding → ℕ → List ℕ
upto a fs i = first_text a (length fs) ++ findings_text (take i fs)

pub upto_none : (a : ℕ) (fs : List Finding) → first_text a (length fs) ≡ upto a fs 0
unfolding upto findings_text
upto_none a fs = sym (append-nil (first_text a (length fs)))

pub upto_more : (a : ℕ) (fs : List Finding) (i : ℕ) (d : Finding) → i < length fs → upto a fs i ++ (finding_text (get_or fs i d) ++ (10 ∷ [])) ≡ upto a fs (i + 1)
unfolding upto
upto_more a fs i d h =
    append_assoc (first_text a (length fs)) (findings_text (take i fs)) (finding_text (get_or fs i d) ++ (10 ∷ [])) ∙ ap (λ l. first_text a (length fs) ++ l) (findings_more fs i d h)

pub upto_all : (a : ℕ) (fs : List Finding) (i : ℕ) (end : Option Fault) → length fs ≤ i → upto a fs i ++ last_text fs end ≡ text a fs end
unfolding upto text
upto_all a fs i end all = ap (λ l. (first_text a (length fs) ++ findings_text l) ++ last_text fs end) (take_all i fs all)

-- no part of the text is longer than the text
pub upto_fits : (a : ℕ) (fs : List Finding) (i : ℕ) (end : Option Fault) → length (upto a fs i) ≤ length (text a fs end)
unfolding upto text
upto_fits a fs i end =
    let parts = ap findings_text (sym (take-append-drop i fs)) ∙ findings_append (take i fs) (drop i fs) in
    let long = ap length parts ∙ length-append (findings_text (take i fs)) (findings_text (drop i fs)) in
    let some = length-append (first_text a (length fs)) (findings_text (take i fs)) in
    let all = length-append (first_text a (length fs)) (findings_text fs) in
    let whole = length-append (first_text a (length fs) ++ findings_text fs) (last_text fs end) in
    omega arith

module _ {W : Type 0} (took : W → List ℕ → W → Type 0) (f : Formatter W) where
  -- no line yet
  pub written_none : IsPlainFormatter f → HasWritten took f (findings_text []) f
  unfolding findings_text
  written_none plain = record { wrote = writes_in_calls_nil took f.writer; plain = plain }

  module _ (g h : Formatter W) where
    -- one line more
    pub written_more : (fs : List Finding) (i : ℕ) (d : Finding) → i < length fs → HasWritten took f (findings_text (take i fs)) g → HasWritten took g (finding_text (get_or fs i d) ++ (10 ∷ [])) h → HasWritten took f (findings_text (take (i + 1) fs)) h
    written_more fs i d lt sofar line = has_written_of_eq took f _ _ h (findings_more fs i d lt) (has_written_append took f _ g _ h sofar line)

    -- first line, findings and last line make the text
    pub written_text : (e : Formatter W) (a : ℕ) (fs : List Finding) (i : ℕ) (end : Option Fault) (last : List ℕ) → length fs ≤ i → HasWritten took e (first_text a (length fs)) f → HasWritten took f (findings_text (take i fs)) g → HasWritten took g last h → last ≡ last_text fs end → HasWritten took e (text a fs end) h
    unfolding text
    written_text e a fs i end last all first some ends is =
        let lines = ap findings_text (take_all i fs all) in
        let whole : (first_text a (length fs) ++ findings_text (take i fs)) ++ last ≡ (first_text a (length fs) ++ findings_text fs) ++ last_text fs end = cc in
        has_written_of_eq took e _ _ h whole (has_written_append took e _ g _ h (has_written_append took e _ f _ g first some) ends)
