-- A buffer that is filled from its front, one run of bytes behind another. Assumes nothing.
use Rattle.std.proofs.Common.{◌≡◌, ℕ, ◌+◌, ◌≤◌, List, [], ◌++◌, length, sym, refl, ap, ◌∙◌, subst, arith}
use Rattle.std.proofs.lemmas.List.{length-append}
use Rattle.trace.specs.declared.sheet.Sheet.{Sheet}
use Rattle.trace.specs.File.{laid}
use Rattle.trace.specs.Sheets.{Room, Adds}
use Rattle.trace.proofs.Buffers.{laid_none, laid_more, length_laid}

pub adds_none : (s : Sheet) → Adds s [] s
adds_none s = record { same_buffer = refl; at = omega arith; out = sym (laid_none s.out.now s.at) }

-- a second run behind the first
pub adds_more : {s t u : Sheet} {xs ys : List ℕ} → Adds s xs t → Adds t ys u → s.at ≤ length s.out.now → Adds s (xs ++ ys) u
adds_more {s} {t} {u} {xs} {ys} first second h =
    let long = length-append xs ys in
    record {
      same_buffer = second.same_buffer ∙ first.same_buffer;
      at = omega (arith, first.at, second.at);
      out = second.out ∙ ap (λ d. laid d t.at ys) first.out ∙ laid_more s.out.now s.at t.at xs ys first.at h;
    }

-- the room that is left
pub room_left : {s t : Sheet} {xs : List ℕ} (n : ℕ) → Adds s xs t → Room s (length xs + n) → Room t n
room_left {s} {t} {xs} n added h =
    let long = ap length added.out ∙ length_laid s.out.now s.at xs (omega arith) in
    omega (arith, added.at)

-- the bytes that were added are also known as ys
pub adds_known : {s t : Sheet} {xs ys : List ℕ} → Adds s xs t → xs ≡ ys → Adds s ys t
adds_known {s} {t} added e = subst (λ l. Adds s l t) e added
