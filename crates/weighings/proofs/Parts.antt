-- The text of parts, one after another. Assumes nothing.
use Rattle.std.proofs.Common.{◌≡◌, ℕ, ◌+◌, ◌<◌, min, List, [], ◌∷◌, ◌++◌, length, get_or, take, drop, refl, sym, ap, ◌∙◌, arith}
use Rattle.std.specs.List.{flat_map, zip}
use Rattle.std.proofs.lemmas.List.{append-nil, append_assoc, drop-drop, flat_map_more, length-append, take_more, take_all}
use Rattle.std.proofs.lemmas.Slice.Zip.{length-zip, get_or-zip}
use Rattle.monitor.specs.declared.session.Reply.{Reply}
use Rattle.weighings.specs.declared.steps.Part.{Part}
use Rattle.weighings.specs.declared.steps.Step.{Step}
use Rattle.weighings.specs.Steps.{steps_of}
use Rattle.weighings.specs.Texts.{line_text, part_text, demo_text}

-- the line of one more step
pub lines_more : (ss : List Step) (rs : List Reply) (n : ℕ) (s : Step) (r : Reply) → n < length ss → n < length rs → s ≡ get_or ss n s → r ≡ get_or rs n r → flat_map line_text (take n (zip ss rs)) ++ line_text (s, r) ≡ flat_map line_text (take (n + 1) (zip ss rs))
lines_more ss rs n s r l m es er =
    let pair : (s, r) ≡ get_or (zip ss rs) n (s, r) = (λ i. (es i, er i)) ∙ sym (get_or-zip ss rs n (s, r) l m) in
    let long : n < length (zip ss rs) = omega (arith, length-zip ss rs) in
    flat_map_more line_text [] (take n (zip ss rs)) (s, r) ∙ ap (flat_map line_text) (ap (λ x. take n (zip ss rs) ++ (x ∷ [])) pair ∙ sym (take_more (zip ss rs) n (s, r) long))

pub lines_all : (ss : List Step) (rs : List Reply) (n : ℕ) → n ≡ min (length ss) (length rs) → flat_map line_text (take n (zip ss rs)) ≡ flat_map line_text (zip ss rs)
lines_all ss rs n all = ap (flat_map line_text) (take_all n (zip ss rs) (omega (arith, length-zip ss rs)))

-- the replies that are left after those to the steps of the parts
abbrev pub rest_after : List Part → List Reply → List Reply
rest_after ps rs = drop (length (flat_map steps_of ps)) rs

rest_next : (ps : List Part) (p : Part) (rs : List Reply) → drop (length p.steps.now) (rest_after ps rs) ≡ rest_after (ps ++ p ∷ []) rs
rest_next ps p rs =
    drop-drop (length p.steps.now) (length (flat_map steps_of ps)) rs ∙ ap (λ n. drop n rs) (sym (length-append (flat_map steps_of ps) p.steps.now) ∙ ap length (flat_map_more steps_of [] ps p))

text_next : (ps : List Part) (p : Part) (rs : List Reply) → demo_text ps rs ++ part_text p (rest_after ps rs) ≡ demo_text (ps ++ p ∷ []) rs
unfolding demo_text
text_next [] p rs = sym (append-nil (part_text p rs))
text_next (q ∷ ps) p rs =
    let n = length q.steps.now in
    append_assoc (part_text q rs) _ _ ∙ ap (λ l. part_text q rs ++ (demo_text ps (drop n rs) ++ part_text p l)) (ap (λ m. drop m rs) (length-append q.steps.now (flat_map steps_of ps)) ∙ sym (drop-drop (length (flat_map steps_of ps)) n rs)) ∙ ap (λ t. part_text q rs ++ t) (text_next ps p (drop n rs))

pub rest_more : (ps : List Part) (n : ℕ) (rs rest : List Reply) (d : Part) → n < length ps → rest ≡ rest_after (take n ps) rs → drop (length (get_or ps n d).steps.now) rest ≡ rest_after (take (n + 1) ps) rs
rest_more ps n rs rest d l is =
    ap (drop (length (get_or ps n d).steps.now)) is ∙ rest_next (take n ps) (get_or ps n d) rs ∙ ap (λ qs. rest_after qs rs) (sym (take_more ps n d l))

pub text_more : (ps : List Part) (n : ℕ) (rs rest : List Reply) (d : Part) → n < length ps → rest ≡ rest_after (take n ps) rs → demo_text (take n ps) rs ++ part_text (get_or ps n d) rest ≡ demo_text (take (n + 1) ps) rs
text_more ps n rs rest d l is =
    ap (λ r. demo_text (take n ps) rs ++ part_text (get_or ps n d) r) is ∙ text_next (take n ps) (get_or ps n d) rs ∙ ap (λ qs. demo_text qs rs) (sym (take_more ps n d l))

pub text_none : (rs : List Reply) → [] ≡ demo_text [] rs
unfolding demo_text
text_none rs = refl
