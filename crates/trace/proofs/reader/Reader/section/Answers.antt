use Rattle.std.proofs.Common.{◌≡◌, ◌-◌, ◌<◌, ◌≤◌, MatchOption, ℕ, unwrap_or, sym, ap, ◌∙◌, subst, arith, rules, tests}
use Rattle.std.proofs.lemmas.Iterator.{first_from_Range}
use Rattle.trace.specs.Layout.{count, body_end}
use Rattle.trace.proofs.Opened.{opened_inside, first_behind, section_is}
use Rattle.trace.proofs.reader.Reader.section.Goals as goal

pub returns : goal.returns
returns c =
    let bs = c.args.self.now.bytes.now in
    let b = c.args.self.now.at.byte in
    let between = c.args.self.now.between c.requires.0 in
    let file = opened_inside bs (c.args.self.now.opened c.requires.0) in
    let found = first_from_Range _ _ _ _ (λ s. b < body_end bs s) (λ s. body_end bs s ≤ b) c.find.ensures.ran (λ x q k. grind (arith, tests)) (λ x q k. (search rules, grind (arith, tests))) in
    let first : c.max.result - 1 ≡ c.args.self.now.at.section - 1 = omega arith in
    let some : 0 < c.max.result = omega arith in
    let last = c.section_count-sections.ensures in
    let here = first_behind file b c.max.result c.find.result some (subst (λ n. body_end bs n ≤ b) (sym first) between.1) c.requires.1 (subst (λ n. MatchOption c.find.result ((k : ℕ) → c.max.result ≤ k → k < n → body_end bs k ≤ b) (λ s. (c.max.result ≤ s) × (s < n) × (b < body_end bs s) × ((k : ℕ) → c.max.result ≤ k → k < s → body_end bs k ≤ b))) last found) in
    let is = c.unwrap_or.ensures ∙ ap (unwrap_or c.find.result) last in
    let there = subst (λ n. (0 < n) × (n ≤ count bs) × (body_end bs (n - 1) ≤ b) × (b < body_end bs n)) (sym is) here in
    record {
      within = (there.0, there.1);
      around = (there.2, there.3);
      value = sym (section_is bs c.unwrap_or.result b there.0 there.1 there.2 there.3);
    }
