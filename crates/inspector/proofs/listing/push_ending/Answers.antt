use Rattle.std.proofs.Common.{◌≡◌, ◌++◌, ap, ap₂, sym, ◌∙◌, string_bytes, length}
use Rattle.std.proofs.lemmas.List.{append_assoc}
use Rattle.std.proofs.lemmas.Result.{on_ok_weaker}
use Rattle.inspector.specs.Listings.{ending, events_line, written_line}
use Rattle.inspector.proofs.listing.push_ending.Goals as goal

pub returns-in_ok-writeln-in-None : goal.returns-in_ok-writeln-in-None
returns-in_ok-writeln-in-None c =
    let front = c.args.front.now in
    let bs = c.args.bytes.now in
    let old = string_bytes c.args.text.now in
    let counts = front.trace.counts.items in
    let events = front.trace.events.items in
    let many = ap length c.as_slice.ensures.value in
    let sections = ap length c.as_slice-in-None.ensures.value in
    let first : string_bytes c.writeln-in-None.new.self ≡ old ++ events_line (length c.as_slice.result.now) (length c.as_slice-in-None.result.now) = c.in_ok-writeln-in-None.ensures.bytes in
    let all : old ++ ending bs counts events front.end ≡ (old ++ events_line (length events) (length counts)) ++ written_line (length bs) =
    ap (λ o. old ++ ending bs counts events o) c.in-None.is ∙ sym (append_assoc old (events_line (length events) (length counts)) (written_line (length bs))) in
    on_ok_weaker c.writeln-in-None-2.result (λ last. last ∙ ap (λ t. t ++ written_line (length bs)) (first ∙ ap₂ (λ n s. old ++ events_line n s) many sections) ∙ sym all) c.writeln-in-None-2.ensures.bytes
