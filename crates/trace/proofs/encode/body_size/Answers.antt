use Rattle.std.proofs.Common.{◌≡◌, length, sym, ◌∙◌, rules}
use Rattle.std.specs.List.{sum_by}
use Rattle.trace.specs.Codec.{event_bytes}
use Rattle.trace.proofs.Bodies.{length_body_sum}
use Rattle.trace.proofs.encode.body_size.Goals as goal

pub returns : goal.returns
returns c =
    let all : c.sum.result ≡ sum_by (λ e. length (event_bytes e)) c.args.events.now = search rules in
    all ∙ sym (length_body_sum c.args.events.now)
