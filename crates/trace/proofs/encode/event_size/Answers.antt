use Rattle.std.proofs.Common.{sym, ap, ◌∙◌}
use Rattle.trace.specs.Codec.{size}
use Rattle.trace.proofs.Events.{length_event}
use Rattle.trace.proofs.encode.event_size.Goals as goal

pub returns-clause-value : goal.returns-clause-value
returns-clause-value c = c.size.ensures ∙ ap size c.from.ensures ∙ sym (length_event c.args.event.now)
