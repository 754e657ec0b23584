use Rattle.std.proofs.Common.{subst, string_bytes}
use Rattle.std.specs.Io.KnownBytes.{Appends}
use Rattle.inspector.specs.Listings.{IsListing}
use Rattle.streams.specs.Told.{AppendsFront}
use Rattle.inspector.proofs.Printed.{lists_all}
use Rattle.inspector.proofs.work.inspect.Goals as goal

pub returns-in-Ok-clause-prints : goal.returns-in-Ok-clause-prints
returns-in-Ok-clause-prints g c =
    let text = string_bytes c.in_ok-text.text in
    let listed = subst (λ l. IsListing l text) c.as_slice.ensures.value c.in_ok-text.ensures in
    record {
      text = text;
      lists = lists_all _ c.in_ok-bytes.bytes.items text c.in_ok-bytes.ensures.gives listed;
      appended = subst (Appends (g.W.Sink.contents c.args.sink.now) (g.W.Sink.contents c.write_whole.new.sink)) c.as_bytes.ensures.value c.in-Ok.ensures.writes;
    }

pub returns-clause-leaves : goal.returns-clause-leaves
returns-clause-leaves g c =
    let text = string_bytes c.in_ok-text.text in
    let listed = subst (λ l. IsListing l text) c.as_slice.ensures.value c.in_ok-text.ensures in
    record {
      text = text;
      lists = lists_all _ c.in_ok-bytes.bytes.items text c.in_ok-bytes.ensures.gives listed;
      appended = subst (AppendsFront (g.W.Sink.contents c.args.sink.now) (g.W.Sink.contents c.write_whole.new.sink)) c.as_bytes.ensures.value c.in-Err.ensures.writes;
    }
