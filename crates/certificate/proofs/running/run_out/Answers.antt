use Rattle.std.proofs.Common.{sym}
use Rattle.trace.proofs.Answered.{begun_between}
use Rattle.certificate.specs.Running.{RunOn}
use Rattle.certificate.proofs.Sentences.{sentence}
use Rattle.certificate.proofs.running.run_out.Goals as goal

pub returns : goal.returns
unfolding RunOn
returns g c =
    let told = c.hand_all.ensures in
    let from = c.args.reader.now in
    record {
      run = λ rec stands.
          let came = rw (c.requires, sym c.err.ensures.value) at (told.run rec stands) in
          record { came = came; says = sentence from.bytes.now from.at rec came.events _ (begun_between from.bytes.now from.at from.between) stands.lawful stands.free came.runs };
      bytes = told.bytes;
    }
