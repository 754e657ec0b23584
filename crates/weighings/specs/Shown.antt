-- What the demo prints. Assumes nothing. Of a sink, `old` and `new` are the bytes that are known before and after.
--   Tells ps t            t is the text of the parts ps, with the only replies to their calls that keep the promise
--   Shows ps old new r    without a failure just that text was printed; where memory was wanting nothing; else a front
--   FailsByMemory r       if there is a failure, memory was wanting
--   IsErrorOf f e         e is the error that is told of the failure f: of a failed printing the sink's own
use Rattle.std.specs.Prelude.{◌≡◌, ℕ, List, [], Ok, Err, Option, Result}
use Rattle.std.specs.declared.io.Error.{Error}
use Rattle.std.specs.Io.KnownBytes.{Appends}
use Rattle.monitor.specs.declared.session.Reply.{Reply}
use Rattle.monitor.specs.Promise.{Promise}
use Rattle.streams.specs.Told.{AppendsFront}
use Rattle.weighings.specs.declared.steps.Part.{Part}
use Rattle.weighings.specs.declared.show.Failure.{Failure}
use Rattle.weighings.specs.declared.show.Failure.TheVariants.{Memory, Printing}
use Rattle.weighings.specs.Steps.{calls_of}
use Rattle.weighings.specs.Texts.{demo_text}

pub record Tells (ps : List Part) (text : List ℕ) : Type 0 where
  pub replies : List Reply
  pub right : Promise [] (calls_of ps) replies
  pub only : (others : List Reply) → Promise [] (calls_of ps) others → others ≡ replies
  pub is : text ≡ demo_text ps replies

abbrev pub Shows : List Part → Option (List ℕ) → Option (List ℕ) → Result (Unit {0}) Failure → Type 0
Shows ps old new (Ok u) = (text : List ℕ) × Tells ps text × Appends old new text
Shows ps old new (Err Memory) = new ≡ old
Shows ps old new (Err (Printing e)) = (text : List ℕ) × Tells ps text × AppendsFront old new text

abbrev pub FailsByMemory : Result (Unit {0}) Failure → Type 0
FailsByMemory (Ok u) = Unit {0}
FailsByMemory (Err Memory) = Unit {0}
FailsByMemory (Err (Printing e)) = ⊥

abbrev pub IsErrorOf : Failure → Error → Type 0
IsErrorOf Memory e = Unit {0}
IsErrorOf (Printing told) e = e ≡ told
