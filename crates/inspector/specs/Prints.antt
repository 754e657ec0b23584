-- What is printed of a file, over any source and any sink. Assumes nothing. Of a source or a sink, `old` and `new` are
-- the bytes that are known before and after.
--   Uses old new           the source gave up a front of its bytes, of at most 65,537
--   Unprinted f            the failure f came before anything was to be printed
--   ListsAll input t       t is the listing of a file, which is all of the source's bytes where they are known
--   Prints input old new   such a listing stands behind what the sink had, and nothing else
--   PrintsFront input old new   a front of such a listing stands behind it, and nothing else
--   Leaves input old new f   after the failure f: such a front, where printing failed, else just what the sink had
use Rattle.std.specs.Prelude.{◌≡◌, ℕ, ◌≤◌, List, IfSome, Option, length}
use Rattle.std.specs.Io.KnownBytes.{Appends, Consumes}
use Rattle.streams.specs.Told.{AppendsFront}
use Rattle.inspector.specs.declared.work.Failure.{Failure}
use Rattle.inspector.specs.declared.work.Failure.TheVariants.{Reading, Memory, Printing}
use Rattle.inspector.specs.Listings.{IsListing}

pub record Uses (old new : Option (List ℕ)) : Type 0 where
  pub used : List ℕ
  pub few : length used ≤ 65537
  pub consumed : Consumes old new used

abbrev pub Unprinted : Failure → Type 0
Unprinted (Reading e) = Unit {0}
Unprinted Memory = Unit {0}
Unprinted (Printing e) = ⊥

pub record ListsAll (input : Option (List ℕ)) (t : List ℕ) : Type 0 where
  pub file : List ℕ
  pub whole : IfSome input (λ bytes. file ≡ bytes)
  pub lists : IsListing file t

pub record Prints (input old new : Option (List ℕ)) : Type 0 where
  pub text : List ℕ
  pub lists : ListsAll input text
  pub appended : Appends old new text

pub record PrintsFront (input old new : Option (List ℕ)) : Type 0 where
  pub text : List ℕ
  pub lists : ListsAll input text
  pub appended : AppendsFront old new text

abbrev pub Leaves : (input old new : Option (List ℕ)) → Failure → Type 0
Leaves input old new (Reading e) = new ≡ old
Leaves input old new Memory = new ≡ old
Leaves input old new (Printing e) = PrintsFront input old new
