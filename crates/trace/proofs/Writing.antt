-- The contents being written, entry by entry, and the whole file. Assumes nothing.
use Rattle.std.proofs.Common.{◌≡◌, ℕ, ◌+◌, ◌*◌, ◌<◌, ◌≤◌, true, cond, ltb, List, [], ◌++◌, length, get_or, take, drop, Ok, Err, sum, sym, refl, ap, ◌∙◌, subst, arith}
use Rattle.std.proofs.lemmas.List.{append-nil, append_assoc, length-append, length-drop, drop_all}
use Rattle.std.proofs.lemmas.List.Sums.{sum_by-drop_more}
use Rattle.std.proofs.lemmas.Bool.{cond-true, cond-false, lt-ltb, le-ltb}
use Rattle.events.specs.declared.Event.{Event}
use Rattle.trace.specs.declared.fault.WriteFault.TheVariants.{Oversize, NoRoom}
use Rattle.trace.specs.declared.sheet.Sheet.{Sheet}
use Rattle.trace.specs.Words.{bytes_of}
use Rattle.trace.specs.File.{body, contents, file, lawful, write_answer, laid}
use Rattle.trace.specs.Sheets.{Adds}
use Rattle.trace.proofs.Numbers.{length_bytes_of}
use Rattle.trace.proofs.Bodies.{body_split}
use Rattle.trace.proofs.Buffers.{laid_first}
use Rattle.trace.proofs.Contents.{entry_bytes, length_entry, contents_none, contents_next, length_contents}
use Rattle.trace.proofs.Sheets.{adds_none, adds_more, adds_known}

-- all entries of the contents
abbrev all : List ℕ → List Event → List ℕ
all counts events = contents (4 + 8 * length counts) counts events

-- i entries are on the sheet; the events that are left are those of the bodies from `offset` on
pub record Entries (s : Sheet) (counts : List ℕ) (events : List Event) (i offset : ℕ) (left : List Event) (t : Sheet) : Type 0 where
  pub front : List ℕ
  pub put : Adds s front t
  pub long : length front ≡ 8 * i
  pub rest : front ++ contents offset (drop i counts) left ≡ all counts events
  pub held : sum (drop i counts) ≤ length left
  pub few : length left ≤ length events
  pub offset_is : offset + length (body left) ≡ 4 + 8 * length counts + length (body events)

pub entries_none : (s : Sheet) (counts : List ℕ) (events : List Event) → sum counts ≤ length events → Entries s counts events 0 (4 + 8 * length counts) events s
entries_none s counts events held = record {
  front = [];
  put = adds_none s;
  long = refl;
  rest = refl;
  held = held;
  few = omega arith;
  offset_is = refl;
}

module _ {s t : Sheet} {counts : List ℕ} {events left : List Event} {i offset : ℕ} (sofar : Entries s counts events i offset left t) (next : i < length counts) where
  -- the file does not grow past its size
  pub offset_within : offset + length (body (take (get_or counts i 0) left)) ≤ 4 + 8 * length counts + length (body events)
  offset_within =
      let c = get_or counts i 0 in
      let cut = ap length (body_split left c) ∙ length-append (body (take c left)) (body (drop c left)) in
      omega (arith, sofar.offset_is)

  pub entries_more : (size : ℕ) (u : Sheet) (later : List Event) → size ≡ length (body (take (get_or counts i 0) left)) → later ≡ drop (get_or counts i 0) left → Adds t (entry_bytes offset size) u → s.at ≤ length s.out.now → Entries s counts events (i + 1) (offset + size) later u
  entries_more size u later e f added room =
      let c = get_or counts i 0 in
      let more = sum_by-drop_more (λ x. x) counts i 0 next in
      let cut = ap length (body_split left c) ∙ length-append (body (take c left)) (body (drop c left)) in
      let fewer = length-drop c left in
      subst (λ l. Entries s counts events (i + 1) (offset + size) l u) (sym f) record {
        front = sofar.front ++ entry_bytes offset size;
        put = adds_more sofar.put added room;
        long = let l = length-append sofar.front (entry_bytes offset size) in let m = length_entry offset size in omega (arith, sofar.long);
        rest = append_assoc sofar.front (entry_bytes offset size) _ ∙ ap (λ l. sofar.front ++ l) (sym (contents_next offset i size counts left next e)) ∙ sofar.rest;
        held = omega (arith, sofar.held);
        few = omega (arith, sofar.few);
        offset_is = omega (arith, sofar.offset_is);
      }

pub entries_all : {s t : Sheet} {counts : List ℕ} {events left : List Event} {i offset : ℕ} → Entries s counts events i offset left t → length counts ≤ i → Adds s (all counts events) t
entries_all {s} {t} {counts} {events} {left} {i} {offset} sofar h =
    let none = ap (λ l. contents offset l left) (drop_all i counts h) ∙ contents_none offset left in
    adds_known sofar.put (sym (append-nil sofar.front) ∙ ap (λ l. sofar.front ++ l) (sym none) ∙ sofar.rest)

pub length_all : (counts : List ℕ) (events : List Event) → length (all counts events) ≡ 8 * length counts
length_all counts events = length_contents (4 + 8 * length counts) counts events

pub length_file : (counts : List ℕ) (events : List Event) → length (file counts events) ≡ 4 + 8 * length counts + length (body events)
unfolding file
length_file counts events =
    let n = length counts in
    let C = contents (4 + 8 * n) counts events in
    let edition = length-append (bytes_of 2 1) (bytes_of 2 n ++ (C ++ body events)) in
    let sections = length-append (bytes_of 2 n) (C ++ body events) in
    let rest = length-append C (body events) in
    let two = length_bytes_of 2 1 in
    let two' = length_bytes_of 2 n in
    omega (arith, length_contents (4 + 8 * n) counts events)

module _ (counts : List ℕ) (events : List Event) (room : ℕ) (fine : lawful counts events ≡ true) where
  sized : write_answer counts events room ≡ cond (ltb 65536 (length (file counts events))) (Err Oversize) (cond (ltb room (length (file counts events))) (Err NoRoom) (Ok (length (file counts events))))
  sized = cond-true (lawful counts events) _ _ fine

  pub written_oversize : 65536 < length (file counts events) → write_answer counts events room ≡ Err Oversize
  written_oversize h = sized ∙ cond-true (ltb 65536 (length (file counts events))) _ _ (lt-ltb _ _ h)

  pub written_no_room : length (file counts events) ≤ 65536 → room < length (file counts events) → write_answer counts events room ≡ Err NoRoom
  written_no_room h r = sized ∙ cond-false (ltb 65536 (length (file counts events))) _ _ (le-ltb _ _ h) ∙ cond-true (ltb room (length (file counts events))) _ _ (lt-ltb _ _ r)

  pub written_ok : length (file counts events) ≤ 65536 → length (file counts events) ≤ room → write_answer counts events room ≡ Ok (length (file counts events))
  written_ok h r = sized ∙ cond-false (ltb 65536 (length (file counts events))) _ _ (le-ltb _ _ h) ∙ cond-false (ltb room (length (file counts events))) _ _ (le-ltb _ _ r)

pub length_header : (n : ℕ) → length (bytes_of 2 1 ++ bytes_of 2 n) ≡ 4
length_header n = let a = length_bytes_of 2 1 in let b = length_bytes_of 2 n in omega (arith, length-append (bytes_of 2 1) (bytes_of 2 n))

-- header, contents and bodies, one behind the other, are the file
pub file_written : {s one two three : Sheet} (counts : List ℕ) (events : List Event) → s.at ≡ 0 → Adds s (bytes_of 2 1 ++ bytes_of 2 (length counts)) one → Adds one (all counts events) two → Adds two (body events) three → three.out.now ≡ file counts events ++ drop (length (file counts events)) s.out.now
unfolding file
file_written {s} {one} {two} {three} counts events front first second third =
    let n = length counts in
    let C = all counts events in
    let same = append_assoc (bytes_of 2 1 ++ bytes_of 2 n) C (body events) ∙ append_assoc (bytes_of 2 1) (bytes_of 2 n) (C ++ body events) in
    let whole = adds_known (adds_more (adds_more first second (omega arith)) third (omega arith)) same in
    whole.out ∙ ap (λ at. laid s.out.now at (file counts events)) front ∙ laid_first s.out.now (file counts events)
