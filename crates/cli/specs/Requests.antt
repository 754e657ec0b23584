-- What the words of a program ask for. Assumes nothing.
--   read_file o          the file that clap found, but for `-`, which is standard input as no word is
--   Flag o b             b tells that the flag was found set
--   Names rows r         r is to read what was found
--   Tells k r            r tells a text of clap's of the kind k, for the output that it belongs to
--   Asks p ws r          r is what the words ws ask of the program p, by clap's rules
use Rattle.std.specs.Prelude.{◌≡◌, ◌≢◌, true, false, cond, Bool, List, [], ◌∷◌, Some, None, Option, option_map, codes}
use Rattle.std.specs.Str.{bytes_eq}
use Rattle.clap.specs.Words.{Row, Text, IsAmong, first_of, one_of}
use Rattle.clap.specs.declared.error.kind.ErrorKind.{ErrorKind}
use Rattle.clap.specs.declared.error.kind.ErrorKind.TheVariants.{DisplayHelp, DisplayVersion, OutOfMemory}
use Rattle.cli.specs.declared.words.Program.{Program}
use Rattle.cli.specs.declared.words.Request.{Request}
use Rattle.cli.specs.declared.words.Request.TheVariants.{Read, Say, Refuse}
use Rattle.cli.specs.CommandLine.{faults, found}

abbrev pub read_file : Option Text → Option Text
read_file None = None
read_file (Some w) = cond (bytes_eq w (codes "-")) None (Some w)

abbrev pub Flag : Option Text → Bool → Type 0
Flag None b = b ≡ false
Flag (Some t) b = (t ≡ codes "true" → b ≡ true) × (t ≡ codes "false" → b ≡ false)

abbrev pub Names : List Row → Request → Type 0
Names rows (Read file exit_code) =
    (option_map (λ w. w.now) file ≡ read_file (first_of (codes "file") rows))
    × Flag (one_of (codes "exit-code") rows) exit_code
Names rows (Say t) = ⊥
Names rows (Refuse t) = ⊥

-- help or the version
abbrev pub IsWish : ErrorKind → Type 0
IsWish k = IsAmong k (DisplayHelp ∷ DisplayVersion ∷ [])

abbrev pub Tells : ErrorKind → Request → Type 0
Tells k (Read file exit_code) = ⊥
Tells k (Say t) = IsWish k
Tells k (Refuse t) = (IsWish k → ⊥) × (k ≢ OutOfMemory)

abbrev pub Asks : Program → List Text → Request → Type 0
Asks p ws (Read file exit_code) = (faults p ws ≡ []) × Names (found p ws) (Read file exit_code)
Asks p ws (Say t) = (k : ErrorKind) × IsAmong k (faults p ws) × IsWish k
Asks p ws (Refuse t) = (k : ErrorKind) × IsAmong k (faults p ws) × (IsWish k → ⊥)
