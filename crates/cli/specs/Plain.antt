-- What the plain words ask for, in words of their own. Assumes nothing.
--   NoHyphen w              the word w begins with no hyphen
--   Reads file exit_code r  r reads that file, or standard input where there is none, with or without --exit-code
--   Says r, Refuses r       r tells help or the version; r tells what is wrong
--   AsksPlainly p ws r      r is what plain words ws ask for, of which the first is the program's own name
use Rattle.std.specs.Prelude.{◌≡◌, ◌≢◌, true, false, Bool, List, [], ◌∷◌, Some, None, Option, option_map, codes}
use Rattle.clap.specs.Words.{Text}
use Rattle.cli.specs.declared.words.Program.{Program}
use Rattle.cli.specs.declared.words.Request.{Request}
use Rattle.cli.specs.declared.words.Request.TheVariants.{Read, Say, Refuse}

abbrev pub NoHyphen : Text → Type 0
NoHyphen [] = Unit {0}
NoHyphen (c ∷ w) = c ≢ 45

abbrev pub Reads : Option Text → Bool → Request → Type 0
Reads file exit_code (Read f e) = (option_map (λ w. w.now) f ≡ file) × (e ≡ exit_code)
Reads file exit_code _ = ⊥

abbrev pub Says : Request → Type 0
Says (Say t) = Unit {0}
Says _ = ⊥

abbrev pub Refuses : Request → Type 0
Refuses (Refuse t) = Unit {0}
Refuses _ = ⊥

pub record AsksPlainly (p : Program) (ws : List Text) (r : Request) : Type 0 where
  pub nothing : (name : Text) → ws ≡ name ∷ [] → Reads None false r
  pub hyphen : (name : Text) → ws ≡ name ∷ codes "-" ∷ [] → Reads None false r
  pub file : (name w : Text) → NoHyphen w → ws ≡ name ∷ w ∷ [] → Reads (Some w) false r
  pub second : (name v w : Text) → NoHyphen v → NoHyphen w → ws ≡ name ∷ v ∷ w ∷ [] → Refuses r
  pub exit_code : p.has_exit_code ≡ true → (name : Text) → ws ≡ name ∷ codes "--exit-code" ∷ [] → Reads None true r
  pub exit_code_of : p.has_exit_code ≡ true → (name w : Text) → NoHyphen w →
      ws ≡ name ∷ codes "--exit-code" ∷ w ∷ [] → Reads (Some w) true r
  pub unknown : p.has_exit_code ≡ false → (name : Text) → ws ≡ name ∷ codes "--exit-code" ∷ [] → Refuses r
  pub help : (name : Text) → ws ≡ name ∷ codes "--help" ∷ [] → Says r
  pub version : (name : Text) → ws ≡ name ∷ codes "--version" ∷ [] → Says r
