-- From what clap answers to what the words ask for. Assumes nothing.
use Rattle.std.proofs.Common.{◌≡◌, List, [], true, false, cond, refl, ap, subst, sym, ◌∙◌, inl, inr, codes, Bool, Option, Some, None}
use Rattle.clap.specs.Words.{Row, Text, HasKind, is_simple, is_simple_and_free, kind_of, with_rule}
use Rattle.clap.specs.declared.error.Error.{Error}
use Rattle.clap.proofs.OnLiterals.{clap_on_literals}
use Rattle.cli.specs.declared.words.Program.{Program}
use Rattle.cli.specs.declared.words.Request.{Request}
use Rattle.cli.specs.declared.words.Request.TheVariants.{Read, Say, Refuse}
use Rattle.cli.specs.CommandLine.{command_line, exit_code_rule, faults, file_rule, found, named}
use Rattle.cli.specs.Requests.{Asks, Flag, IsWish, Names, Tells}
use Rattle.clap.specs.declared.error.kind.ErrorKind.{ErrorKind}
use Rattle.clap.specs.declared.error.kind.ErrorKind.TheVariants.{OutOfMemory}

pub is_free : (p : Program) → is_simple_and_free (command_line p) ≡ true
unfolding clap_on_literals
is_free p =
    let plain = with_rule (named p.name.now) file_rule in
    elim p.has_exit_code as (λ b. is_simple_and_free (cond b (with_rule plain exit_code_rule) plain) ≡ true) [ true ↦ refl | false ↦ refl ]

pub is_plain : (p : Program) → is_simple (command_line p) ≡ true
unfolding clap_on_literals
is_plain p =
    let plain = with_rule (named p.name.now) file_rule in
    elim p.has_exit_code as (λ b. is_simple (cond b (with_rule plain exit_code_rule) plain) ≡ true) [ true ↦ refl | false ↦ refl ]

pub asks_reading : (p : Program) (ws : List Text) (r : Request) (rows : List Row) → faults p ws ≡ [] → rows ≡ found p ws → Names rows r → Asks p ws r
asks_reading p ws (Read file exit_code) rows clean is names = (clean, subst (λ rs. Names rs (Read file exit_code)) is names)
asks_reading p ws (Say t) rows clean is names = absurd names
asks_reading p ws (Refuse t) rows clean is names = absurd names

-- want of memory is no wish
abbrev Memory : ErrorKind → Type 0
Memory OutOfMemory = Unit {0}
Memory _ = ⊥

no_wish : (k : ErrorKind) → k ≡ OutOfMemory → IsWish k → ⊥
no_wish k none (inl help) = subst Memory (sym none ∙ help) tt
no_wish k none (inr (inl version)) = subst Memory (sym none ∙ version) tt
no_wish k none (inr (inr other)) = absurd other

pub asks_saying : (p : Program) (ws : List Text) (r : Request) (e : Error) → HasKind (faults p ws) e → Tells (kind_of e) r → Asks p ws r
asks_saying p ws (Read file exit_code) e kinds tells = absurd tells
asks_saying p ws (Say t) e (inl none) tells = absurd (no_wish (kind_of e) none tells)
asks_saying p ws (Say t) e (inr kind) tells = (kind_of e, kind, tells)
asks_saying p ws (Refuse t) e (inl none) tells = absurd (tells.1 none)
asks_saying p ws (Refuse t) e (inr kind) tells = (kind_of e, kind, tells.0)

pub flag_read : (o : Option Text) (b : Bool) → (o ≡ None → b ≡ false) → (o ≡ Some (codes "true") → b ≡ true) → (o ≡ Some (codes "false") → b ≡ false) → Flag o b
flag_read None b none set unset = none refl
flag_read (Some t) b none set unset = (λ is. set (ap Some is), λ is. unset (ap Some is))
