-- What clap makes of the plain words. Assumes nothing.
use Rattle.std.proofs.Common.{◌≡◌, ℕ, List, [], ◌∷◌, true, false, cond, refl, ap, subst, sym, ◌∙◌, inl, inr, codes, Bool, Option, Some, None, nat_eq, ◌≢◌}
use Rattle.std.proofs.lemmas.Bool.{ne_eqb}
use Rattle.clap.specs.Words.{App, IsAmong, Kinds, Text, fault_of, first_of, matches_of, one_of, with_rule}
use Rattle.clap.proofs.OnLiterals.{clap_on_literals}
use Rattle.clap.specs.declared.error.kind.ErrorKind.TheVariants.{DisplayHelp, DisplayVersion, UnknownArgument}
use Rattle.cli.specs.Plain.{AsksPlainly, NoHyphen, Reads, Refuses, Says}
use Rattle.cli.specs.Requests.{Asks, Flag, IsWish, read_file}
use Rattle.cli.specs.declared.words.Program.{Program}
use Rattle.cli.specs.declared.words.Request.{Request}
use Rattle.cli.specs.declared.words.Request.TheVariants.{Read, Say, Refuse}
use Rattle.clap.specs.declared.error.kind.ErrorKind.{ErrorKind}
use Rattle.cli.specs.CommandLine.{command_line, exit_code_rule, faults, file_rule, named}

abbrev line : Text → Bool → App
line name b = let plain = with_rule (named name) file_rule in cond b (with_rule plain exit_code_rule) plain

differs : (c : ℕ) → (c ≢ 45) → nat_eq c 45 ≡ false
differs c other = ne_eqb c 45 other

-- what the words name where they are taken: the file's word, and what the flag's value is
record Found (a : App) (ws : List Text) (o f : Option Text) : Type 0 where
  clean : fault_of a ws ≡ []
  file : first_of (codes "file") (matches_of a ws) ≡ o
  flag : one_of (codes "exit-code") (matches_of a ws) ≡ f

-- the flag's value where it isn't given: no entry at a program that doesn't know it
abbrev unset : Bool → Option Text
unset b = cond b (Some (codes "false")) None

nothing : (name own : Text) (b : Bool) → Found (line name b) (own ∷ []) None (unset b)
unfolding clap_on_literals
nothing name own true = record { clean = refl; file = refl; flag = refl }
nothing name own false = record { clean = refl; file = refl; flag = refl }

hyphen : (name own : Text) (b : Bool) → Found (line name b) (own ∷ codes "-" ∷ []) (Some (codes "-")) (unset b)
unfolding clap_on_literals
hyphen name own true = record { clean = refl; file = refl; flag = refl }
hyphen name own false = record { clean = refl; file = refl; flag = refl }

-- a word is empty, or its first byte is another than a hyphen
file : (name own w : Text) (b : Bool) → NoHyphen w → Found (line name b) (own ∷ w ∷ []) (Some w) (unset b)
unfolding clap_on_literals
file name own [] true other = record { clean = refl; file = refl; flag = refl }
file name own [] false other = record { clean = refl; file = refl; flag = refl }
file name own (c ∷ w) true other = let e : nat_eq c 45 ≡ false = differs c other in record { clean = simp e refl; file = simp e refl; flag = simp e refl }
file name own (c ∷ w) false other = let e : nat_eq c 45 ≡ false = differs c other in record { clean = simp e refl; file = simp e refl; flag = simp e refl }

exit_code : (name own : Text) → Found (line name true) (own ∷ codes "--exit-code" ∷ []) None (Some (codes "true"))
unfolding clap_on_literals
exit_code name own = record { clean = refl; file = refl; flag = refl }

exit_code_of : (name own w : Text) → NoHyphen w → Found (line name true) (own ∷ codes "--exit-code" ∷ w ∷ []) (Some w) (Some (codes "true"))
unfolding clap_on_literals
exit_code_of name own [] other = record { clean = refl; file = refl; flag = refl }
exit_code_of name own (c ∷ w) other = let e : nat_eq c 45 ≡ false = differs c other in record { clean = simp e refl; file = simp e refl; flag = simp e refl }

second : (name own v w : Text) (b : Bool) → NoHyphen v → NoHyphen w → fault_of (line name b) (own ∷ v ∷ w ∷ []) ≡ UnknownArgument ∷ []
unfolding clap_on_literals
second name own [] [] true no_c no_d = refl
second name own [] [] false no_c no_d = refl
second name own [] (d ∷ w) true no_c other = let f : nat_eq d 45 ≡ false = differs d other in simp f refl
second name own [] (d ∷ w) false no_c other = let f : nat_eq d 45 ≡ false = differs d other in simp f refl
second name own (c ∷ v) [] true other no_d = let e : nat_eq c 45 ≡ false = differs c other in simp e refl
second name own (c ∷ v) [] false other no_d = let e : nat_eq c 45 ≡ false = differs c other in simp e refl
second name own (c ∷ v) (d ∷ w) true one other = let e : nat_eq c 45 ≡ false = differs c one in let f : nat_eq d 45 ≡ false = differs d other in simp (e, f) refl
second name own (c ∷ v) (d ∷ w) false one other = let e : nat_eq c 45 ≡ false = differs c one in let f : nat_eq d 45 ≡ false = differs d other in simp (e, f) refl

unknown : (name own : Text) → fault_of (line name false) (own ∷ codes "--exit-code" ∷ []) ≡ UnknownArgument ∷ []
unfolding clap_on_literals
unknown name own = refl

help : (name own : Text) (b : Bool) → fault_of (line name b) (own ∷ codes "--help" ∷ []) ≡ DisplayHelp ∷ []
unfolding clap_on_literals
help name own true = refl
help name own false = refl

version : (name own : Text) (b : Bool) → fault_of (line name b) (own ∷ codes "--version" ∷ []) ≡ DisplayVersion ∷ []
unfolding clap_on_literals
version name own true = refl
version name own false = refl

-- words that are taken, and name this
reads : (p : Program) (ws : List Text) (r : Request) (o f to : Option Text) (e : Bool) → Asks p ws r → Found (command_line p) ws o f →
    read_file o ≡ to → ((b : Bool) → Flag f b → b ≡ e) → Reads to e r
reads p ws (Read w b) o f to e asks is file flag = (asks.1.0 ∙ ap read_file is.file ∙ file, flag b (subst (λ g. Flag g b) is.flag asks.1.1))
reads p ws (Say t) o f to e asks is file flag = absurd (subst (IsAmong asks.0) is.clean asks.1)
reads p ws (Refuse t) o f to e asks is file flag = absurd (subst (IsAmong asks.0) is.clean asks.1)

unset_flag : (k b : Bool) → Flag (unset k) b → b ≡ false
unset_flag true b flag = flag.1 refl
unset_flag false b flag = flag

set_flag : (b : Bool) → Flag (Some (codes "true")) b → b ≡ true
set_flag b flag = flag.0 refl

same_word : (w : Text) → NoHyphen w → read_file (Some w) ≡ Some w
same_word [] other = refl
same_word (c ∷ w) other = let e : nat_eq c 45 ≡ false = differs c other in simp e refl

abbrev NoFault : Kinds → Type 0
NoFault [] = Unit {0}
NoFault (k ∷ ks) = ⊥

-- words with one fault are refused, and a wish is told
refuses : (p : Program) (ws : List Text) (r : Request) (k : ErrorKind) → Asks p ws r → faults p ws ≡ k ∷ [] → (IsWish k → ⊥) → Refuses r
refuses p ws (Read w b) k asks is mistake = absurd (subst NoFault (sym asks.0 ∙ is) tt)
refuses p ws (Say t) k asks is mistake = elim (subst (IsAmong asks.0) is asks.1) [ inl same ↦ absurd (mistake (subst IsWish same asks.2)) | inr other ↦ absurd other ]
refuses p ws (Refuse t) k asks is mistake = tt

says : (p : Program) (ws : List Text) (r : Request) (k : ErrorKind) → Asks p ws r → faults p ws ≡ k ∷ [] → IsWish k → Says r
says p ws (Read w b) k asks is wish = absurd (subst NoFault (sym asks.0 ∙ is) tt)
says p ws (Say t) k asks is wish = tt
says p ws (Refuse t) k asks is wish = elim (subst (IsAmong asks.0) is asks.1) [ inl same ↦ absurd (asks.2 (subst IsWish (sym same) wish)) | inr other ↦ absurd other ]

abbrev Unknown : ErrorKind → Type 0
Unknown UnknownArgument = Unit {0}
Unknown _ = ⊥

a_mistake : IsWish UnknownArgument → ⊥
a_mistake (inl help) = subst Unknown help tt
a_mistake (inr (inl version)) = subst Unknown version tt
a_mistake (inr (inr other)) = absurd other

pub plainly : (p : Program) (ws : List Text) (r : Request) → Asks p ws r → AsksPlainly p ws r
plainly p ws r asks =
    let own = p.name.now in
    let b = p.has_exit_code in
    let at : (vs : List Text) → ws ≡ vs → Asks p vs r = λ vs is. subst (λ us. Asks p us r) is asks in
    record {
      nothing = λ name is. reads p _ r _ _ None false (at _ is) (nothing own name b) refl (unset_flag b);
      hyphen = λ name is. reads p _ r _ _ None false (at _ is) (hyphen own name b) refl (unset_flag b);
      file = λ name w plain is. reads p _ r _ _ (Some w) false (at _ is) (file own name w b plain) (same_word w plain) (unset_flag b);
      second = λ name v w first plain is. refuses p _ r _ (at _ is) (second own name v w b first plain) a_mistake;
      exit_code = λ known name is. reads p _ r _ _ None true (at _ is)
          (subst (λ k. Found (line own k) (name ∷ codes "--exit-code" ∷ []) None (Some (codes "true"))) (sym known) (exit_code own name)) refl set_flag;
      exit_code_of = λ known name w plain is. reads p _ r _ _ (Some w) true (at _ is)
          (subst (λ k. Found (line own k) (name ∷ codes "--exit-code" ∷ w ∷ []) (Some w) (Some (codes "true"))) (sym known) (exit_code_of own name w plain)) (same_word w plain) set_flag;
      unknown = λ known name is. refuses p _ r _ (at _ is)
          (subst (λ k. fault_of (line own k) (name ∷ codes "--exit-code" ∷ []) ≡ UnknownArgument ∷ []) (sym known) (unknown own name)) a_mistake;
      help = λ name is. says p _ r _ (at _ is) (help own name b) (inl refl);
      version = λ name is. says p _ r _ (at _ is) (version own name b) (inr (inl refl));
    }
