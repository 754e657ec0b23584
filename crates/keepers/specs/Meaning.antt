-- What a keeper means, and what each call answers and does to the meaning. Assumes nothing.
--
-- sets s h         holder h is in the set of slot s
-- passes           how many passes were taken since the keeper was cleared
-- cleared          no set has a holder, no pass was taken
-- begun m s t      m after a begin: the set of slot s is just thread t
-- forgotten m s    m after a forget: the set of slot s is empty
-- passed m a b     m after a pass: every set that has holder a has holder b too, one pass more
-- NAME_answer      what the call NAME answers; a refused call leaves the meaning as it was
-- pass_at n a b    what a pass answers after n passes
-- may_pass n       after n passes one more is counted
--
-- Slots are 0 to 575 and holders 0 to 135; holders 0 to 7 are the threads.
use Rattle.std.specs.Prelude.{ℕ, ◌+◌, Bool, false, cond, ◌&&◌, ◌||◌, Ok, Err, Result, ◌==◌, nat_lt}
use Rattle.keepers.specs.declared.fault.KeeperFault.{KeeperFault}
use Rattle.keepers.specs.declared.fault.KeeperFault.TheVariants.{OutOfRange, PassLimit}

pub record Meaning : Type 0 where
  pub sets : ℕ → ℕ → Bool
  pub passes : ℕ

-- the ranges, and the number of passes that are counted

abbrev pub is_slot : ℕ → Bool
is_slot s = nat_lt s 576

abbrev pub is_holder : ℕ → Bool
is_holder h = nat_lt h 136

abbrev pub is_thread : ℕ → Bool
is_thread t = nat_lt t 8

abbrev pub may_pass : ℕ → Bool
may_pass passes = nat_lt passes 200000000

-- the meaning after each call

unfoldable pub cleared : Meaning
cleared = record { sets = λ _ _. false; passes = 0 }

unfoldable pub begun : Meaning → ℕ → ℕ → Meaning
begun m slot thread = cond (is_slot slot && is_thread thread) (record { sets = λ s h. cond (s == slot) (h == thread) (m.sets s h); passes = m.passes }) m

unfoldable pub forgotten : Meaning → ℕ → Meaning
forgotten m slot = cond (is_slot slot) (record { sets = λ s h. cond (s == slot) false (m.sets s h); passes = m.passes }) m

unfoldable pub passed : Meaning → ℕ → ℕ → Meaning
passed m from to = cond ((is_holder from && is_holder to) && may_pass m.passes) (record { sets = λ s h. m.sets s h || (h == to && m.sets s from); passes = m.passes + 1 }) m

-- the answers

abbrev pub in_range : Bool → Result (Unit {0}) KeeperFault
in_range ok = cond ok (Ok tt) (Err OutOfRange)

unfoldable pub begin_answer : ℕ → ℕ → Result (Unit {0}) KeeperFault
begin_answer slot thread = in_range (is_slot slot && is_thread thread)

unfoldable pub forget_answer : ℕ → Result (Unit {0}) KeeperFault
forget_answer slot = in_range (is_slot slot)

-- of a pass only the count matters
abbrev pub pass_at : ℕ → ℕ → ℕ → Result (Unit {0}) KeeperFault
pass_at passes from to = cond (is_holder from && is_holder to) (cond (may_pass passes) (Ok tt) (Err PassLimit)) (Err OutOfRange)

unfoldable pub pass_answer : Meaning → ℕ → ℕ → Result (Unit {0}) KeeperFault
pass_answer m from to = pass_at m.passes from to

unfoldable pub ask_answer : Meaning → ℕ → ℕ → Result Bool KeeperFault
ask_answer m slot holder = cond (is_slot slot && is_holder holder) (Ok (m.sets slot holder)) (Err OutOfRange)
