-- What the functions on clocks and epochs do to the meaning, and that the clocks run on. Assumes nothing.
use Rattle.std.proofs.Common.{◌≡◌, ℕ, ◌+◌, ◌<◌, ◌≤◌, Bool, false, cond, ◌&&◌, eqb, leb, List, length, get_or, Some, None, Ok, Err, Option, sym, refl, ap, ◌∙◌, subst, arith}
use Rattle.keepers.specs.Meaning.{is_holder, cleared, begun, forgotten, passed, pass_at, pass_answer, ask_answer}
use Rattle.keepers.specs.Tables.{table}
use Rattle.keepers.specs.declared.fault.KeeperFault.{KeeperFault}
use Rattle.keepers.proofs.Laws.{cleared_from, begun_from, forgotten_from, passed_from, passed_refused, ask_taken}
use Rattle.keepers.proofs.Tables.{table_at, table_none, table_set, table_passed, none_within, only_within}
use Rattle.clocks.specs.Kept.{clocks_mean, clock_at, epoch_at, reached, moved, with_epoch, Run, Running, Started}
use Rattle.clocks.specs.declared.keeper.Clocks.{Clocks}
use Rattle.clocks.specs.declared.vector.Epoch.{Epoch}
use Rattle.clocks.proofs.Runs.{run_cleared, run_set, past_now, reached_only, run_passed, sets_passed}

-- whom an entry of the table of epochs stands for
abbrev has : Clocks → Option Epoch → ℕ → Bool
has k e h = reached e (clock_at k h)

pub runs_started : (k : Clocks) → Started k → Running k
runs_started k (clocks, epochs, passes) = run_cleared (clock_at k) k.epochs k.passes clocks epochs passes

pub means_started : (k : Clocks) → Started k → clocks_mean k ≡ cleared
unfolding clocks_mean
means_started k (clocks, epochs, passes) =
    cleared_from (clocks_mean k) (λ s h. ap (λ (es : List (Option Epoch)). table None (has k) es s h) epochs ∙ table_none None (has k) None (λ _ _. refl) s h) passes

-- the epoch of one slot is replaced by v, which is not in the future and stands for the set f

module _ (k : Clocks) (slot : ℕ) (v : Option Epoch) (within : slot < length k.epochs) where
  runs_with : ((e : Epoch) → v ≡ Some e → (e.thread < 8) × (e.count ≤ clock_at k e.thread e.thread)) → Running k → Running (with_epoch k slot v)
  runs_with past run = run_set (clock_at k) k.epochs k.passes slot v within past run

  sets_with : (f : ℕ → Bool) → slot < 576 → ((h : ℕ) → (is_holder h && has k v h) ≡ f h) → (s h : ℕ) → (clocks_mean (with_epoch k slot v)).sets s h ≡ cond (eqb s slot) (f h) ((clocks_mean k).sets s h)
  unfolding clocks_mean
  sets_with f p means s h = table_set None (has k) k.epochs slot v f within p means s h

  passes_with : (clocks_mean (with_epoch k slot v)).passes ≡ (clocks_mean k).passes
  unfolding clocks_mean
  passes_with = refl

-- each call on a running keeper: that it runs on, and the effect

pub runs_begun : (k : Clocks) (slot thread now : ℕ) → thread < 8 → slot < length k.epochs → now ≡ clock_at k thread thread → Running k
    → Running (with_epoch k slot (Some (record { thread = thread; count = now })))
runs_begun k slot thread now q within own run = runs_with k slot _ within (past_now (clock_at k) thread now q own) run

pub means_begun : (k : Clocks) (slot thread now : ℕ) → slot < 576 → thread < 8 → slot < length k.epochs → now ≡ clock_at k thread thread → Running k
    → clocks_mean (with_epoch k slot (Some (record { thread = thread; count = now }))) ≡ begun (clocks_mean k) slot thread
means_begun k slot thread now p q within own run =
    let v : Option Epoch = Some (record { thread = thread; count = now }) in
    begun_from slot thread p q (clocks_mean k) (clocks_mean (with_epoch k slot v))
    (sets_with k slot v within (λ h. eqb h thread) p
    (only_within (λ h. leb now (clock_at k h thread)) thread q
    (λ h l. ap (λ (n : ℕ). leb n (clock_at k h thread)) own ∙ reached_only (clock_at k) (epoch_at k) k.passes thread q run h l)))
    (passes_with k slot v within)

pub runs_forgotten : (k : Clocks) (slot : ℕ) → slot < length k.epochs → Running k → Running (with_epoch k slot None)
runs_forgotten k slot within run = runs_with k slot None within (λ e n. absurd (let z : ◌≡◌ {A = ℕ} 0 1 = cc in omega arith)) run

pub means_forgotten : (k : Clocks) (slot : ℕ) → slot < 576 → slot < length k.epochs → clocks_mean (with_epoch k slot None) ≡ forgotten (clocks_mean k) slot
means_forgotten k slot p within =
    forgotten_from slot p (clocks_mean k) (clocks_mean (with_epoch k slot None))
    (sets_with k slot None within (λ _. false) p (none_within (λ _. false) (λ _ _. refl)))
    (passes_with k slot None within)

-- of a pass only the count matters
pub pass_answered : (k : Clocks) (from to : ℕ) → pass_answer (clocks_mean k) from to ≡ pass_at k.passes from to
unfolding clocks_mean pass_answer
pass_answered k from to = refl

pub pass_refused : (k : Clocks) (from to : ℕ) (e : KeeperFault) → pass_at k.passes from to ≡ Err e → passed (clocks_mean k) from to ≡ clocks_mean k
pass_refused k from to e refused = passed_refused (clocks_mean k) from to e (pass_answered k from to ∙ refused)

-- the clocks after a pass, which then is counted
module _ (k k' : Clocks) (from to : ℕ) (p : from < 136) (q : to < 136) (few : k.passes < 200000000)
    (clocks : (h t : ℕ) → h < 136 → t < 8 → clock_at k' h t ≡ moved (clock_at k) from to h t) (epochs : k'.epochs ≡ k.epochs) (passes : k'.passes ≡ k.passes) (run : Running k) where
  abbrev counted : Clocks
  counted = record { clocks = k'.clocks; epochs = k'.epochs; passes = k'.passes + 1 }

  pub runs_passed : Running counted
  runs_passed =
      let runs : Run (clock_at k') (epoch_at k) (k.passes + 1) = run_passed (clock_at k) (epoch_at k) k.passes from to run p q few (clock_at k') clocks in
      let one : Run (clock_at k') (epoch_at k) (k'.passes + 1) = subst (λ (n : ℕ). Run (clock_at k') (epoch_at k) (n + 1)) (sym passes) runs in
      subst (λ (es : List (Option Epoch)). Run (clock_at k') (λ s. get_or es s None) (k'.passes + 1)) (sym epochs) one

  pub means_passed : clocks_mean counted ≡ passed (clocks_mean k) from to
  unfolding clocks_mean
  means_passed =
      passed_from (clocks_mean k) from to p q few (clocks_mean counted)
      (λ s h. ap (λ (es : List (Option Epoch)). table None (has k') es s h) epochs
      ∙ table_passed None (has k) (has k') k.epochs k.epochs from to p q (sets_passed (clock_at k) (epoch_at k) k.passes from to run p q few (clock_at k') clocks) s h)
      (ap (λ n. n + 1) passes)

pub means_asked : (k : Clocks) (slot holder : ℕ) → slot < 576 → holder < 136 → ask_answer (clocks_mean k) slot holder ≡ Ok (reached (epoch_at k slot) (clock_at k holder))
unfolding clocks_mean
means_asked k slot holder p q = ask_taken (clocks_mean k) slot holder p q ∙ ap (λ x. Ok x) (table_at None (has k) k.epochs slot holder p q)
