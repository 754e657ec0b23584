-- No two refusals have one number. Assumes nothing.
use Rattle.std.proofs.Common.{◌≡◌, ℕ, cond, eqb, sym, refl, ap, ◌∙◌}
use Rattle.roster.specs.declared.fault.RuleFault.{RuleFault}
use Rattle.roster.specs.declared.fault.RuleFault.TheVariants.{NoSuchThread, NoSuchThing, NotRunning, ForkedBefore, JoinsAmiss, LockHeld, LockNotHeld, JoinedHolds, RecordFull}
use Rattle.roster.specs.Numbers.{fault_number}

abbrev fault_of : ℕ → RuleFault
fault_of n =
    cond (eqb n 1) NoSuchThread (cond (eqb n 2) NoSuchThing (cond (eqb n 3) NotRunning (cond (eqb n 4) ForkedBefore (cond (eqb n 5) JoinsAmiss (cond (eqb n 6) LockHeld (cond (eqb n 7) LockNotHeld (cond (eqb n 8) JoinedHolds RecordFull)))))))

of_number : (f : RuleFault) → fault_of (fault_number f) ≡ f
of_number NoSuchThread = refl
of_number NoSuchThing = refl
of_number NotRunning = refl
of_number ForkedBefore = refl
of_number JoinsAmiss = refl
of_number LockHeld = refl
of_number LockNotHeld = refl
of_number JoinedHolds = refl
of_number RecordFull = refl

pub same_fault : (f g : RuleFault) → fault_number f ≡ fault_number g → f ≡ g
same_fault f g h = sym (of_number f) ∙ ap fault_of h ∙ of_number g
