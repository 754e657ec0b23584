use Rattle.std.proofs.Common.{arith}
use Rattle.clocks.proofs.Starts.{heard_eight, heard_more}
use Rattle.clocks.proofs.keeper.first_clocks.Goals as goal

pub loop-thread-preserved : goal.loop-thread-preserved
loop-thread-preserved c =
    let at = c.loop-thread in
    heard_more at.clock-items at.thread c.tick.new.self _ (omega arith) (omega arith) at.invariant c.tick.ensures

pub returns : goal.returns
returns c = let at = c.loop-thread in heard_eight at.clock-items c.zero-clocks.result at.thread at.auto.clock-items c.loop-thread-test.false c.zero-clocks.ensures at.invariant
