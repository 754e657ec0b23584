use Rattle.std.proofs.Common.{arith}
use Rattle.trace.proofs.Opened.{opened_inside, end_by_entry}
use Rattle.trace.proofs.reader.Reader.section_end.Goals as goal

pub returns : goal.returns
returns c =
    let bs = c.args.self.now.bytes.now in
    let file = opened_inside bs (c.args.self.now.opened c.requires.0) in
    let end = end_by_entry file c.args.section c.requires.1.0 c.requires.1.1 in
    omega arith
