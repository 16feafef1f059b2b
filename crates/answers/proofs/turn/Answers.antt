-- What it prints is told of the read, and the progress after it is reached.
use Rattle.std.proofs.Common.{arith}
use Rattle.answers.specs.Said.{further}
use Rattle.answers.proofs.Turning.{reached-read, reached-next}
use Rattle.answers.proofs.turn.Goals as goal

pub print-requires : goal.print-requires
print-requires g c =
    let start = c.args.progress.now in
    further _ _ (reached-read start.state start.buffer c.read.new.buf start.kept _ start.number (omega arith) c.requires.reached)
    c.answered-len.ensures.out_after

pub returns-clause-reached_2 : goal.returns-clause-reached_2
returns-clause-reached_2 g c =
    let start = c.args.progress.now in
    reached-next _ _ _ _ _ _ _
    (reached-read start.state start.buffer c.read.new.buf start.kept _ start.number (omega arith) c.requires.reached)
    c.answered-len.ensures.going_after

pub returns-in_err-more-clause-reached_2 : goal.returns-in_err-more-clause-reached_2
returns-in_err-more-clause-reached_2 g c _ =
    let start = c.args.progress.now in
    reached-read start.state start.buffer c.read.new.buf start.kept _ start.number (omega arith) c.requires.reached
