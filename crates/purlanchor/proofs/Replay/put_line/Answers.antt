-- A line fits into the room that was left for it.
use Rattle.std.proofs.Common.{arith}
use Rattle.line.proofs.Lengths.{line_length}
use Rattle.purlanchor.proofs.Replay.put_line.Goals as goal

pub invariant_of-self : goal.invariant_of-self
invariant_of-self c = record { within = omega (arith, c.put_line-self.ensures.says, line_length c.args.self.now.number c.args.reply) }
