-- `put` meets its contract: the row is written as one. Assumes nothing.
use native.Mathlib.Omega.{arith}
use mathlib.Core.Path.{refl}
use Prim.Native.Nat.{◌*◌}
use Rattle.records.specs.Coding.{width}
use Rattle.records.proofs.Coding.{row_written}
use Rattle.records.proofs.put.Goals as goal

pub returns : goal.returns
returns c = record {
  words = row_written c.args.t.now (c.args.i * width) _ _ _ c.args.r (omega arith) c.write.ensures.0 refl;
  back = c.write.ensures.1;
}
