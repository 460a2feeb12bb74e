-- `trace_call::bits_out` meets its contract. Assumes nothing.
use native.Mathlib.Omega.{arith}
use Rattle.trace_call.proofs.bits_out.Goals as goal

pub returns-in-Off : goal.returns-in-Off
returns-in-Off c = rw c.in-Off.is

pub returns-in-On : goal.returns-in-On
returns-in-On c = rw c.in-On.is (omega arith)
