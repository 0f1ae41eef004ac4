-- `call_order` shows what the visits of all chunks from 0 up come to: the loop's invariant is that the visits from c on give the whole.
-- Assumes nothing.
use Rattle.order.proofs.OrderLaws.{Walk}
use Rattle.order.proofs.entry.call_order.Given as goal

abbrev pub invariant-loop-c : goal.invariant-loop-c
invariant-loop-c l = Walk l.calls l.c l.s
