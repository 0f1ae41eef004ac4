-- `begun` shows no open visit and no listed chunk.
-- Assumes nothing.
use Rattle.order.proofs.MarkLaws.{shows_begun}
use Rattle.order.proofs.visit.begun.Goals as goal

pub returns : goal.returns
returns c = shows_begun c.new.result c.new.ensures
