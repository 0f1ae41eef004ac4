-- `read_module` answers document 01's outcome: the head's test decides first, then what `broken_at` found behind the head.
-- Assumes nothing.
use mathlib.Core.Path.{sym, ◌∙◌}
use Rattle.words.proofs.ReaderLaws.{whole}
use Rattle.words.proofs.reader.read_module.Goals as goal

pub returns-in-None : goal.returns-in-None
returns-in-None c =
    whole c.args.words.now c.if-words-gt-WORDS.false (sym c.is_head.ensures ∙ c.if-not-is_head.false) (rw c.in-None.is at c.broken_at-broken.ensures)
