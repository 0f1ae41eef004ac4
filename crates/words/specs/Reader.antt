-- What the reader's stages stand for in document 01.
use Rattle.std.specs.Prelude.{ℕ, Option, Some, None}
use Rattle.rules.specs.Reading as R
use Rattle.words.specs.declared.reader.Stage.{Stage}
use Rattle.words.specs.declared.reader.Stage.TheVariants.{BeforeChunk, InConstants, InConstant, InOps, InExtras, InExtra}

-- a stage, with what is still to come
abbrev pub stage_of : Stage → R.Stage
stage_of (BeforeChunk n) = R.before_chunk n
stage_of (InConstants n) = R.in_constants n
stage_of (InConstant k b n) = R.in_constant k b n
stage_of (InOps k n) = R.in_ops k n
stage_of (InExtras k n) = R.in_extras k n
stage_of (InExtra k n) = R.in_extra k n

-- the next stage, or none: the word is not the form's
abbrev pub next_of : Option Stage → R.Next
next_of (Some s) = R.goes (stage_of s)
next_of None = R.stuck

-- what a stage counts up, so that one more fits
abbrev pub counter : R.Stage → ℕ
counter (R.before_chunk n) = 0
counter (R.in_constants n) = 0
counter (R.in_constant k b n) = b
counter (R.in_ops k n) = k
counter (R.in_extras k n) = 0
counter (R.in_extra k n) = 0
