-- What a chunk of filed words stands for in document 01.
use Rattle.rules.specs.Form as F
use Rattle.rules.specs.Reading.{constants_of, extras_of}
use Rattle.words.specs.declared.chunk.Chunk.{Chunk}

abbrev pub chunk_of : Chunk → F.Chunk
chunk_of c =
    record {
      locals = c.locals;
      type = c.mode;
      constants = constants_of c.constants.now;
      ops = c.ops.now;
      extras = extras_of c.extras.now;
    }
