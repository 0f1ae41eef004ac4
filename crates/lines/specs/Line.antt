-- What a line of the sheet stands for in document 01.
use Rattle.rules.specs.Sheet as R
use Rattle.lines.specs.declared.line.Line.{Line}

abbrev pub line_is : Line → R.Line
line_is l = record { cycles = l.cycles; cut = l.cut; peak = l.peak.0; bytes = l.bytes.0; whole = l.whole }
