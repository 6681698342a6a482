-- A line of the code as a line of the definition.
use Rattle.std.specs.Prelude.{true, false}
use Rattle.requests.specs.declared.input.Line as code
use Rattle.requests.specs.declared.input.Line.TheVariants.{Ended, Unended}
use Rattle.requests.specs.Lines.{Line, line}

abbrev pub line_of : code.Line → Line
line_of (Ended content) = line content.now true
line_of (Unended content) = line content.now false
