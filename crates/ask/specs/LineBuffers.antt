-- What is kept of a line as it comes in. Assumes nothing.
use Rattle.std.specs.Prelude.{ℕ, List}
use Rattle.ask.specs.declared.line_buffer.LineBuffer.{LineBuffer}

abbrev pub kept : LineBuffer → List ℕ
kept l = l.bytes.items
