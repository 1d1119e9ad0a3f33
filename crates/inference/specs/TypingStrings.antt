-- The typing string that the code writes. Assumes nothing.
use Rattle.std.specs.Prelude.{ℕ, ◌+◌, List, ◌∷◌, ◌++◌, length, take, drop}
use Rattle.layout.specs.Groups.{group}
use Rattle.inference.specs.Outcomes.{Outcome, byte_of, bytes_of}
use Rattle.forms.specs.declared.outline.Tally.{Tally}

-- a buffer with a text in it from a place on
abbrev pub put_at : ℕ → List ℕ → List ℕ → List ℕ
put_at at text out = take at out ++ (text ++ drop (at + length text) out)

abbrev pub string_of : Outcome → Tally → List ℕ
string_of o t =
    byte_of o ∷ (group t.clashes ++ (group t.overlongs ++ (group t.holes ++ bytes_of o)))
