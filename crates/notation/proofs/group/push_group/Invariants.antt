use Rattle.std.proofs.Common.{◌≡◌, ◌++◌, take}
use Rattle.notation.specs.Texts.{text_of}
use Rattle.notation.proofs.group.push_group.Given as goal

abbrev pub invariant-loop-b : goal.invariant-loop-b
invariant-loop-b l = text_of l.text ≡ text_of l.initial.text ++ take l.b-index l.b-items
