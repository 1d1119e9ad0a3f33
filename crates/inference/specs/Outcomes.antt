-- What is found of a node. Assumes nothing.
use Rattle.std.specs.Prelude.{◌≡◌, ℕ, ◌<◌, ◌≤◌, List, [], length, Some, None, Option, Result, Ok, Err}
use Rattle.arrayvec.specs.ArrayVec.{ArrayVec}
use Rattle.typing.specs.Forms.{Form}
use Rattle.typing.specs.Strings.{form_bytes, longest}
use Rattle.forms.specs.declared.outline.Untyped.{Untyped}
use Rattle.forms.specs.declared.outline.Untyped.TheVariants.{Clashed, Overlong}

abbrev pub Outcome : Type 0
Outcome = Result (ArrayVec ℕ) Untyped

-- The outcome is what the form asks for: its bytes, or that they are too many, or that there is no form.
abbrev pub Concludes : Option Form → Outcome → Type 0
Concludes None (Err Clashed) = Unit {0}
Concludes None (Ok t) = ⊥
Concludes None (Err Overlong) = ⊥
Concludes (Some F) (Err Clashed) = ⊥
Concludes (Some F) (Ok t) = (t.items ≡ form_bytes F) × (length (form_bytes F) ≤ longest)
Concludes (Some F) (Err Overlong) = longest < length (form_bytes F)

-- the node's own share of the counts
abbrev pub clash_of : Outcome → ℕ
clash_of (Ok t) = 0
clash_of (Err Clashed) = 1
clash_of (Err Overlong) = 0

abbrev pub overlong_of : Outcome → ℕ
overlong_of (Ok t) = 0
overlong_of (Err Clashed) = 0
overlong_of (Err Overlong) = 1

-- the first byte of a typing string, and the last ones
abbrev pub byte_of : Outcome → ℕ
byte_of (Ok t) = 0
byte_of (Err Clashed) = 1
byte_of (Err Overlong) = 2

abbrev pub bytes_of : Outcome → List ℕ
bytes_of (Ok t) = t.items
bytes_of (Err u) = []
