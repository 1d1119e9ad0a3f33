-- The code and the word of each label. Assumes nothing.
use Rattle.std.specs.Prelude.{ℕ, List, codes}
use Rattle.syntax.specs.declared.label.Label.{Label}
use Rattle.syntax.specs.declared.label.Label.TheVariants.{Row, Col, Ink, Lit}

abbrev pub label_code : Label → ℕ
label_code Row = 0
label_code Col = 1
label_code Ink = 2
label_code Lit = 3

abbrev pub label_word : Label → List ℕ
label_word Row = codes "row"
label_word Col = codes "col"
label_word Ink = codes "ink"
label_word Lit = codes "lit"
