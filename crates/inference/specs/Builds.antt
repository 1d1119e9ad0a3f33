-- Terms over cells that are there already. Assumes nothing.
use Rattle.std.specs.Prelude.{◌≡◌, ℕ, ◌<◌, List, [], ◌∷◌, ◌++◌, length, Result, MatchResult}
use Rattle.syntax.specs.declared.fault.Fault.{Fault}
use Rattle.typing.specs.Cells.{Graph}
use Rattle.typing.specs.declared.cell.Cell.TheVariants.{Atom as atom, Apply as apply}
use Rattle.typing.specs.declared.head.Head.{Head}
use Rattle.inference.specs.Tables.{most_cells}

-- a cell applied to others one by one
abbrev pub apply_all : Graph → ℕ → List ℕ → Graph × ℕ
apply_all g c [] = (g, c)
apply_all g c (x ∷ xs) = apply_all (g ++ apply c x ∷ []) (length g) xs

-- a head over the cells of its parts
abbrev pub build : Head → List ℕ → Graph → Graph × ℕ
build h xs g = apply_all (g ++ atom h ∷ []) (length g) xs

-- This graph is left, with this cell as the answer; or there was no room for it.
abbrev pub Built : Graph × ℕ → Graph → Result ℕ Fault → Type 0
Built b g' r = MatchResult r (λ c. (g' ≡ b.0) × (c ≡ b.1)) (λ fault. most_cells < length b.0)
