-- That a graph is tidy has one proof at most. Assumes nothing.
use Rattle.std.specs.Prelude.{ℕ, List}
use native.Mathlib.Bridge.{le_prop}
use native.Mathlib.Nat.{ℕ_set}
use Rattle.typing.specs.Solutions.{Proper, Tidy}
use Rattle.typing.specs.declared.cell.Cell.{Cell}
use Rattle.typing.specs.declared.cell.Cell.TheVariants.{Free as free, Link as link, Atom as atom, Apply as apply}

pub proper_prop : (n i : ℕ) (c : Cell) → IsProp (Proper n i c)
proper_prop n i free = hlevel
proper_prop n i (link j) = hlevel le_prop
proper_prop n i (atom h) = hlevel
proper_prop n i (apply a b) = hlevel le_prop

pub tidy_prop : (n : ℕ) (g : List Cell) → IsProp (Tidy n g)
tidy_prop n g = hlevel (ℕ_set, proper_prop)
