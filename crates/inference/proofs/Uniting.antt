-- A graph stays tidy where two of its cells become one. Assumes nothing.
use Rattle.std.proofs.Common.{◌≡◌, ℕ, ◌<◌, min, max, length, set, Some, sym, subst, arith}
use Rattle.typing.specs.Cells.{Graph, Pairs, cell, find, meet}
use Rattle.typing.specs.Solutions.{Proper, Tidy, NotLink}
use Rattle.typing.specs.declared.cell.Cell.{Cell}
use Rattle.typing.specs.declared.cell.Cell.TheVariants.{Link as link}
use Rattle.typing.proofs.Finding.{find_root, tidy_set}
use Rattle.typing.proofs.Merging.{Left, meet_left, ordered}

module _ (g : Graph) (tidy : Tidy (length g) g) (a b x y low high : ℕ) (is-x : x ≡ find g a) (is-y : y ≡ find g b) (in-x : x < length g) (in-y : y < length g) (apart : x ≡ y → ⊥) (is-low : low ≡ min x y) (is-high : high ≡ max x y) (c : Cell) (ps : Pairs) (met : Some (c, ps) ≡ meet (cell g low) (cell g high)) where
  root : (i r : ℕ) → r ≡ find g i → NotLink (cell g r)
  root i r is = subst (λ z. NotLink (cell g z)) (sym is) (find_root (length g) g tidy i)

  roots : NotLink (cell g low) × NotLink (cell g high)
  roots =
      let both = ordered (λ l h. NotLink (cell g l) × NotLink (cell g h)) x y (root a x is-x, root b y is-y) (root b y is-y, root a x is-x) in
      (subst (λ z. NotLink (cell g z)) (sym is-low) both.0, subst (λ z. NotLink (cell g z)) (sym is-high) both.1)

  proper : Proper (length g) low c
  proper =
      (subst (Left (length g) low) (sym met) (meet_left (length g) low high (cell g low) (cell g high) roots.0 roots.1 (tidy.proper low) (tidy.proper high))).0

  one : Tidy (length g) (set g low c)
  one = tidy_set (length g) g low c tidy proper

  both : Tidy (length g) (set (set g low c) high (link low))
  both = tidy_set (length g) (set g low c) high (link low) one (omega (arith, apart, is-low, is-high))

  pub tidy_one : Tidy (length (set g low c)) (set g low c)
  tidy_one = subst (λ n. Tidy n (set g low c)) (sym one.long) one

  pub tidy_both : Tidy (length (set (set g low c) high (link low))) (set (set g low c) high (link low))
  tidy_both = subst (λ n. Tidy n (set (set g low c) high (link low))) (sym both.long) both
