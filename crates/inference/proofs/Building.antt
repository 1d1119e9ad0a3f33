-- Terms built over cells that are there already have the values of those. Assumes nothing.
use Rattle.std.proofs.Common.{◌≡◌, ℕ, ◌+◌, ◌<◌, ◌≤◌, true, List, [], ◌∷◌, ◌++◌, map, length, drop, is_err, Result, refl, ap, ◌∙◌, arith}
use Rattle.std.proofs.lemmas.List.{length-drop, length_push}
use Rattle.std.proofs.lemmas.Result.{MatchResult-from_err}
use Rattle.syntax.specs.declared.fault.Fault.{Fault}
use Rattle.typing.specs.Cells.{Graph}
use Rattle.typing.specs.declared.cell.Cell.TheVariants.{Atom as atom, Apply as apply}
use Rattle.typing.specs.declared.head.Head.{Head}
use Rattle.typing.specs.Layings.{Laid}
use Rattle.typing.specs.Solutions.{Solves, Tidy}
use Rattle.typing.specs.Terms.{Term, head, applied}
use Rattle.typing.proofs.Laying.{laid_push, laid_more, laid_none, push_back}
use Rattle.inference.specs.Builds.{apply_all, build, Built}
use Rattle.inference.specs.Drafts.{CellsWithin}
use Rattle.inference.specs.Tables.{most_cells}
use Rattle.inference.proofs.Drafting.{cells_more}

-- each part takes one cell
pub apply_longer : (g : Graph) (c : ℕ) (xs : List ℕ) → length (apply_all g c xs).0 ≡ length g + length xs
apply_longer g c [] = omega arith
apply_longer g c (x ∷ xs) = apply_longer (g ++ apply c x ∷ []) (length g) xs ∙ omega (arith, length_push g (apply c x))

pub build_longer : (h : Head) (xs : List ℕ) (g : Graph) → length (build h xs g).0 ≡ length g + 1 + length xs
build_longer h xs g = apply_longer (g ++ atom h ∷ []) (length g) xs ∙ omega (arith, length_push g (atom h))

-- what a built term is worth
pub record Worth (g : Graph) (b : Graph × ℕ) (value : (ℕ → Term) → Term) : Type 0 where
  pub laid : Laid g b.0
  pub inside : b.1 < length b.0
  pub is : (σ : ℕ → Term) → Solves σ b.0 → σ b.1 ≡ value σ

apply_worth : (g : Graph) (c : ℕ) (xs : List ℕ) → Tidy (length g) g → c < length g → CellsWithin (length g) xs → Worth g (apply_all g c xs) (λ σ. applied (σ c) (map σ xs))
apply_worth g c [] tidy lt within = record { laid = laid_none g tidy; inside = lt; is = λ σ solves. refl }
apply_worth g c (x ∷ xs) tidy lt within =
    let g' = g ++ apply c x ∷ [] in
    let one = laid_push g (apply c x) tidy (lt, within.0) in
    let more = apply_worth g' (length g) xs one.tidy (omega (arith, length_push g (apply c x))) (cells_more (length g) (length g') one.longer xs within.1) in
    record { laid = laid_more g g' (apply_all g' (length g) xs).0 one more.laid; inside = more.inside; is = λ σ solves. more.is σ solves ∙ ap (λ t. applied t (map σ xs)) (push_back g (apply c x) σ (more.laid.back σ solves)).1 }

pub build_worth : (h : Head) (xs : List ℕ) (g : Graph) → Tidy (length g) g → CellsWithin (length g) xs → Worth g (build h xs g) (λ σ. applied (head h) (map σ xs))
build_worth h xs g tidy within =
    let g' = g ++ atom h ∷ [] in
    let one = laid_push g (atom h) tidy tt in
    let more = apply_worth g' (length g) xs one.tidy (omega (arith, length_push g (atom h))) (cells_more (length g) (length g') one.longer xs within) in
    record { laid = laid_more g g' (build h xs g).0 one more.laid; inside = more.inside; is = λ σ solves. more.is σ solves ∙ ap (λ t. applied t (map σ xs)) (push_back g (atom h) σ (more.laid.back σ solves)).1 }

pub no_room : (b : Graph × ℕ) (g' : Graph) (r : Result ℕ Fault) → is_err r ≡ true → most_cells < length b.0 → Built b g' r
no_room b g' r is full = MatchResult-from_err r _ _ is (λ fault. full)

-- there is no room for the next part
pub part_no_room : (h : Head) (xs : List ℕ) (g g₀ g' : Graph) (c₀ c' i : ℕ) → i < length xs → g₀ ≡ g ++ atom h ∷ [] → apply_all g' c' (drop i xs) ≡ apply_all g₀ c₀ xs → most_cells ≤ length g' → most_cells < length (build h xs g).0
part_no_room h xs g g₀ g' c₀ c' i lt pushed inv full =
    omega (arith, full, apply_longer g' c' (drop i xs), apply_longer g₀ c₀ xs, ap (λ p. length p.0) inv, build_longer h xs g, ap length pushed, length_push g (atom h), length-drop i xs)
