-- Cells that were made equal, and marks before a walk. Assumes nothing.
use Rattle.std.proofs.Common.{◌≡◌, ℕ, zero, suc, length, replicate, Some, sym, refl, ap, ◌∙◌, subst}
use Rattle.typing.specs.Cells.{Graph, Pairs, unify}
use Rattle.typing.specs.Solutions.{Tidy, Within}
use Rattle.typing.proofs.Merging.{Ran, unify_ran}
use Rattle.inference.specs.Walks.{Fresh}
use Rattle.inference.specs.declared.cycle.Mark.TheVariants.{Unseen}

pub fresh_none : (n : ℕ) → Fresh (replicate n Unseen)
fresh_none zero zero = refl
fresh_none zero (suc o) = refl
fresh_none (suc n) zero = refl
fresh_none (suc n) (suc o) = fresh_none n o

-- what is left of a tidy graph has as many cells
pub long_after : (g h g' : Graph) (ps : Pairs) → h ≡ g → Tidy (length g) g → Within (length g) ps → Some g' ≡ unify h ps → length g' ≡ length g
long_after g h g' ps same tidy within is =
    (subst (Ran (length g) g ps) (sym (is ∙ ap (λ k. unify k ps) same)) (unify_ran (length g) g ps tidy within)).0.long
