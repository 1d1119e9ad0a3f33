-- What a conversion answers that not every value has. Assumes nothing.
use Rattle.std.specs.Prelude.{◌≡◌, Result, MatchResult}
use Rattle.syntax.specs.declared.fault.Fault.{Fault}
use Rattle.syntax.specs.declared.fault.Fault.TheVariants.{Misfit}

-- The answer is a value of which a fact holds; or it holds of none, and that is refused as a misfit.
abbrev pub Finds : {A : Type 0} → (A → Type 0) → Result A Fault → Type 0
Finds {A} Is r = MatchResult r Is (λ fault. (fault ≡ Misfit) × ((a : A) → Is a → ⊥))
