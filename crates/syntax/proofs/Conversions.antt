-- What a conversion that may fail tells once its answer is taken as an option. Assumes nothing.
use Rattle.std.proofs.Common.{◌≡◌, ℕ, Some, None, Ok, Err, Result, subst, arith}
use Rattle.std.specs.Result.{result_ok}
use Rattle.syntax.specs.Conversions.{Finds}
use Rattle.syntax.specs.declared.fault.Fault.{Fault}

module _ {A : Type 0} (Is : A → Type 0) where
  pub found : (r : Result A Fault) (a : A) → Finds Is r → Some a ≡ result_ok r → Is a
  found (Ok b) a h e = let same : b ≡ a = cc in subst Is same h
  found (Err fault) a h e = absurd (let z : ◌≡◌ {A = ℕ} 0 1 = cc in omega arith)

  pub missing : (r : Result A Fault) → Finds Is r → None ≡ result_ok r → (a : A) → Is a → ⊥
  missing (Ok b) h e a = absurd (let z : ◌≡◌ {A = ℕ} 0 1 = cc in omega arith)
  missing (Err fault) h e a = h.1 a
