-- Numbers as decimals with no leading zero, up to the greatest that a node may hold. Assumes nothing.
use Rattle.std.specs.Prelude.{◌≡◌, ℕ, ◌≤◌, List, decimal, Option, MatchOption, ◌≢◌}

-- the number whose decimal a text is, or none where it is no number's
abbrev pub Valued : List ℕ → Option ℕ → Type 0
Valued text r = MatchOption r ((n : ℕ) → n ≤ 999999 → decimal n ≢ text) (λ n. (n ≤ 999999) × (decimal n ≡ text))
