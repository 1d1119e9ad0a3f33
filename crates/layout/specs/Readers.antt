-- What a reader answers that takes a value off the front of a slice. Assumes nothing.
use Rattle.std.specs.Prelude.{◌≡◌, ℕ, List, ◌++◌, Option, MatchOption, ◌≢◌}
use Rattle.std.specs.Borrow.{Bor}

-- The bytes begin with what a good value is spelled as, and the answer is that value and the bytes
-- behind it; or they begin with no such thing, and there is no answer.
abbrev pub Reads : {A : Type 0} → (A → Type 0) → (A → List ℕ) → List ℕ → Option (A × Bor (List ℕ)) → Type 0
Reads {A} Good spell bytes r =
    MatchOption r ((a : A) (rest : List ℕ) → Good a → bytes ≢ spell a ++ rest) (λ p. Good p.0 × (bytes ≡ spell p.0 ++ p.1.now))

-- What is spelled is read back, and what follows it is left.
abbrev pub ReadsBack : {A : Type 0} → (A → Type 0) → (A → List ℕ) → Type 0
ReadsBack {A} Good spell =
    (a : A) (rest : List ℕ) (r : Option (A × Bor (List ℕ))) → Good a → Reads Good spell (spell a ++ rest) r → MatchOption r ⊥ (λ p. (p.0 ≡ a) × (p.1.now ≡ rest))
