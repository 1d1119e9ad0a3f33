-- What comes of two questions, the second over the answer to the first. Assumes nothing.
use Rattle.std.specs.Prelude.{◌≡◌, ℕ, ◌+◌, ◌⊎◌, List, [], ◌∷◌, ◌++◌, length, drop, Some, None, Result, MatchResult}
use Rattle.syntax.specs.declared.argument.Symbol.{Symbol}
use Rattle.syntax.specs.declared.fault.Fault.{Fault}
use Rattle.reading.specs.Readings.{Meaning, refusal}

module _ {S : Type 0} (means : S → Meaning) (meter : S → ℕ) (x y : S) (lower : Symbol) (parts : List (List ℕ)) (upper : Symbol) (work work' out out' : List ℕ) where
  -- what the rule gives for the lower node, and what it gives of that for the upper one
  abbrev pub first : List ℕ
  first = (means x).rule lower parts

  abbrev pub second : List ℕ
  second = (means x).rule upper (first ∷ [])

  pub record Both (n : ℕ) : Type 0 where
    pub long : n ≡ length second
    pub wrote : out' ≡ second ++ drop n out
    pub worked : work' ≡ first ++ drop (length first) work
    pub same : means y ≡ means x
    pub rose : meter y ≡ meter x + 2

  -- the first question is refused, and nothing changed
  pub record Neither (fault : Fault) : Type 0 where
    pub why : refusal (means x) (meter x) lower parts (length work) ≡ Some fault
    pub kept : y ≡ x
    pub idle : work' ≡ work
    pub left : out' ≡ out

  -- the first question is granted, and the second is refused
  pub record One (fault : Fault) : Type 0 where
    pub free : refusal (means x) (meter x) lower parts (length work) ≡ None
    pub why : refusal (means x) (meter x + 1) upper (first ∷ []) (length out) ≡ Some fault
    pub worked : work' ≡ first ++ drop (length first) work
    pub same : means y ≡ means x
    pub rose : meter y ≡ meter x + 1
    pub left : out' ≡ out

  abbrev pub Twice : Result ℕ Fault → Type 0
  Twice r = MatchResult r Both (λ fault. Neither fault ⊎ One fault)
