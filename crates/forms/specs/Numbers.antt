-- A group number off the front of a string, or none. Assumes nothing.
use Rattle.std.specs.Prelude.{◌≡◌, ◌≢◌, ℕ, ◌<◌, List, ◌++◌, length, Some, None, Result, MatchResult}
use Rattle.std.specs.Borrow.{Bor}
use Rattle.layout.specs.Groups.{Group, group}
use Rattle.syntax.specs.declared.fault.Fault.{Fault}
use Rattle.syntax.specs.declared.fault.Fault.TheVariants.{Unlawful}
use Rattle.typing.specs.Parsing.{read_group}

-- The bytes begin with a group number, and the answer is that number and the bytes behind it; or they begin
-- with none, and are unlawful.
abbrev pub ReadsNumber : List ℕ → Result (ℕ × Bor (List ℕ)) Fault → Type 0
ReadsNumber bs r =
    MatchResult r (λ p. Group p.0 × (bs ≡ group p.0 ++ p.1.now))
    (λ fault. (fault ≡ Unlawful) × ((n : ℕ) (rest : List ℕ) → Group n → bs ≢ group n ++ rest))

-- the same as the definitions read it; it leaves fewer bytes
abbrev pub Counted : List ℕ → Result (ℕ × Bor (List ℕ)) Fault → Type 0
Counted bs r = MatchResult r (λ p. (read_group 2 bs ≡ Some (p.0, p.1.now)) × (length p.1.now < length bs)) (λ _. read_group 2 bs ≡ None)
