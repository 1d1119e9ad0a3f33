-- The counts of a node's children, summed off their strings. Assumes nothing.
use Rattle.std.specs.Prelude.{◌≡◌, ℕ, ◌+◌, min, Bool, true, false, ◌&&◌, List, [], ◌∷◌, map, Result, MatchResult}
use Rattle.syntax.specs.declared.fault.Fault.{Fault}
use Rattle.syntax.specs.declared.fault.Fault.TheVariants.{Unlawful}
use Rattle.typing.specs.Parsing.{is_lawful, read_typing}
use Rattle.typing.specs.Strings.{Typing, most}
use Rattle.typing.specs.Typings.{total, typing_or}
use Rattle.forms.specs.declared.outline.Tally.{Tally}

-- what strings say; one that is not lawful counts as a hole
abbrev pub read_all : List (List ℕ) → List Typing
read_all strings = map (λ s. typing_or (read_typing 4 s)) strings

abbrev pub all_lawful : List (List ℕ) → Bool
all_lawful [] = true
all_lawful (s ∷ ss) = is_lawful 4 s && all_lawful ss

-- counts together, which go no further than the most
abbrev pub both : Tally → Tally → Tally
both a b =
    record { clashes = min most (a.clashes + b.clashes); overlongs = min most (a.overlongs + b.overlongs); holes = min most (a.holes + b.holes) }

-- the counts are those of so many typings in all, or the most
pub record Totals (Ts : List Typing) (t : Tally) : Type 0 where
  pub clashes : t.clashes ≡ min most (total (λ T. T.clashes) Ts)
  pub overlongs : t.overlongs ≡ min most (total (λ T. T.overlongs) Ts)
  pub holes : t.holes ≡ min most (total (λ T. T.holes) Ts)

-- a lawful string has these counts
pub record Tells (s : List ℕ) (t : Tally) : Type 0 where
  pub lawful : is_lawful 4 s ≡ true
  pub clashes : t.clashes ≡ (typing_or (read_typing 4 s)).clashes
  pub overlongs : t.overlongs ≡ (typing_or (read_typing 4 s)).overlongs
  pub holes : t.holes ≡ (typing_or (read_typing 4 s)).holes

-- a string that is not lawful
pub record TellsNot (s : List ℕ) (fault : Fault) : Type 0 where
  pub fault_is : fault ≡ Unlawful
  pub unlawful : is_lawful 4 s ≡ false

-- the counts of lawful strings; or some string is not lawful
abbrev pub Sums : List (List ℕ) → Result Tally Fault → Type 0
Sums strings r =
    MatchResult r (λ t. (all_lawful strings ≡ true) × Totals (read_all strings) t) (λ fault. (fault ≡ Unlawful) × (all_lawful strings ≡ false))
