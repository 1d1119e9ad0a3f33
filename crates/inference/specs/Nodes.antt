-- What is found of a node over the strings of its children. Assumes nothing.
use Rattle.std.specs.Prelude.{◌≡◌, ℕ, ◌<◌, Bool, true, ◌&&◌, List, [], ◌∷◌, ◌++◌, length, drop, Some, None, Result, MatchResult, nat_lt}
use Rattle.reading.specs.Readings.{Meaning, refusal}
use Rattle.syntax.specs.Arguments.{fits}
use Rattle.syntax.specs.Kinds.{arity}
use Rattle.syntax.specs.declared.argument.Symbol.{Symbol}
use Rattle.syntax.specs.declared.fault.Fault.{Fault}
use Rattle.typing.specs.Constraints.{constraints, joined}
use Rattle.typing.specs.Judgements.{GoodTypings}
use Rattle.typing.specs.Parsing.{is_lawful}
use Rattle.typing.specs.Solutions.{Tidy, Within}
use Rattle.typing.specs.Solve.{solve}
use Rattle.typing.specs.Typings.{rule}
use Rattle.inference.specs.Drafts.{State, Roomy, SlotsWithin}
use Rattle.inference.specs.Joins.{AllRead, forms_of}
use Rattle.inference.specs.Outcomes.{Concludes, Outcome}
use Rattle.inference.specs.Tallies.{read_all}

-- a draft that can be solved
pub record Ready (S : State) (result : ℕ) : Type 0 where
  pub tidy : Tidy (length S.graph) S.graph
  pub within : Within (length S.graph) S.pairs
  pub inside : SlotsWithin (length S.graph) S.slots
  pub result_inside : result < length S.graph
  pub roomy : Roomy S

-- a node, over as many lawful strings as its kind has children
pub record Lawful (s : Symbol) (strings : List (List ℕ)) : Type 0 where
  pub fit : fits s ≡ true
  pub count : length strings ≡ arity s.kind
  pub reads : AllRead strings (read_all strings)
  pub good : GoodTypings 4 (read_all strings)

-- what the node's equations come to
abbrev pub Infers : Symbol → List (List ℕ) → Result Outcome Fault → Type 0
Infers s strings r =
    MatchResult r (Concludes (solve (constraints 4 s.kind s.argument (joined 0 (forms_of (read_all strings)))))) (λ fault. ⊥)

-- the rule's string stands at the front of the buffer
abbrev pub Writes : Symbol → List (List ℕ) → List ℕ → List ℕ → Result ℕ Fault → Type 0
Writes s strings before after r =
    MatchResult r (λ n. (n ≡ length (rule 4 s.kind s.argument strings)) × (after ≡ rule 4 s.kind s.argument strings ++ drop n before)) (λ fault. ⊥)

abbrev pub all_bytes : List ℕ → Bool
all_bytes [] = true
all_bytes (b ∷ bs) = nat_lt b 256 && all_bytes bs

-- a typing string is a string of bytes
abbrev pub allowed : List ℕ → Bool
allowed text = all_bytes text && is_lawful 4 text

-- the typing reading
abbrev pub typed : Meaning
typed = record { bound = 247; allows = allowed; rule = λ s parts. rule 4 s.kind s.argument parts }

-- The rule's string stands at the front of the buffer; or the node is refused for the first reason, and
-- the buffer is as it was.
abbrev pub Answered : Symbol → List (List ℕ) → List ℕ → List ℕ → Result ℕ Fault → Type 0
Answered s strings before after r =
    MatchResult r (λ n. (refusal typed 0 s strings (length before) ≡ None) × (n ≡ length (rule 4 s.kind s.argument strings)) × (after ≡ rule 4 s.kind s.argument strings ++ drop n before)) (λ fault. (refusal typed 0 s strings (length before) ≡ Some fault) × (after ≡ before))
