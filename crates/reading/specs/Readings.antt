-- What a reading is: its meaning, the laws that a meaning keeps, and what a question comes to. Assumes nothing.
use Rattle.std.specs.Prelude.{◌≡◌, ℕ, ◌+◌, ◌≤◌, Bool, true, cond, ◌&&◌, List, [], ◌∷◌, ◌++◌, map, length, drop, Some, None, Option, Result, MatchResult, ◌==◌, nat_le, nat_lt}
use Rattle.std.specs.Borrow.{Bor}
use Rattle.syntax.specs.Arguments.{fits}
use Rattle.syntax.specs.Kinds.{arity}
use Rattle.syntax.specs.Trees.{Forest, none, grow, Tree, node}
use Rattle.syntax.specs.declared.argument.Symbol.{Symbol}
use Rattle.syntax.specs.declared.fault.Fault.{Fault}
use Rattle.syntax.specs.declared.fault.Fault.TheVariants.{Misfit, MeterFull, ShortBuffer, Unlawful}

-- A reading keeps a byte string at each node of a tree. Its meaning is how long a string may be,
-- which strings are lawful, and the rule that makes a node's string of its children's.
pub record Meaning : Type 0 where
  pub bound : ℕ
  pub allows : List ℕ → Bool
  pub rule : Symbol → List (List ℕ) → List ℕ

-- every string of a list is lawful
abbrev pub allows_all : Meaning → List (List ℕ) → Bool
allows_all m [] = true
allows_all m (text ∷ texts) = m.allows text && allows_all m texts

-- a node may have strings of this number and kind below it
abbrev pub suits : Meaning → Symbol → List (List ℕ) → Bool
suits m s parts = length parts == arity s.kind && allows_all m parts

-- The laws: the bound is from 1 to 1024, no lawful string passes it, and the rule makes a lawful
-- string of lawful ones wherever the argument fits the kind.
pub record Sound (m : Meaning) : Type 0 where
  pub low : 1 ≤ m.bound
  pub high : m.bound ≤ 1024
  pub within : (text : List ℕ) → m.allows text ≡ true → length text ≤ m.bound
  pub closed : (s : Symbol) (parts : List (List ℕ)) → fits s ≡ true → suits m s parts ≡ true → m.allows (m.rule s parts) ≡ true

-- What a list of trees gives, each alone: the rule's string for its top over what its children give.
abbrev pub all_give : Meaning → Forest Symbol → List (List ℕ)
all_give m none = []
all_give m (grow s c f) = m.rule s (all_give m c) ∷ all_give m f

-- what a tree alone gives
abbrev pub gives : Meaning → Tree Symbol → List ℕ
gives m (node s c) = m.rule s (all_give m c)

-- The meter counts the questions that were granted, and is full at this number.
abbrev pub meter_end : ℕ
meter_end = 1000000000

-- why a question is refused, if it is: the first reason in this order
abbrev pub refusal : Meaning → ℕ → Symbol → List (List ℕ) → ℕ → Option Fault
refusal m meter s parts room =
    cond (fits s)
    (cond (nat_lt meter meter_end)
    (cond (nat_le m.bound room)
    (cond (suits m s parts) None (Some Unlawful))
    (Some ShortBuffer))
    (Some MeterFull))
    (Some Misfit)

-- a question is let through where there is no reason to refuse it
abbrev pub Weighed : Option Fault → Result (Unit {0}) Fault → Type 0
Weighed why r = MatchResult r (λ _. why ≡ None) (λ fault. why ≡ Some fault)

-- what the slices of a list hold
abbrev pub texts : List (Bor (List ℕ)) → List (List ℕ)
texts slices = map (λ slice. slice.now) slices

-- A question that is granted: the rule's string stands at the front of the buffer, which is
-- otherwise as it was, and its length is the answer. The reading means what it meant, and its meter
-- has risen by one.
pub record Granted {S : Type 0} (means : S → Meaning) (meter : S → ℕ) (x y : S) (s : Symbol) (parts : List (List ℕ)) (before after : List ℕ) (n : ℕ) : Type 0 where
  pub free : refusal (means x) (meter x) s parts (length before) ≡ None
  pub long : n ≡ length ((means x).rule s parts)
  pub wrote : after ≡ (means x).rule s parts ++ drop n before
  pub same : means y ≡ means x
  pub rose : meter y ≡ meter x + 1

-- A question that is refused: it is so for the first reason, and nothing changed.
pub record Refused {S : Type 0} (means : S → Meaning) (meter : S → ℕ) (x y : S) (s : Symbol) (parts : List (List ℕ)) (before after : List ℕ) (fault : Fault) : Type 0 where
  pub why : refusal (means x) (meter x) s parts (length before) ≡ Some fault
  pub kept : y ≡ x
  pub left : after ≡ before

-- what becomes of a question to the reading x, which is y afterwards
abbrev pub Asked : {S : Type 0} (means : S → Meaning) (meter : S → ℕ) (x y : S) → Symbol → List (List ℕ) → List ℕ → List ℕ → Result ℕ Fault → Type 0
Asked means meter x y s parts before after r =
    MatchResult r (Granted means meter x y s parts before after) (Refused means meter x y s parts before after)
