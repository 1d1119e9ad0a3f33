-- The heads of types and places, their sorts, and their tokens. Assumes nothing.
use Rattle.std.specs.Prelude.{ℕ, zero, suc, ◌-◌, List, [], ◌∷◌, replicate, Some, None, Option}
use Rattle.typing.specs.declared.head.Head.{Head}
use Rattle.typing.specs.declared.head.Head.TheVariants.{Num, Fun, Rec, Absent, Present}
use Rattle.typing.specs.declared.head.Token.{Token}
use Rattle.typing.specs.declared.head.Token.TheVariants.{Head as OfHead, Variable}

-- a term stands for a type, or for a place of a record
pub data Sort : Type 0 where
  type : Sort
  place : Sort

-- what a head makes of its parts
abbrev pub result_of : Head → Sort
result_of Num = type
result_of Fun = type
result_of Rec = type
result_of Absent = place
result_of Present = place

-- the parts of a head, where there are so many labels: a record has one place for each
abbrev pub parts_of : ℕ → Head → List Sort
parts_of labels Num = []
parts_of labels Fun = type ∷ type ∷ []
parts_of labels Rec = replicate labels place
parts_of labels Absent = []
parts_of labels Present = type ∷ []

abbrev pub token_of : Head → ℕ
token_of Num = 0
token_of Fun = 1
token_of Rec = 2
token_of Absent = 3
token_of Present = 4

abbrev pub head_of : ℕ → Option Head
head_of zero = Some Num
head_of (suc zero) = Some Fun
head_of (suc (suc zero)) = Some Rec
head_of (suc (suc (suc zero))) = Some Absent
head_of (suc (suc (suc (suc zero)))) = Some Present
head_of (suc (suc (suc (suc (suc n))))) = None

-- the head that a token is, or else the variable of its number
abbrev pub head_or : ℕ → Option Head → Token
head_or n (Some h) = OfHead h
head_or n None = Variable (n - 5)

abbrev pub meaning_of : ℕ → Token
meaning_of n = head_or n (head_of n)
