-- The fields of a line, which one space parts. Assumes nothing.
use Rattle.std.specs.Prelude.{ℕ, Bool, true, false, cond, not, ◌&&◌, ◌||◌, List, [], ◌∷◌, length, Some, None, Option, ◌==◌}
use Rattle.std.specs.Borrow.{Bor}
use Rattle.question.specs.Digits.{is_hex}

-- a character joins the field that it stands before
abbrev pub before : ℕ → List (List ℕ) → List (List ℕ)
before b [] = (b ∷ []) ∷ []
before b (field ∷ fields) = (b ∷ field) ∷ fields

abbrev pub fields : List ℕ → List (List ℕ)
fields [] = [] ∷ []
fields (b ∷ text) = cond (b == 32) ([] ∷ fields text) (before b (fields text))

-- the fields of what is left of a line, if anything is
abbrev pub fields_in : Option (Bor (List ℕ)) → List (List ℕ)
fields_in None = []
fields_in (Some rest) = fields rest.now

-- how long what is left of a line is
abbrev pub length_in : Option (Bor (List ℕ)) → ℕ
length_in None = 0
length_in (Some rest) = length rest.now

abbrev pub is_empty : List ℕ → Bool
is_empty [] = true
is_empty (b ∷ text) = false

-- a minus sign, which stands for what is not there
abbrev pub is_dash : List ℕ → Bool
is_dash [] = false
is_dash (b ∷ text) = b == 45 && is_empty text

-- a child's string in hexadecimal, and a minus sign for an empty one
abbrev pub is_string : List ℕ → Bool
is_string field = is_dash field || (not (is_empty field) && is_hex field)

abbrev pub are_strings : List (List ℕ) → Bool
are_strings [] = true
are_strings (field ∷ fields) = is_string field && are_strings fields
