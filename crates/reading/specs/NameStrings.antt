-- The strings of the names reading: which names they list, and which of them are lawful. Assumes nothing.
use Rattle.std.specs.Prelude.{ℕ, ◌+◌, ◌*◌, Bool, true, false, cond, ◌&&◌, List, [], ◌∷◌, ◌++◌, length, Some, None, Option, ◌==◌, nat_le, nat_lt, slice_index}
use Rattle.std.specs.List.{flat_map}
use Rattle.layout.specs.Groups.{group}
use Rattle.syntax.specs.Names.{is_name}
use Rattle.syntax.specs.declared.name.Name.{Name}

-- Names are ordered by their four bytes, the first of which counts most.
abbrev pub key : Name → ℕ
key n = slice_index n.0 0 * 16777216 + slice_index n.0 1 * 65536 + slice_index n.0 2 * 256 + slice_index n.0 3

-- names, each after the one before it, and the first after `last`
abbrev pub rising : ℕ → List Name → Bool
rising last [] = true
rising last (n ∷ ns) = is_name n.0 && nat_lt last (key n) && rising (key n) ns

-- the most names that are listed
abbrev pub most_names : ℕ
most_names = 63

-- 03, how many names there are, and the names one after another
abbrev pub listing : List Name → List ℕ
listing ns = 3 ∷ (group (length ns) ++ flat_map (λ n. n.0) ns)

-- what stands for too many names
abbrev pub many : List ℕ
many = 4 ∷ []

-- the string of some names, or of too many
abbrev pub spelled : Option (List Name) → List ℕ
spelled None = many
spelled (Some ns) = listing ns

-- names off bytes, four to a name
abbrev pub fours : List ℕ → List Name
fours (a ∷ b ∷ c ∷ d ∷ bytes) = record { 0 = a ∷ b ∷ c ∷ d ∷ [] } ∷ fours bytes
fours (a ∷ b ∷ c ∷ []) = []
fours (a ∷ b ∷ []) = []
fours (a ∷ []) = []
fours [] = []

-- what may follow 03
abbrev pub lists : List ℕ → Bool
lists [] = false
lists (n ∷ bytes) = nat_le n most_names && length bytes == 4 * n && rising 0 (fours bytes)

abbrev pub is_empty : List ℕ → Bool
is_empty [] = true
is_empty (b ∷ bytes) = false

-- 04 alone, or 03 before a count of at most 63 and so many rising names
abbrev pub allowed : List ℕ → Bool
allowed [] = false
allowed (first ∷ bytes) = cond (first == 4) (is_empty bytes) (first == 3 && lists bytes)
