-- Names: one to four letters, padded with zeros to four bytes. Assumes nothing.
use Rattle.std.specs.Prelude.{ℕ, Bool, ◌&&◌, List, length, drop, ◌==◌, nat_lt}
use Rattle.std.specs.List.{list_all, take_while}
use Rattle.std.specs.Char.{is_ascii_lowercase}

-- the letters that stand before anything else
abbrev pub letters : List ℕ → List ℕ
letters bs = take_while is_ascii_lowercase bs

-- only padding
abbrev pub blank : List ℕ → Bool
blank bs = list_all (λ b. b == 0) bs

-- four bytes: some letters, and then only padding
abbrev pub is_name : List ℕ → Bool
is_name bs = length bs == 4 && nat_lt 0 (length (letters bs)) && blank (drop (length (letters bs)) bs)
