-- Bytes as pairs of lowercase hexadecimal digits. Assumes nothing.
use Rattle.std.specs.Prelude.{ℕ, ◌+◌, ◌-◌, ◌*◌, Bool, true, false, cond, ◌&&◌, ◌||◌, List, [], ◌∷◌, nat_le, nat_lt}
use Rattle.hex.specs.Hex.{encode_lower}

-- two digits for each byte
abbrev pub hex : List ℕ → List ℕ
hex bytes = encode_lower bytes

-- 0 to 9 and a to f
abbrev pub is_digit : ℕ → Bool
is_digit c = (nat_le 48 c && nat_le c 57) || (nat_le 97 c && nat_le c 102)

abbrev pub worth : ℕ → ℕ
worth c = cond (nat_lt c 58) (c - 48) (c - 87)

-- whole pairs of digits
abbrev pub is_hex : List ℕ → Bool
is_hex [] = true
is_hex (a ∷ []) = false
is_hex (a ∷ b ∷ text) = is_digit a && is_digit b && is_hex text

-- the bytes that pairs of digits stand for
abbrev pub unhex : List ℕ → List ℕ
unhex [] = []
unhex (a ∷ []) = []
unhex (a ∷ b ∷ text) = (16 * worth a + worth b) ∷ unhex text
