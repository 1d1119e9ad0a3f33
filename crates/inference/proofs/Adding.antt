-- Places in a list, and texts put into a buffer. Assumes nothing.
use Rattle.std.proofs.Common.{◌≡◌, ℕ, suc, ◌≤◌, Bool, true, false, cond, eqb, ltb, List, [], ◌∷◌, length, Some, None, Option, refl, ap, ◌∙◌, arith}
use Rattle.std.specs.List.{position_or_len}
use Rattle.std.specs.Option.{unwrap_or}
use Rattle.std.proofs.lemmas.Bool.{ltb-false}
use Rattle.std.proofs.lemmas.List.Recursion.{is_position_or_len}
use Rattle.typing.specs.Solve.{position}

-- the place of a number in a list, which is behind it if it is not there
pub position_is : (k : ℕ) (xs : List ℕ) → position k xs ≡ position_or_len (eqb k) xs
position_is k xs = is_position_or_len (position k) (eqb k) refl (λ x xs. ap (λ n. cond (eqb k x) 0 n) (omega arith)) xs

pub position_within : (k : ℕ) (xs : List ℕ) → position k xs ≤ length xs
position_within k [] = omega arith
position_within k (x ∷ xs) = by_test (eqb k x) (position_within k xs)
  where
    by_test : (b : Bool) → position k xs ≤ length xs → cond b 0 (suc (position k xs)) ≤ suc (length xs)
    by_test true le = omega arith
    by_test false le = omega (arith, le)

pub place_is : (n l : ℕ) (r : Option ℕ) → r ≡ cond (ltb n l) (Some n) None → n ≤ l → unwrap_or r l ≡ n
place_is n l r is le = ap (λ o. unwrap_or o l) is ∙ by_test (ltb n l) refl
  where
    by_test : (b : Bool) → ltb n l ≡ b → unwrap_or (cond b (Some n) None) l ≡ n
    by_test true lt = refl
    by_test false past = omega (arith, le, ltb-false n l past)
