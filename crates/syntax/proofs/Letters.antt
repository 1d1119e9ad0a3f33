-- The letters and the padding of a name. Assumes nothing.
use Rattle.std.proofs.Common.{◌≡◌, ℕ, ◌-◌, ◌<◌, ◌≤◌, true, ◌&&◌, eqb, ltb, List, [], ◌∷◌, ◌++◌, length, take, drop, replicate, sym, refl, ap, ◌∙◌, ap₂, suc-le-suc, zero-le, arith, cond}
use Rattle.std.proofs.lemmas.List.{length-drop, take-append-drop, drop-replicate}
use borrow.Rule.Slice.PartMut.{post_of}
use native.Mathlib.Nat.{sub-zero}
use Rattle.std.proofs.lemmas.Bool.{and_parts, eqb-true, ltb-true, cond_both}
use Rattle.std.proofs.lemmas.List.Sums.{take_while-cons}
use Rattle.std.specs.Char.{is_ascii_lowercase}
use Rattle.syntax.specs.Names.{blank, letters, is_name}

pub letters_step : (b : ℕ) (bs : List ℕ) → letters (b ∷ bs) ≡ cond (is_ascii_lowercase b) (b ∷ letters bs) []
letters_step b bs = take_while-cons is_ascii_lowercase b bs

pub letters_within : (bs : List ℕ) → length (letters bs) ≤ length bs
letters_within [] = omega arith
letters_within (b ∷ bs) = rw (letters_step b bs)
    (cond_both (is_ascii_lowercase b) (b ∷ letters bs) [] (λ x. length x ≤ length (b ∷ bs)) (λ _. suc-le-suc (letters_within bs)) (λ _. zero-le))

pub letters_front : (bs : List ℕ) → letters bs ≡ take (length (letters bs)) bs
letters_front [] = refl
letters_front (b ∷ bs) = rw (letters_step b bs)
    (cond_both (is_ascii_lowercase b) (b ∷ letters bs) [] (λ x. x ≡ take (length x) (b ∷ bs)) (λ _. ap (λ x. b ∷ x) (letters_front bs)) (λ _. refl))

blank_is : (bs : List ℕ) → blank bs ≡ true → bs ≡ replicate (length bs) 0
blank_is [] h = refl
blank_is (b ∷ bs) h =
    let parts = and_parts (eqb b 0) (blank bs) h in
    ap₂ (λ x xs. x ∷ xs) (eqb-true b 0 parts.0) (blank_is bs parts.1)

pub record Named (bs : List ℕ) : Type 0 where
  pub four : length bs ≡ 4
  pub some : 0 < length (letters bs)
  pub few : length (letters bs) ≤ 4
  pub made : bs ≡ letters bs ++ replicate (4 - length (letters bs)) 0

pub named : (bs : List ℕ) → is_name bs ≡ true → Named bs
named bs h =
    let n = length (letters bs) in
    let p = and_parts (eqb (length bs) 4 && ltb 0 n) (blank (drop n bs)) h in
    let q = and_parts (eqb (length bs) 4) (ltb 0 n) p.0 in
    let four = eqb-true (length bs) 4 q.0 in
    let rest = blank_is _ p.1 ∙ ap (λ k. replicate k 0) (length-drop n bs ∙ ap (λ k. k - n) four) in
    record {
      four = four;
      some = ltb-true 0 n q.1;
      few = omega (arith, letters_within bs);
      made = sym (take-append-drop n bs) ∙ ap₂ (λ x y. x ++ y) (sym (letters_front bs)) rest;
    }

-- four bytes that are a text and then padding
abbrev pub Padded : List ℕ → List ℕ → Type 0
Padded text bs = bs ≡ text ++ replicate (4 - length text) 0

pub padded_copy : (text copy : List ℕ) → copy ≡ text → Padded text (copy ++ post_of 0 (length text - 0) (replicate 4 0))
padded_copy text copy same = ap₂ (λ x y. x ++ y) same (ap (λ n. drop n (replicate 4 0)) (sub-zero (length text)) ∙ drop-replicate (length text) 4 0)

-- a name with these letters is these letters, padded
pub padded_name : (text bs name : List ℕ) → Padded text bs → is_name name ≡ true → letters name ≡ text → name ≡ bs
padded_name text bs name is valid spelled =
    (named name valid).made ∙ ap (λ x. x ++ replicate (4 - length x) 0) spelled ∙ sym is
