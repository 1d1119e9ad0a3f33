-- The counts of strings summed one after the other. Assumes nothing.
use Rattle.std.proofs.Common.{◌≡◌, ℕ, ◌+◌, ◌<◌, ◌≤◌, min, ◌&&◌, List, [], ◌∷◌, length, get_or, drop, is_some, Some, None, Ok, Option, sym, refl, ap, subst, ap₂, arith, Bor}
use Rattle.forms.specs.Outlines.{outlined, outline_of}
use Rattle.forms.specs.declared.outline.Outline.{Outline}
use Rattle.reading.specs.Readings.{Meaning, allows_all, texts}
use Rattle.typing.specs.Parsing.{is_lawful, read_typing}
use Rattle.typing.specs.Strings.{Typing, most}
use Rattle.typing.specs.Typings.{total, typing_or}
use Rattle.inference.specs.Tallies.{Tells, all_lawful, read_all}
use Rattle.forms.specs.declared.outline.Tally.{Tally}

-- what the reader says of a string
pub told : (s : List ℕ) (x : Outline) → Ok x ≡ outlined (read_typing 4 s) → Tells s x.tally
told s x is = by_reading (read_typing 4 s) refl is
  where
    by_reading : (r : Option Typing) → read_typing 4 s ≡ r → Ok x ≡ outlined r → Tells s x.tally
    by_reading None reads is = absurd (let z : ◌≡◌ {A = ℕ} 0 1 = cc in omega (arith, z))
    by_reading (Some T) reads is =
        let same : x ≡ outline_of T = cc in
        let typing : T ≡ typing_or (read_typing 4 s) = ap typing_or (sym reads) in
        subst (Tells s) (ap (λ (y : Outline). y.tally) (sym same)) (record { lawful = ap is_some reads; clashes = ap (λ U. U.clashes) typing; overlongs = ap (λ U. U.overlongs) typing; holes = ap (λ U. U.holes) typing })

-- a count summed as far as the part i
abbrev SumTo : (Typing → ℕ) → List (Bor (List ℕ)) → ℕ → ℕ → Type 0
SumTo count parts i n =
    (min most (n + total count (read_all (texts (drop i parts)))) ≡ min most (total count (read_all (texts parts)))) × (n ≤ most)

pub record Summed (parts : List (Bor (List ℕ))) (i : ℕ) (t : Tally) : Type 0 where
  pub lawful : all_lawful (texts (drop i parts)) ≡ all_lawful (texts parts)
  pub clashes : SumTo (λ T. T.clashes) parts i t.clashes
  pub overlongs : SumTo (λ T. T.overlongs) parts i t.overlongs
  pub holes : SumTo (λ T. T.holes) parts i t.holes

module _ (parts : List (Bor (List ℕ))) (i : ℕ) (d : Bor (List ℕ)) (lt : i < length parts) (t : Tally) (so : Summed parts i t) where
  abbrev here : List ℕ
  here = (get_or parts i d).now

-- the test of a reading whose lawful strings are typing strings
pub all_allowed : (m : Meaning) → ((s : List ℕ) → m.allows s ≡ is_lawful 4 s) → (strings : List (List ℕ)) → allows_all m strings ≡ all_lawful strings
all_allowed m same [] = refl
all_allowed m same (s ∷ strings) = ap₂ ◌&&◌ (same s) (all_allowed m same strings)
