-- Why a question is refused, test by test. Assumes nothing.
use Rattle.std.proofs.Common.{◌≡◌, ℕ, ◌<◌, ◌≤◌, true, false, cond, ◌&&◌, eqb, List, [], ◌∷◌, length, Some, None, refl, ap, ◌∙◌, Bor}
use Rattle.std.specs.List.{list_all}
use Rattle.std.proofs.lemmas.List.{length-map}
use Rattle.std.proofs.lemmas.Bool.{lt-ltb, le-leb, eq-eqb, and_from, and_right}
use Rattle.syntax.specs.Arguments.{fits}
use Rattle.syntax.specs.Kinds.{arity}
use Rattle.syntax.specs.declared.argument.Symbol.{Symbol}
use Rattle.syntax.specs.declared.fault.Fault.TheVariants.{Unlawful}
use Rattle.reading.specs.Readings.{Meaning, allows_all, suits, refusal, texts, meter_end}

-- every string is allowed
pub all_allowed : (m : Meaning) (slices : List (Bor (List ℕ))) → list_all (λ (s : Bor (List ℕ)). m.allows s.now) slices ≡ allows_all m (texts slices)
all_allowed m [] = refl
all_allowed m (s ∷ ss) = ap (λ b. m.allows s.now && b) (all_allowed m ss)

-- a question that the first three tests let through
module _ (m : Meaning) (meter : ℕ) (s : Symbol) (slices : List (Bor (List ℕ))) (room : ℕ) (fit : fits s ≡ true) (some : meter < meter_end) (long : m.bound ≤ room) where
  by_parts : refusal m meter s (texts slices) room ≡ cond (suits m s (texts slices)) None (Some Unlawful)
  by_parts = rw (fit, lt-ltb _ _ some, le-leb _ _ long)

  pub by_string : allows_all m (texts slices) ≡ false → refusal m meter s (texts slices) room ≡ Some Unlawful
  by_string other = by_parts ∙ ap (λ b. cond b None (Some Unlawful)) (and_right (eqb (length (texts slices)) (arity s.kind)) _ other)

  pub by_none : length slices ≡ arity s.kind → allows_all m (texts slices) ≡ true → refusal m meter s (texts slices) room ≡ None
  by_none number all =
      by_parts ∙ ap (λ b. cond b None (Some Unlawful)) (and_from _ _ (eq-eqb _ _ (length-map slices (λ slice. slice.now) ∙ number)) all)
