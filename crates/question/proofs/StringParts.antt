-- Children's strings side by side in one buffer, as the parts of a question. Assumes nothing.
use Rattle.std.proofs.Common.{◌≡◌, ℕ, ◌<◌, ◌≤◌, true, false, cond, eqb, List, [], ◌∷◌, ◌++◌, map, length, take, drop, is_some, Some, None, Option, sym, refl, ap, ◌∙◌, ap₂, arith, Bor}
use Rattle.std.proofs.lemmas.List.{take_at, drop_at}
use Rattle.std.proofs.lemmas.Bool.{lt-ltb, le-leb, ne_eqb, and_left, cond_both, false≢true}
use Rattle.syntax.proofs.Codes.{arity_below}
use Rattle.syntax.specs.Arguments.{fits}
use Rattle.syntax.specs.declared.argument.Symbol.{Symbol}
use Rattle.syntax.specs.declared.fault.Fault.TheVariants.{Unlawful}
use Rattle.reading.specs.Readings.{Meaning, allows_all, suits, refusal, meter_end}
use Rattle.question.specs.Fields.{before, fields, fields_in}
use Rattle.question.specs.Digits.{unhex}

-- a text that is cut where its first part ends
module _ (text front back t u : List ℕ) (n : ℕ) (is : text ≡ t ++ u) (end : n ≡ length t) where
  pub front_of : front ≡ take n text → front ≡ t
  front_of cut = cut ∙ ap (take n) is ∙ take_at t u n (sym end)

  pub back_of : back ≡ drop n text → back ≡ u
  back_of cut = cut ∙ ap (drop n) is ∙ drop_at t u n (sym end)

-- more strings than any node has children
pub too_many : (m : Meaning) (meter : ℕ) (s : Symbol) (parts : List (List ℕ)) (room : ℕ) → fits s ≡ true → meter < meter_end → m.bound ≤ room → 3 < length parts → refusal m meter s parts room ≡ Some Unlawful
too_many m meter s parts room fit some long more =
    let by_parts : refusal m meter s parts room ≡ cond (suits m s parts) None (Some Unlawful) = rw (fit, lt-ltb _ _ some, le-leb _ _ long) in
    by_parts ∙ ap (λ b. cond b None (Some Unlawful)) (and_left _ (allows_all m parts) (ne_eqb _ _ (λ e. omega (arith, arity_below s.kind, e))))

-- the parts of a question are the strings that the fields stand for
pub two_strings : (fs : List (List ℕ)) (f₁ f₂ p₁ p₂ : List ℕ) → fs ≡ f₁ ∷ (f₂ ∷ []) → p₁ ≡ unhex f₁ → p₂ ≡ unhex f₂ → p₁ ∷ (p₂ ∷ []) ≡ map unhex fs
two_strings fs f₁ f₂ p₁ p₂ is e₁ e₂ = ap₂ (λ x y. x ∷ (y ∷ [])) e₁ e₂ ∙ sym (ap (map unhex) is)

pub three_strings : (fs : List (List ℕ)) (f₁ f₂ f₃ p₁ p₂ p₃ : List ℕ) → fs ≡ f₁ ∷ (f₂ ∷ (f₃ ∷ [])) → p₁ ≡ unhex f₁ → p₂ ≡ unhex f₂ → p₃ ≡ unhex f₃ → p₁ ∷ (p₂ ∷ (p₃ ∷ [])) ≡ map unhex fs
three_strings fs f₁ f₂ f₃ p₁ p₂ p₃ is e₁ e₂ e₃ = ap₂ (λ x y. x ∷ (y ∷ (p₃ ∷ []))) e₁ e₂ ∙ ap (λ z. unhex f₁ ∷ (unhex f₂ ∷ (z ∷ []))) e₃ ∙ sym (ap (map unhex) is)

pub four_strings : (fs rest : List (List ℕ)) (f₁ f₂ f₃ f₄ : List ℕ) → fs ≡ f₁ ∷ (f₂ ∷ (f₃ ∷ (f₄ ∷ rest))) → 3 < length (map unhex fs)
four_strings fs rest f₁ f₂ f₃ f₄ is = omega (arith, ap (λ z. length (map unhex z)) is)

-- some field is left where something is
pub fields_some : (text : List ℕ) → (field : List ℕ) × (rest : List (List ℕ)) × (fields text ≡ field ∷ rest)
fields_some [] = ([], [], refl)
fields_some (b ∷ text) = cond_both (eqb b 32) ([] ∷ fields text) (before b (fields text)) (λ z. (field : List ℕ) × (rest : List (List ℕ)) × (z ≡ field ∷ rest)) (λ _. ([], fields text, refl)) (λ _. joins (fields text))
  where
    joins : (fs : List (List ℕ)) → (field : List ℕ) × (rest : List (List ℕ)) × (before b fs ≡ field ∷ rest)
    joins [] = (b ∷ [], [], refl)
    joins (f ∷ fs) = (b ∷ f, fs, refl)

pub fields_left : (left : Option (Bor (List ℕ))) → is_some left ≡ true → (field : List ℕ) × (rest : List (List ℕ)) × (fields_in left ≡ field ∷ rest)
fields_left None h = absurd (false≢true h)
fields_left (Some text) h = fields_some text.now

pub fields_none : (left : Option (Bor (List ℕ))) → is_some left ≡ false → fields_in left ≡ []
fields_none None h = refl
fields_none (Some text) h = absurd (false≢true (sym h))
