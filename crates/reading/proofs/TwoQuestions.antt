-- Two questions, the second over the answer to the first, by what each comes to. Assumes nothing.
use Rattle.std.proofs.Common.{◌≡◌, ℕ, List, [], ◌∷◌, ◌++◌, length, take, drop, Ok, Err, Result, sym, ap, ◌∙◌, ap₂, inr, arith}
use Rattle.std.proofs.lemmas.List.{take_at}
use Rattle.syntax.specs.declared.argument.Symbol.{Symbol}
use Rattle.syntax.specs.declared.fault.Fault.{Fault}
use Rattle.reading.specs.Readings.{Meaning, Asked, Granted, refusal}
use Rattle.reading.specs.Twice.{Twice}

module _ {S : Type 0} (means : S → Meaning) (meter : S → ℕ) (x z y : S) (lower : Symbol) (parts : List (List ℕ)) (upper : Symbol) (work work' out out' : List ℕ) (n : ℕ) where
  -- the lower string, as it is read back from the work buffer
  pub worked : Granted means meter x z lower parts work work' n → take n work' ≡ (means x).rule lower parts
  worked first = ap (take n) first.wrote ∙ take_at ((means x).rule lower parts) (drop n work) n (sym first.long)

  pub twice : (r : Result ℕ Fault) (part : List ℕ) → Granted means meter x z lower parts work work' n → part ≡ take n work' → Asked means meter z y upper (part ∷ []) out out' r → Twice means meter x y lower parts upper work work' out out' r
  twice (Ok k) part first is second =
      let text : (means z).rule upper (part ∷ []) ≡ (means x).rule upper ((means x).rule lower parts ∷ []) = ap₂ (λ (m : Meaning) t. m.rule upper (t ∷ [])) first.same (is ∙ worked first) in
      record {
        long = second.long ∙ ap length text;
        wrote = second.wrote ∙ ap (λ t. t ++ drop k out) text;
        worked = first.wrote ∙ ap (λ j. (means x).rule lower parts ++ drop j work) first.long;
        same = second.same ∙ first.same;
        rose = omega (arith, second.rose, first.rose);
      }
  twice (Err fault) part first is second =
      inr (record {
        free = first.free;
        why = sym (ap₂ (λ (m : Meaning) t. refusal m (meter z) upper (t ∷ []) (length out)) first.same (is ∙ worked first) ∙ ap (λ k. refusal (means x) k upper ((means x).rule lower parts ∷ []) (length out)) first.rose) ∙ second.why;
        worked = first.wrote ∙ ap (λ j. (means x).rule lower parts ++ drop j work) first.long;
        same = ap means second.kept ∙ first.same;
        rose = ap meter second.kept ∙ first.rose;
        left = second.left;
      })
