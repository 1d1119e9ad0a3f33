-- The table of worked texts. Assumes nothing.
use Rattle.std.proofs.Common.{◌≡◌, [], ◌∷◌, ◌++◌, decimal, ap, ◌∙◌, arith}
use Rattle.std.proofs.lemmas.Fmt.{decimal_digit, decimal_step}
use Rattle.type_text.specs.TypeTexts.{WorkedTexts}

twelve : decimal 12 ≡ 49 ∷ 50 ∷ []
twelve = decimal_step 12 (omega arith) (omega arith) ∙ ap (λ z. z ++ 50 ∷ []) (decimal_digit 1 (omega arith))

pub worked_texts : WorkedTexts
worked_texts =
    let zero_is : decimal 0 ≡ 48 ∷ [] = decimal_digit 0 (omega arith) in
    let one_is : decimal 1 ≡ 49 ∷ [] = decimal_digit 1 (omega arith) in
    let three_is : decimal 3 ≡ 51 ∷ [] = decimal_digit 3 (omega arith) in
    rw (twelve, zero_is, one_is, three_is)
