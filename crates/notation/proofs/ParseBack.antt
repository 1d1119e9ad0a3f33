-- Parsing an argument is the inverse of printing it. Assumes nothing.
use Rattle.std.proofs.Common.{◌≡◌, ℕ, true, cond, eqb, List, [], get_or, Ok, Err, unwrap_or, sym, refl, ap, ◌∙◌, arith}
use Rattle.std.proofs.lemmas.Fmt.{decimal_injective}
use Rattle.layout.proofs.Prefixes.{nothing, number, name, label, same_name}
use Rattle.notation.specs.ArgumentTexts.{argument_text, ParsesBack}
use Rattle.syntax.specs.Arguments.{of_sort}
use Rattle.syntax.specs.Labels.{label_word}
use Rattle.syntax.specs.declared.argument.Argument.{Argument}
use Rattle.syntax.specs.declared.argument.Argument.TheVariants as argument
use Rattle.syntax.specs.declared.kind.Sort.{Sort}
use Rattle.syntax.specs.declared.kind.Sort.TheVariants as sort
use Rattle.syntax.specs.declared.label.Label.{Label}
use Rattle.syntax.specs.declared.label.Label.TheVariants.{Row, Col, Ink, Lit}

-- the first letter of a word tells the labels apart
worded : List ℕ → Label
worded word = cond (eqb (get_or word 0 0) 114) Row (cond (eqb (get_or word 0 0) 99) Col (cond (eqb (get_or word 0 0) 105) Ink Lit))

worded_word : (l : Label) → worded (label_word l) ≡ l
unfolding worded
worded_word Row = refl
worded_word Col = refl
worded_word Ink = refl
worded_word Lit = refl

same_argument : (s : Sort) (a b : Argument) → of_sort s a ≡ true → of_sort s b ≡ true → argument_text a ≡ argument_text b → a ≡ b
same_argument sort.Nothing a b fa fb e = nothing a fa ∙ sym (nothing b fb)
same_argument sort.Number a b fa fb e =
    let (n, p, fn) = number a fa in
    let (m, q, fm) = number b fb in
    let same = decimal_injective n m (omega arith) (omega arith) (sym (ap argument_text p) ∙ e ∙ ap argument_text q) in
    p ∙ ap (λ z. argument.Number z) same ∙ sym q
same_argument sort.Name a b fa fb e =
    let (n, p, fn) = name a fa in
    let (m, q, fm) = name b fb in
    p ∙ ap (λ z. argument.Name z) (same_name n m fn fm (sym (ap argument_text p) ∙ e ∙ ap argument_text q)) ∙ sym q
same_argument sort.Label a b fa fb e =
    let (l, p) = label a fa in
    let (m, q) = label b fb in
    let same = sym (worded_word l) ∙ ap worded (sym (ap argument_text p) ∙ e ∙ ap argument_text q) ∙ worded_word m in
    p ∙ ap (λ z. argument.Label z) same ∙ sym q

pub parses_back : ParsesBack
parses_back s a (Ok b) fit (fb, is) = ap Ok (same_argument s b a fb fit (ap (λ f. unwrap_or f []) is))
parses_back s a (Err fault) fit (which, absent) = absurd (absent a fit refl)
