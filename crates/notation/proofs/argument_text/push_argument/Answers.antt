use Rattle.std.proofs.Common.{◌≡◌, ℕ, ◌≤◌, true, ◌++◌, length, decimal, sym, ap, ◌∙◌, subst, arith}
use Rattle.std.proofs.lemmas.Bool.{leb-true}
use Rattle.notation.specs.ArgumentTexts.{argument_text}
use Rattle.syntax.specs.Arguments.{sound}
use Rattle.notation.specs.Texts.{text_of}
use Rattle.syntax.specs.declared.argument.Argument.{Argument}
use Rattle.syntax.specs.declared.argument.Argument.TheVariants.{Number}
use Rattle.notation.proofs.Decimals.{short}
use Rattle.notation.proofs.argument_text.push_argument.Goals as goal

-- a number in its range has at most six digits
digits : (a : Argument) (n : ℕ) → a ≡ Number n → sound a ≡ true → length (decimal n) ≤ 6
digits a n is fit = short n (leb-true n 999999 (subst (λ x. sound x ≡ true) is fit))

pub push_decimal-requires : goal.push_decimal-requires
push_decimal-requires c = omega (arith, digits _ _ c.in-Number.is c.requires.sound)

pub returns-in-Number : goal.returns-in-Number
returns-in-Number c =
    record {
      bytes = c.push_decimal.ensures.bytes ∙ ap (λ a. text_of c.args.text.now ++ argument_text a) (sym c.in-Number.is);
      len = omega (arith, digits _ _ c.in-Number.is c.requires.sound);
    }
