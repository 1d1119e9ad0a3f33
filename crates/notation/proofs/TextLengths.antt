-- How long the words and arguments of a line are. Assumes nothing.
use Rattle.std.proofs.Common.{◌≡◌, ℕ, ◌≤◌, true, List, length, refl, arith, length-append}
use Rattle.std.proofs.lemmas.Bool.{false≢true, leb-true}
use Rattle.notation.specs.ArgumentTexts.{field_of}
use Rattle.syntax.specs.Arguments.{fits, of_sort, sound}
use Rattle.notation.specs.Edits.{line_at, spaced}
use Rattle.syntax.specs.Kinds.{sort_of, word_of}
use Rattle.syntax.specs.Labels.{label_word}
use Rattle.syntax.specs.declared.argument.Argument.{Argument}
use Rattle.syntax.specs.declared.argument.Argument.TheVariants as argument
use Rattle.syntax.specs.declared.argument.Symbol.{Symbol}
use Rattle.syntax.specs.declared.kind.Kind.{Kind}
use Rattle.syntax.specs.declared.kind.Kind.TheVariants.{Hole, Num, Var, Nil, Lam, Fix, Sel, App, Add, Ext, Ifz}
use Rattle.syntax.specs.declared.kind.Sort.{Sort}
use Rattle.syntax.specs.declared.kind.Sort.TheVariants as sort
use Rattle.syntax.specs.declared.label.Label.{Label}
use Rattle.syntax.specs.declared.label.Label.TheVariants.{Row, Col, Ink, Lit}
use Rattle.notation.proofs.Decimals.{short}
use Rattle.syntax.proofs.Letters.{named}

word_short : (k : Kind) → length (word_of k) ≤ 4
word_short Hole = omega arith
word_short Num = omega arith
word_short Var = omega arith
word_short Nil = omega arith
word_short Lam = omega arith
word_short Fix = omega arith
word_short Sel = omega arith
word_short App = omega arith
word_short Add = omega arith
word_short Ext = omega arith
word_short Ifz = omega arith

label_short : (l : Label) → length (label_word l) ≤ 3
label_short Row = omega arith
label_short Col = omega arith
label_short Ink = omega arith
label_short Lit = omega arith

sound_from_sort : (s : Sort) (a : Argument) → of_sort s a ≡ true → sound a ≡ true
sound_from_sort s argument.Nothing fit = refl
sound_from_sort sort.Nothing (argument.Number n) fit = absurd (false≢true fit)
sound_from_sort sort.Number (argument.Number n) fit = fit
sound_from_sort sort.Name (argument.Number n) fit = absurd (false≢true fit)
sound_from_sort sort.Label (argument.Number n) fit = absurd (false≢true fit)
sound_from_sort sort.Nothing (argument.Name n) fit = absurd (false≢true fit)
sound_from_sort sort.Number (argument.Name n) fit = absurd (false≢true fit)
sound_from_sort sort.Name (argument.Name n) fit = fit
sound_from_sort sort.Label (argument.Name n) fit = absurd (false≢true fit)
sound_from_sort s (argument.Label l) fit = refl

field_short : (a : Argument) → sound a ≡ true → length (spaced (field_of a)) ≤ 7
field_short argument.Nothing fit = omega arith
field_short (argument.Number n) fit = omega (arith, short n (leb-true n 999999 fit))
field_short (argument.Name n) fit = omega (arith, (named n.0 fit).few)
field_short (argument.Label l) fit = omega (arith, label_short l)

-- a path of at most forty steps, a word of at most four letters, an argument of at most six bytes
pub line_short : (path : List ℕ) (s : Symbol) → length path ≤ 41 → fits s ≡ true → length (line_at path s) ≤ 56
line_short path s shallow fit =
    simp length-append (omega (arith, word_short s.kind, field_short s.argument (sound_from_sort (sort_of s.kind) s.argument fit)))
