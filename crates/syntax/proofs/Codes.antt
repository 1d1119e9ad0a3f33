-- The codes of kinds and of labels tell them apart. Assumes nothing.
use Rattle.std.proofs.Common.{◌≡◌, ℕ, ◌<◌, cond, eqb, sym, refl, ap, ◌∙◌, arith}
use Rattle.syntax.specs.Kinds.{code_of, arity}
use Rattle.syntax.specs.Labels.{label_code}
use Rattle.syntax.specs.declared.kind.Kind.{Kind}
use Rattle.syntax.specs.declared.kind.Kind.TheVariants.{Hole, Num, Var, Nil, Lam, Fix, Sel, App, Add, Ext, Ifz}
use Rattle.syntax.specs.declared.label.Label.{Label}
use Rattle.syntax.specs.declared.label.Label.TheVariants.{Row, Col, Ink, Lit}

-- the kind of a code
coded : ℕ → Kind
coded n =
    cond (eqb n 0) Hole (cond (eqb n 1) Num (cond (eqb n 2) Var (cond (eqb n 3) Nil (cond (eqb n 4) Lam (cond (eqb n 5) Fix
    (cond (eqb n 6) Sel (cond (eqb n 8) App (cond (eqb n 9) Add (cond (eqb n 10) Ext Ifz)))))))))

coded_code : (k : Kind) → coded (code_of k) ≡ k
unfolding coded
coded_code Hole = refl
coded_code Num = refl
coded_code Var = refl
coded_code Nil = refl
coded_code Lam = refl
coded_code Fix = refl
coded_code Sel = refl
coded_code App = refl
coded_code Add = refl
coded_code Ext = refl
coded_code Ifz = refl

pub same_from_code : (j k : Kind) → code_of j ≡ code_of k → j ≡ k
same_from_code j k e = sym (coded_code j) ∙ ap coded e ∙ coded_code k

pub code_below : (k : Kind) → code_of k < 13
code_below Hole = omega arith
code_below Num = omega arith
code_below Var = omega arith
code_below Nil = omega arith
code_below Lam = omega arith
code_below Fix = omega arith
code_below Sel = omega arith
code_below App = omega arith
code_below Add = omega arith
code_below Ext = omega arith
code_below Ifz = omega arith

pub arity_below : (k : Kind) → arity k < 4
arity_below k = omega (arith, code_below k)

-- the label of a code
labelled : ℕ → Label
labelled n = cond (eqb n 0) Row (cond (eqb n 1) Col (cond (eqb n 2) Ink Lit))

labelled_code : (l : Label) → labelled (label_code l) ≡ l
unfolding labelled
labelled_code Row = refl
labelled_code Col = refl
labelled_code Ink = refl
labelled_code Lit = refl

pub same_from_label_code : (l m : Label) → label_code l ≡ label_code m → l ≡ m
same_from_label_code l m e = sym (labelled_code l) ∙ ap labelled e ∙ labelled_code m

pub label_below : (l : Label) → label_code l < 4
label_below Row = omega arith
label_below Col = omega arith
label_below Ink = omega arith
label_below Lit = omega arith
