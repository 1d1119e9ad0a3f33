-- What is spelled in a file can be told from what follows it: two arguments, symbols or forests that
-- begin the same bytes are equal, and leave the same rest. Assumes nothing.
use Rattle.std.proofs.Common.{◌≡◌, ℕ, ◌-◌, ◌≤◌, true, List, ◌++◌, length, take, drop, replicate, Some, None, sym, refl, ap, ◌∙◌, subst, ap₂, append_assoc, arith}
use Rattle.std.proofs.lemmas.List.{take_at, drop_at}
use Rattle.std.proofs.lemmas.Bool.{false≢true, leb-true}
use Rattle.syntax.specs.Arguments.{fits, of_sort}
use Rattle.layout.specs.Groups.{Group, group}
use Rattle.layout.specs.Readers.{ReadsBack}
use Rattle.syntax.specs.Kinds.{code_of, sort_of}
use Rattle.syntax.specs.Labels.{label_code}
use Rattle.syntax.specs.Names.{is_name, letters}
use Rattle.layout.specs.SymbolBytes.{argument_bytes, symbol_bytes}
use Rattle.syntax.specs.declared.argument.Argument.{Argument}
use Rattle.syntax.specs.declared.argument.Argument.TheVariants as argument
use Rattle.syntax.specs.declared.argument.Symbol.{Symbol}
use Rattle.syntax.specs.declared.kind.Sort.{Sort}
use Rattle.syntax.specs.declared.kind.Sort.TheVariants as sort
use Rattle.syntax.specs.declared.label.Label.{Label}
use Rattle.syntax.specs.declared.name.Name.{Name}
use Rattle.syntax.proofs.Codes.{same_from_code, code_below, same_from_label_code, label_below}
use Rattle.layout.proofs.Groups.{groups_prefix}
use Rattle.syntax.proofs.Letters.{named}

-- An argument of a sort is made in one way.
pub nothing : (a : Argument) → of_sort sort.Nothing a ≡ true → a ≡ argument.Nothing
nothing argument.Nothing fit = refl
nothing (argument.Number n) fit = absurd (false≢true fit)
nothing (argument.Name n) fit = absurd (false≢true fit)
nothing (argument.Label l) fit = absurd (false≢true fit)

pub number : (a : Argument) → of_sort sort.Number a ≡ true → (n : ℕ) × (a ≡ argument.Number n) × (n ≤ 999999)
number argument.Nothing fit = absurd (false≢true fit)
number (argument.Number n) fit = (n, refl, leb-true n 999999 fit)
number (argument.Name n) fit = absurd (false≢true fit)
number (argument.Label l) fit = absurd (false≢true fit)

pub name : (a : Argument) → of_sort sort.Name a ≡ true → (n : Name) × (a ≡ argument.Name n) × (is_name n.0 ≡ true)
name argument.Nothing fit = absurd (false≢true fit)
name (argument.Number n) fit = absurd (false≢true fit)
name (argument.Name n) fit = (n, refl, fit)
name (argument.Label l) fit = absurd (false≢true fit)

pub label : (a : Argument) → of_sort sort.Label a ≡ true → (l : Label) × (a ≡ argument.Label l)
label argument.Nothing fit = absurd (false≢true fit)
label (argument.Number n) fit = absurd (false≢true fit)
label (argument.Name n) fit = absurd (false≢true fit)
label (argument.Label l) fit = (l, refl)

-- a name is its letters, padded
pub same_name : (n m : Name) → is_name n.0 ≡ true → is_name m.0 ≡ true → letters n.0 ≡ letters m.0 → n ≡ m
same_name n m vn vm e =
    let same : n.0 ≡ m.0 = (named n.0 vn).made ∙ ap (λ x. x ++ replicate (4 - length x) 0) e ∙ sym (named m.0 vm).made in
    λ i. record { 0 = same i }

pub argument_prefix : (s : Sort) (a b : Argument) (x y : List ℕ) → of_sort s a ≡ true → of_sort s b ≡ true → argument_bytes a ++ x ≡ argument_bytes b ++ y → (a ≡ b) × (x ≡ y)
argument_prefix sort.Nothing a b x y fa fb e =
    let p = nothing a fa in
    let q = nothing b fb in
    (p ∙ sym q, sym (ap (λ z. argument_bytes z ++ x) p) ∙ e ∙ ap (λ z. argument_bytes z ++ y) q)
argument_prefix sort.Number a b x y fa fb e =
    let (n, p, fn) = number a fa in
    let (m, q, fm) = number b fb in
    let h = groups_prefix 2 n m x y (omega arith) (omega arith) (sym (ap (λ z. argument_bytes z ++ x) p) ∙ e ∙ ap (λ z. argument_bytes z ++ y) q) in
    (p ∙ ap (λ z. argument.Number z) h.0 ∙ sym q, h.1)
argument_prefix sort.Name a b x y fa fb e =
    let (n, p, fn) = name a fa in
    let (m, q, fm) = name b fb in
    let k = length (letters n.0) in
    let j = length (letters m.0) in
    let aligned = sym (append_assoc (group k) (letters n.0) x) ∙ sym (ap (λ z. argument_bytes z ++ x) p) ∙ e ∙ ap (λ z. argument_bytes z ++ y) q ∙ append_assoc (group j) (letters m.0) y in
    let h = groups_prefix 2 k j _ _ (omega (arith, (named n.0 fn).few)) (omega (arith, (named m.0 fm).few)) aligned in
    let spelled = sym (take_at (letters n.0) x k refl) ∙ ap₂ take h.0 h.1 ∙ take_at (letters m.0) y j refl in
    let rest = sym (drop_at (letters n.0) x k refl) ∙ ap₂ drop h.0 h.1 ∙ drop_at (letters m.0) y j refl in
    (p ∙ ap (λ z. argument.Name z) (same_name n m fn fm spelled) ∙ sym q, rest)
argument_prefix sort.Label a b x y fa fb e =
    let (l, p) = label a fa in
    let (m, q) = label b fb in
    let h = groups_prefix 2 (label_code l) (label_code m) x y (omega (arith, label_below l)) (omega (arith, label_below m)) (sym (ap (λ z. argument_bytes z ++ x) p) ∙ e ∙ ap (λ z. argument_bytes z ++ y) q) in
    (p ∙ ap (λ z. argument.Label z) (same_from_label_code l m h.0) ∙ sym q, h.1)

pub symbol_prefix : (s t : Symbol) (x y : List ℕ) → fits s ≡ true → fits t ≡ true → symbol_bytes s ++ x ≡ symbol_bytes t ++ y → (s ≡ t) × (x ≡ y)
symbol_prefix s t x y fs ft e =
    let aligned = sym (append_assoc (group (code_of s.kind)) (argument_bytes s.argument) x) ∙ e ∙ append_assoc (group (code_of t.kind)) (argument_bytes t.argument) y in
    let h = groups_prefix 2 (code_of s.kind) (code_of t.kind) _ _ (omega (arith, code_below s.kind)) (omega (arith, code_below t.kind)) aligned in
    let kind = same_from_code s.kind t.kind h.0 in
    let g = argument_prefix (sort_of t.kind) s.argument t.argument x y (subst (λ k. of_sort (sort_of k) s.argument ≡ true) kind fs) ft h.1 in
    (λ i. record { kind = kind i; argument = g.0 i }, g.1)

-- where no spelling begins another, what is spelled is read back
reads_back : {A : Type 0} (Good : A → Type 0) (spell : A → List ℕ)
    → ((a b : A) (x y : List ℕ) → Good a → Good b → spell a ++ x ≡ spell b ++ y → (a ≡ b) × (x ≡ y)) → ReadsBack Good spell
reads_back Good spell apart a rest None good h = h a rest good refl
reads_back Good spell apart a rest (Some p) good (fit, is) = let e = apart p.0 a p.1.now rest fit good (sym is) in e

pub groups_back : ReadsBack Group group
groups_back = reads_back Group group (groups_prefix 2)

pub symbols_back : ReadsBack (λ s. fits s ≡ true) symbol_bytes
symbols_back = reads_back (λ s. fits s ≡ true) symbol_bytes symbol_prefix
