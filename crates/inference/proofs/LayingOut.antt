-- Laying terms out off the bytes that spell them: what each token tells. Assumes nothing.
use Rattle.std.proofs.Common.{◌≡◌, ℕ, suc, ◌+◌, ◌-◌, ◌≤◌, true, false, ◌⊎◌, List, [], ◌∷◌, ◌++◌, map, length, is_err, Some, None, Ok, Err, Option, sym, refl, ap, ◌∙◌, subst, ap₂, inl, inr, arith, Bor}
use Rattle.std.proofs.lemmas.List.{append_assoc, append-nil, length_push}
use Rattle.std.proofs.lemmas.Bool.{both_ways}
use Rattle.layout.specs.Groups.{Group, group}
use Rattle.layout.proofs.Groups.{groups_prefix}
use Rattle.typing.specs.Cells.{Graph}
use Rattle.typing.specs.declared.cell.Cell.TheVariants.{Atom as atom, Apply as apply}
use Rattle.typing.specs.Heads.{Sort, parts_of, token_of, head_of, meaning_of}
use Rattle.typing.specs.declared.head.Head.{Head}
use Rattle.typing.specs.declared.head.Head.TheVariants.{Num, Fun, Rec, Absent, Present}
use Rattle.typing.specs.declared.head.Token.TheVariants.{Head as OfHead, Variable}
use Rattle.typing.specs.Solve.{lay}
use Rattle.typing.specs.Strings.{term_bytes}
use Rattle.typing.specs.Terms.{Term, var, head, ◌·◌, applied}
use Rattle.typing.proofs.Meanings.{head_meant, variable_meant}
use Rattle.typing.proofs.Records.{EachSorted, fill_applied}
use Rattle.typing.proofs.TermReading.{Made, take_apart, applied_bytes, group_long}
use Rattle.typing.proofs.TermReading as reading
use Rattle.inference.specs.Layouts.{Answer, Legible, EachLegible, terms_bytes, shift, Out, LaysHead, LaysTerm, LaysParts, Takes}
use Rattle.inference.specs.Tables.{most_cells}

abbrev Good : ℕ → Sort → Type 0
Good k q = Group (5 + k)

terms_bytes_lem : (ts : List Term) → reading.terms_bytes ts ≡ terms_bytes ts
terms_bytes_lem [] = refl
terms_bytes_lem (t ∷ ts) = ap (λ bs. term_bytes t ++ bs) (terms_bytes_lem ts)

each_legible : (ss : List Sort) (ts : List Term) → EachSorted Good 4 ss ts → EachLegible ts × (length ts ≡ length ss)
each_legible [] [] each = (tt, refl)
each_legible [] (t ∷ ts) each = absurd each
each_legible (s ∷ ss) [] each = absurd each
each_legible (s ∷ ss) (t ∷ ts) each =
    let r = each_legible ss ts each.1 in
    (((s, each.0), r.0), ap suc r.1)

head_back : (h : Head) → head_of (token_of h) ≡ Some h
head_back Num = refl
head_back Fun = refl
head_back Rec = refl
head_back Absent = refl
head_back Present = refl

token_group : (h : Head) → Group (token_of h)
token_group Num = omega arith
token_group Fun = omega arith
token_group Rec = omega arith
token_group Absent = omega arith
token_group Present = omega arith

-- a term is a variable, or a head over the parts that are its own
pub data Front (t : Term) (rest bytes : List ℕ) : Type 0 where
  is_var : (k : ℕ) → t ≡ var k → Group (5 + k) → bytes ≡ group (5 + k) ++ rest → Front t rest bytes
  is_head : (h : Head) (ts : List Term) → t ≡ applied (head h) ts → EachLegible ts → length ts ≡ length (parts_of 4 h) → bytes ≡ group (token_of h) ++ (terms_bytes ts ++ rest) → Front t rest bytes

pub front : (s : Sort) (t : Term) (rest bytes : List ℕ) → Legible [] s t → bytes ≡ term_bytes t ++ rest → Front t rest bytes
front s t rest bytes legible is = by_kind (take_apart Good 4 t [] s legible)
  where
    by_kind : ((k : ℕ) × (t ≡ var k) × (◌≡◌ {A = List Sort} [] []) × Good k s) ⊎ Made Good 4 [] s t → Front t rest bytes
    by_kind (inl v) = is_var v.0 v.1 v.3 (is ∙ ap (λ u. term_bytes u ++ rest) v.1)
    by_kind (inr m) =
        let e = each_legible m.sorts m.parts m.each in
        is_head m.top m.parts m.is e.0 (e.1 ∙ ap length (sym (append-nil m.sorts)) ∙ ap length (sym m.needs))
        (is ∙ ap (λ u. term_bytes u ++ rest) m.is ∙ ap (λ bs. bs ++ rest) (applied_bytes (head m.top) m.parts) ∙ append_assoc (group (token_of m.top)) (reading.terms_bytes m.parts) rest ∙ ap (λ bs. group (token_of m.top) ++ (bs ++ rest)) (terms_bytes_lem m.parts))

none_some : {A B : Type 0} (o : Option A) (a : A) → o ≡ None → o ≡ Some a → B
none_some o a n s = absurd (let e : None ≡ Some a = sym n ∙ s in let z : ◌≡◌ {A = ℕ} 0 1 = cc in omega (arith, z))

-- the token of a term is a group number
token_at : (s : Sort) (t : Term) (rest bytes : List ℕ) (Q : Type 0) → Front t rest bytes → ((n : ℕ) (behind : List ℕ) → Group n → bytes ≡ group n ++ behind → Q) → Q
token_at s t rest bytes Q (is_var k e g is) on = on (5 + k) rest g is
token_at s t rest bytes Q (is_head h ts e each long is) on = on (token_of h) (terms_bytes ts ++ rest) (token_group h) is

-- laying out adds cells
pub lay_longer : (t : Term) (g : Graph) → length g ≤ length (lay t g).0
lay_longer (var k) g = omega arith
lay_longer (head h) g = omega (arith, length_push g (atom h))
lay_longer (f · x) g =
    omega (arith, lay_longer f g, lay_longer x (lay f g).0, length_push (lay x (lay f g).0).0 (apply (lay f g).1 (lay x (lay f g).0).1))

one_more : (f x : Term) (g : Graph) → length (lay x (lay f g).0).0 + 1 ≤ length (lay (f · x) g).0
one_more f x g = omega (arith, length_push (lay x (lay f g).0).0 (apply (lay f g).1 (lay x (lay f g).0).1))

applied_longer : (ts : List Term) (f : Term) (g : Graph) → length (lay f g).0 ≤ length (lay (applied f ts) g).0
applied_longer [] f g = omega arith
applied_longer (t ∷ ts) f g = omega (arith, applied_longer ts (f · t) g, one_more f t g, lay_longer t (lay f g).0)

-- the bytes spell no term for which there is room
abbrev pub NoTerm : ℕ → Graph → List ℕ → Type 0
NoTerm base g bytes =
    (s : Sort) (t : Term) (rest : List ℕ) → Legible [] s t → bytes ≡ term_bytes t ++ rest → length (lay (shift base t) g).0 ≤ most_cells → ⊥

pub no_token : (base : ℕ) (g : Graph) (bytes : List ℕ) → ((n : ℕ) (rest : List ℕ) → Group n → bytes ≡ group n ++ rest → ⊥) → NoTerm base g bytes
no_token base g bytes none s t rest legible is fits = token_at s t rest bytes ⊥ (front s t rest bytes legible is) none

pub no_term : (base : ℕ) (bytes : List ℕ) (g g' : Graph) (r : Answer) → NoTerm base g bytes → LaysTerm base bytes g g' r
no_term base bytes g g' r none s t rest legible is fits = absurd (none s t rest legible is fits)

-- the token that was read is the term's
abbrev Read : List ℕ → ℕ → List ℕ → Type 0
Read bytes token behind = Group token × (bytes ≡ group token ++ behind)

one_token : (bytes : List ℕ) (token n : ℕ) (behind rest : List ℕ) → Read bytes token behind → Group n → bytes ≡ group n ++ rest → (token ≡ n) × (behind ≡ rest)
one_token bytes token n behind rest read good is = groups_prefix 2 token n behind rest read.0 good (sym read.1 ∙ is)

-- a token of no head is a variable's
pub lays_variable : (base : ℕ) (bytes : List ℕ) (g : Graph) (token k : ℕ) (behind : Bor (List ℕ)) → Read bytes token behind.now → Variable k ≡ meaning_of token → LaysTerm base bytes g g (Ok (base + k, behind))
lays_variable base bytes g token k behind read means s t rest legible is fits = by_front (front s t rest bytes legible is)
  where
    meant : (head_of token ≡ None) × (k ≡ token - 5)
    meant = variable_meant token k means

    by_front : Front t rest bytes → Out (shift base t) rest g g (Ok (base + k, behind))
    by_front (is_var i e good at) =
        let r = one_token bytes token (5 + i) behind.now rest read good at in
        let same : lay (shift base t) g ≡ (g, base + i) = ap (λ u. lay (shift base u) g) e in
        (ap (λ p. p.0) (sym same), omega (arith, r.0, meant.1) ∙ ap (λ p. p.1) (sym same), r.1)
    by_front (is_head h ts e each long at) =
        let r = one_token bytes token (token_of h) behind.now (terms_bytes ts ++ rest) read (token_group h) at in
        none_some (head_of token) h meant.0 (ap head_of r.0 ∙ head_back h)

var_no_head : (k : ℕ) → head_of (5 + k) ≡ None
var_no_head k = let e : 5 + k ≡ suc (suc (suc (suc (suc k)))) = omega arith in ap head_of e

-- a head's parts are laid out behind it
pub lays_head : (base : ℕ) (bytes : List ℕ) (g g' : Graph) (token : ℕ) (behind : Bor (List ℕ)) (h : Head) (r : Answer) → Read bytes token behind.now → OfHead h ≡ meaning_of token → LaysHead base h behind.now g g' r → LaysTerm base bytes g g' r
lays_head base bytes g g' token behind h r read means lays s t rest legible is fits = by_front (front s t rest bytes legible is)
  where
    by_front : Front t rest bytes → Out (shift base t) rest g g' r
    by_front (is_var k e good at) =
        let q = one_token bytes token (5 + k) behind.now rest read good at in
        none_some (head_of token) h (ap head_of q.0 ∙ var_no_head k) (head_meant token h means)
    by_front (is_head top ts e each long at) =
        let q = one_token bytes token (token_of top) behind.now (terms_bytes ts ++ rest) read (token_group top) at in
        let same : top ≡ h = let z : Some top ≡ Some h = sym (head_back top) ∙ ap head_of (sym q.0) ∙ head_meant token h means in cc in
        let whole : shift base t ≡ applied (head h) (map (shift base) ts) = ap (shift base) (e ∙ ap (λ x. applied (head x) ts) same) ∙ fill_applied (λ k. var (base + k)) (head h) ts in
        let out = lays ts rest (long ∙ ap (λ x. length (parts_of 4 x)) same) each q.1 (subst (λ u. length (lay u g).0 ≤ most_cells) whole fits) in
        subst (λ u. Out u rest g g' r) (sym whole) out

pub head_lays : (base : ℕ) (h : Head) (bytes : List ℕ) (g g₁ g' : Graph) (cell count : ℕ) (r : Answer) → count ≡ length (parts_of 4 h) → cell ≡ length g → g₁ ≡ g ++ atom h ∷ [] → LaysParts base cell count bytes g₁ g' r → LaysHead base h bytes g g' r
head_lays base h bytes g g₁ g' cell count r counted at-end pushed lays ts rest long each is fits =
    lays g (head h) ts rest pushed at-end (long ∙ sym counted) each is fits

pub head_full : (base : ℕ) (h : Head) (bytes : List ℕ) (g g' : Graph) (r : Answer) → most_cells ≤ length g → LaysHead base h bytes g g' r
head_full base h bytes g g' r full ts rest long each is fits =
    absurd (omega (arith, fits, full, applied_longer (map (shift base) ts) (head h) g, length_push g (atom h)))

pub lays_none : (base cell : ℕ) (bytes : Bor (List ℕ)) (g : Graph) (count : ℕ) → count ≡ 0 → LaysParts base cell count bytes.now g g (Ok (cell, bytes))
lays_none base cell bytes g count none g₀ f [] rest is at long each spelled fits = (is, at, spelled)
lays_none base cell bytes g count none g₀ f (t ∷ ts) rest is at long each spelled fits = absurd (omega (arith, none, long))

part_fits : (base : ℕ) (t : Term) (ts : List Term) (f : Term) (g : Graph) → length (lay (applied f (map (shift base) (t ∷ ts))) g).0 ≤ most_cells → length (lay (shift base t) (lay f g).0).0 + 1 ≤ most_cells
part_fits base t ts f g fits = omega (arith, fits, applied_longer (map (shift base) ts) (f · shift base t) g, one_more f (shift base t) g)

pub no_part : (base cell count : ℕ) (bytes : List ℕ) (g g' : Graph) (r : Answer) → (count ≡ 0 → ⊥) → NoTerm base g bytes → LaysParts base cell count bytes g g' r
no_part base cell count bytes g g' r some none g₀ f [] rest is at long each spelled fits = absurd (some (sym long))
no_part base cell count bytes g g' r some none g₀ f (t ∷ ts) rest is at long each spelled fits =
    absurd (none each.0.0 t (terms_bytes ts ++ rest) each.0.1 (spelled ∙ append_assoc (term_bytes t) (terms_bytes ts) rest) (subst (λ x. length (lay (shift base t) x).0 ≤ most_cells) (sym is) (omega (arith, part_fits base t ts f g₀ fits))))

pub lays_more : (base cell count left applied-to : ℕ) (bytes : List ℕ) (behind : Bor (List ℕ)) (g g₁ g₂ g' : Graph) (part : ℕ) (r : Answer) → count ≡ left + 1 → LaysTerm base bytes g g₁ (Ok (part, behind)) → applied-to ≡ length g₁ → g₂ ≡ g₁ ++ apply cell part ∷ [] → LaysParts base applied-to left behind.now g₂ g' r → LaysParts base cell count bytes g g' r
lays_more base cell count left applied-to bytes behind g g₁ g₂ g' part r some one at-end pushed rest-lays g₀ f [] rest is at long each spelled fits = absurd (omega (arith, long, some))
lays_more base cell count left applied-to bytes behind g g₁ g₂ g' part r some one at-end pushed rest-lays g₀ f (t ∷ ts) rest is at long each spelled fits =
    let room = part_fits base t ts f g₀ fits in
    let o = one each.0.0 t (terms_bytes ts ++ rest) each.0.1 (spelled ∙ append_assoc (term_bytes t) (terms_bytes ts) rest) (subst (λ x. length (lay (shift base t) x).0 ≤ most_cells) (sym is) (omega (arith, room))) in
    let g₁_is : g₁ ≡ (lay (shift base t) (lay f g₀).0).0 = o.0 ∙ ap (λ x. (lay (shift base t) x).0) is in
    let part_is : part ≡ (lay (shift base t) (lay f g₀).0).1 = o.1 ∙ ap (λ x. (lay (shift base t) x).1) is in
    rest-lays g₀ (f · shift base t) ts rest (pushed ∙ ap₂ (λ (x : Graph) c. x ++ c ∷ []) g₁_is (ap₂ apply at part_is)) (at-end ∙ ap length g₁_is) (omega (arith, long, some)) each.1 o.2 fits

-- a part for which there was no room
pub part_full : (base cell count : ℕ) (bytes : List ℕ) (behind : Bor (List ℕ)) (g g₁ g' : Graph) (part : ℕ) (r : Answer) → (count ≡ 0 → ⊥) → LaysTerm base bytes g g₁ (Ok (part, behind)) → most_cells ≤ length g₁ → LaysParts base cell count bytes g g' r
part_full base cell count bytes behind g g₁ g' part r some one full g₀ f [] rest is at long each spelled fits = absurd (some (sym long))
part_full base cell count bytes behind g g₁ g' part r some one full g₀ f (t ∷ ts) rest is at long each spelled fits =
    let room = part_fits base t ts f g₀ fits in
    let o = one each.0.0 t (terms_bytes ts ++ rest) each.0.1 (spelled ∙ append_assoc (term_bytes t) (terms_bytes ts) rest) (subst (λ x. length (lay (shift base t) x).0 ≤ most_cells) (sym is) (omega (arith, room))) in
    absurd (omega (arith, room, full, ap length (o.0 ∙ ap (λ x. (lay (shift base t) x).0) is)))

pub takes_fault : (some : ℕ) (bytes : List ℕ) (r : Answer) → is_err r ≡ true → Takes some bytes r
takes_fault some bytes (Ok p) is = absurd (both_ways false refl is)
takes_fault some bytes (Err fault) is = tt

pub takes_more : (some some' : ℕ) (bytes bytes' : List ℕ) (r : Answer) → Takes some' bytes' r → length bytes' + some ≤ length bytes + some' → Takes some bytes r
takes_more some some' bytes bytes' (Ok p) l less = omega (arith, l, less)
takes_more some some' bytes bytes' (Err fault) l less = tt
