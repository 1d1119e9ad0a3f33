-- Entries over cells: how one takes its place. Assumes nothing.
use Rattle.std.proofs.Common.{◌≡◌, ℕ, zero, suc, ◌+◌, ◌<◌, ◌≤◌, Bool, true, false, cond, eqb, List, [], ◌∷◌, ◌++◌, length, get_or, take, drop, Some, None, Option, not, sym, refl, ap, ◌∙◌, subst, ap₂, arith}
use Rattle.std.specs.List.{find, insert as inserted}
use Rattle.std.specs.List.Retain.{RetainsInTurn}
use Rattle.std.proofs.lemmas.List.{append_assoc, drop_all, drop_more, take_more}
use Rattle.std.proofs.lemmas.List.Edits.{length-insert}
use Rattle.std.specs.Cmp.Lexicographic.{pointwise}
use Rattle.typing.specs.Forms.{Name, same}
use Rattle.typing.proofs.DerivedOrder.{equal_same}
use Rattle.typing.specs.Strings.{before}
use Rattle.typing.specs.Constraints.{insert, type_of, without}
use Rattle.inference.specs.Slots.{Slot, slot_of, slots_of, most_entries, Goes}
use Rattle.inference.specs.declared.entry.Entry.{Entry}

-- slots
pub length_slots : (es : List Entry) → length (slots_of es) ≡ length es
length_slots [] = refl
length_slots (e ∷ es) = ap suc (length_slots es)

pub drop_slots : (n : ℕ) (es : List Entry) → drop n (slots_of es) ≡ slots_of (drop n es)
drop_slots zero es = refl
drop_slots (suc n) [] = refl
drop_slots (suc n) (e ∷ es) = drop_slots n es

take_slots : (n : ℕ) (es : List Entry) → take n (slots_of es) ≡ slots_of (take n es)
take_slots zero es = refl
take_slots (suc n) [] = refl
take_slots (suc n) (e ∷ es) = ap (λ ss. slot_of e ∷ ss) (take_slots n es)

slots_append : (es fs : List Entry) → slots_of (es ++ fs) ≡ slots_of es ++ slots_of fs
slots_append [] fs = refl
slots_append (e ∷ es) fs = ap (λ ss. slot_of e ∷ ss) (slots_append es fs)

at_slot : (es : List Entry) (i : ℕ) (d : Entry) → i < length es → drop i (slots_of es) ≡ slot_of (get_or es i d) ∷ drop (i + 1) (slots_of es)
at_slot es i d lt = drop_slots i es ∙ ap slots_of (drop_more es i d lt) ∙ ap (λ ss. slot_of (get_or es i d) ∷ ss) (sym (drop_slots (i + 1) es))

-- where a slot goes
insert_past : (s f : Slot) (ss : List Slot) → same s.0 f.0 ≡ false → before s.0 f.0 ≡ false → insert s (f ∷ ss) ≡ (f ∷ (insert s ss).0, (insert s ss).1)
insert_past s f ss other later =
    ap₂ (λ a b. cond a (f ∷ ss, (f.1, s.1) ∷ []) (cond b (s ∷ f ∷ ss, []) (f ∷ (insert s ss).0, (insert s ss).1))) other later

insert_same : (s f : Slot) (ss : List Slot) → same s.0 f.0 ≡ true → insert s (f ∷ ss) ≡ (f ∷ ss, (f.1, s.1) ∷ [])
insert_same s f ss is =
    ap (λ a. cond a (f ∷ ss, (f.1, s.1) ∷ []) (cond (before s.0 f.0) (s ∷ f ∷ ss, []) (f ∷ (insert s ss).0, (insert s ss).1))) is

insert_before : (s f : Slot) (ss : List Slot) → same s.0 f.0 ≡ false → before s.0 f.0 ≡ true → insert s (f ∷ ss) ≡ (s ∷ f ∷ ss, [])
insert_before s f ss other earlier =
    ap₂ (λ a b. cond a (f ∷ ss, (f.1, s.1) ∷ []) (cond b (s ∷ f ∷ ss, []) (f ∷ (insert s ss).0, (insert s ss).1))) other earlier

pub goes_more : (s : Slot) (es : List Entry) (i : ℕ) (d : Entry) → i < length es → Goes s (slots_of es) i → same s.0 (get_or es i d).name.0 ≡ false → before s.0 (get_or es i d).name.0 ≡ false → Goes s (slots_of es) (i + 1)
goes_more s es i d lt goes other later =
    let ss = slots_of es in
    let f = slot_of (get_or es i d) in
    let past : insert s (drop i ss) ≡ (f ∷ (insert s (drop (i + 1) ss)).0, (insert s (drop (i + 1) ss)).1) = ap (insert s) (at_slot es i d lt) ∙ insert_past s f (drop (i + 1) ss) other later in
    let more : take (i + 1) ss ≡ take i ss ++ f ∷ [] = take_more ss i f (omega (arith, length_slots es)) ∙ ap (λ x. take i ss ++ x ∷ []) (got ss i f (drop (i + 1) ss) (at_slot es i d lt)) in
    (goes.0 ∙ ap (λ x. take i ss ++ x.0) past ∙ sym (append_assoc (take i ss) (f ∷ []) (insert s (drop (i + 1) ss)).0) ∙ ap (λ front. front ++ (insert s (drop (i + 1) ss)).0) (sym more), goes.1 ∙ ap (λ x. x.1) past)
  where
    got : (ss : List Slot) (i : ℕ) (f : Slot) (rest : List Slot) → drop i ss ≡ f ∷ rest → get_or ss i f ≡ f
    got [] zero f rest e = refl
    got [] (suc i) f rest e = refl
    got (x ∷ ss) zero f rest e = cc
    got (x ∷ ss) (suc i) f rest e = got ss i f rest e

together : (ss : List Slot) (i : ℕ) → take i ss ++ drop i ss ≡ ss
together [] zero = refl
together [] (suc i) = refl
together (x ∷ ss) zero = refl
together (x ∷ ss) (suc i) = ap (λ rest. x ∷ rest) (together ss i)

pair_is : {A B : Type 0} (p : A × B) (a : A) (b : B) → p.0 ≡ a → p.1 ≡ b → p ≡ (a, b)
pair_is p a b ea eb = ap₂ (λ x y. (x, y)) ea eb

-- the name is listed
pub listed_here : (e : Entry) (es : List Entry) (i : ℕ) (d : Entry) → i < length es → Goes (slot_of e) (slots_of es) i → same e.name.0 (get_or es i d).name.0 ≡ true → insert (slot_of e) (slots_of es) ≡ (slots_of es, ((get_or es i d).cell, e.cell) ∷ [])
listed_here e es i d lt goes is =
    let s = slot_of e in
    let ss = slots_of es in
    let f = slot_of (get_or es i d) in
    let here : insert s (drop i ss) ≡ (f ∷ drop (i + 1) ss, (f.1, s.1) ∷ []) = ap (insert s) (at_slot es i d lt) ∙ insert_same s f (drop (i + 1) ss) is in
    pair_is (insert s ss) ss (((get_or es i d).cell, s.1) ∷ []) (goes.0 ∙ ap (λ x. take i ss ++ x.0) here ∙ ap (λ rest. take i ss ++ rest) (sym (at_slot es i d lt)) ∙ together ss i) (goes.1 ∙ ap (λ x. x.1) here)

-- what is put at a place of the entries is put at that place of the slots
inserted_slots : (es : List Entry) (at : ℕ) (e : Entry) → slots_of (inserted es at e) ≡ inserted (slots_of es) at (slot_of e)
inserted_slots es at e =
    slots_append (take at es) (e ∷ drop at es) ∙ ap₂ (λ front back. front ++ slot_of e ∷ back) (sym (take_slots at es)) (sym (drop_slots at es))

-- the entry here comes later, or there is none
pub place_here : (e : Entry) (es : List Entry) (i : ℕ) → Goes (slot_of e) (slots_of es) i → insert (slot_of e) (drop i (slots_of es)) ≡ (slot_of e ∷ drop i (slots_of es), []) → insert (slot_of e) (slots_of es) ≡ (slots_of (inserted es i e), [])
place_here e es i goes here =
    let ss = slots_of es in
    pair_is (insert (slot_of e) ss) (slots_of (inserted es i e)) [] (goes.0 ∙ ap (λ x. take i ss ++ x.0) here ∙ sym (inserted_slots es i e)) (goes.1 ∙ ap (λ x. x.1) here)

pub comes_later : (e : Entry) (es : List Entry) (i : ℕ) (d : Entry) → i < length es → same e.name.0 (get_or es i d).name.0 ≡ false → before e.name.0 (get_or es i d).name.0 ≡ true → insert (slot_of e) (drop i (slots_of es)) ≡ (slot_of e ∷ drop i (slots_of es), [])
comes_later e es i d lt other earlier =
    ap (insert (slot_of e)) (at_slot es i d lt) ∙ insert_before (slot_of e) (slot_of (get_or es i d)) (drop (i + 1) (slots_of es)) other earlier ∙ ap (λ rest. (slot_of e ∷ rest, [])) (sym (at_slot es i d lt))

pub comes_none : (e : Entry) (es : List Entry) → insert (slot_of e) (drop (length es) (slots_of es)) ≡ (slot_of e ∷ drop (length es) (slots_of es), [])
comes_none e es = let none : drop (length es) (slots_of es) ≡ [] = drop_slots (length es) es ∙ ap slots_of (drop_all (length es) es (omega arith)) in ap (insert (slot_of e)) none ∙ ap (λ rest. (slot_of e ∷ rest, [])) (sym none)

-- there is no place for one more
pub no_place : (e : Entry) (es : List Entry) (i : ℕ) → i ≤ length es → insert (slot_of e) (slots_of es) ≡ (slots_of (inserted es i e), []) → length es ≡ most_entries → most_entries < length (insert (slot_of e) (slots_of es)).0
no_place e es i le is full =
    omega (arith, ap (λ p. length p.0) is, length_slots (inserted es i e), length-insert es i e le, full)

-- looking a name up
abbrev pub cell_or : Option Entry → ℕ → ℕ
cell_or None other = other
cell_or (Some e) other = e.cell

pub type_found : (n : Name) (es : List Entry) (other : ℕ) → type_of n (slots_of es) other ≡ cell_or (find (λ (e : Entry). pointwise eqb n e.name.0) es) other
type_found n [] other = refl
type_found n (e ∷ es) other =
    ap (λ b. cond b e.cell (type_of n (slots_of es) other)) (sym (equal_same n e.name.0)) ∙ by_test (pointwise eqb n e.name.0) (type_found n es other)
  where
    by_test : (b : Bool) → type_of n (slots_of es) other ≡ cell_or (find (λ (e : Entry). pointwise eqb n e.name.0) es) other → cond b e.cell (type_of n (slots_of es) other) ≡ cell_or (cond b (Some e) (find (λ (e : Entry). pointwise eqb n e.name.0) es)) other
    by_test true later = refl
    by_test false later = later

-- entries of other names are kept
pub retained : {F : Type 0} (R : F → Entry → Bool → F → Entry → Type 0) (n : Name) (f : F) → ((e : Entry) (b : Bool) (t : F) (y : Entry) → R f e b t y → (t ≡ f) × (y ≡ e) × (b ≡ not (pointwise eqb n e.name.0))) → (es ys : List Entry) → RetainsInTurn R f es ys → slots_of ys ≡ without n (slots_of es)
retained R n f says [] ys is = ap slots_of is
retained R n f says (e ∷ es) ys (b, t, y, call, zs, rest, is) =
    let said = says e b t y call in
    let later = retained R n f says es zs (subst (λ u. RetainsInTurn R u es zs) said.0 rest) in
    ap slots_of is ∙ ap₂ (λ (c : Bool) (z : Entry). slots_of (cond c (z ∷ zs) zs)) (said.2 ∙ ap not (equal_same n e.name.0)) said.1 ∙ by_test (same n e.name.0) later
  where
    by_test : (b : Bool) → slots_of zs ≡ without n (slots_of es) → slots_of (cond (not b) (e ∷ zs) zs) ≡ cond b (without n (slots_of es)) (slot_of e ∷ without n (slots_of es))
    by_test true later = later
    by_test false later = ap (λ ss. slot_of e ∷ ss) later
