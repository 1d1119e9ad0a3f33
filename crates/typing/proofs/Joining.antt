-- Joining the forms of the children: their entries are put together in the order of the names, and
-- entries of one name give equations. Assumes nothing.
use Rattle.std.proofs.Common.{◌≡◌, ℕ, zero, suc, ◌+◌, ◌-◌, ◌<◌, ◌≤◌, max, Bool, true, false, cond, ltb, List, [], ◌∷◌, ◌++◌, length, get_or, Some, sym, refl, ap, ◌∙◌, arith}
use Rattle.std.proofs.lemmas.Bool.{lt-ltb, le-ltb}
use Rattle.syntax.specs.Names.{is_name}
use Rattle.typing.specs.Constraints.{Entries, insert, insert_all, above, width, shifted, Joined, joined, type_at}
use Rattle.typing.specs.Forms.{Name, Context, Form, hole_form, same, Agrees, entry_variables, form_variables}
use Rattle.typing.specs.Heads.{Sort, type}
use Rattle.typing.specs.Solve.{Equations, renamed_entries}
use Rattle.typing.specs.Solved.{Holds, Bounded, AllBounded, EntriesBounded, EquationsSorted}
use Rattle.typing.specs.Strings.{before, Ahead, Rising, Types}
use Rattle.typing.specs.Terms.{Term, var, head, ◌·◌, num, fill, variables, Sorted}
use Rattle.typing.proofs.Laying.{bounded_more}
use Rattle.typing.proofs.NamesOrder.{same_true, before_total}
use Rattle.typing.proofs.Renaming.{Each, each_append, each_map, fill_fill}
use Rattle.typing.proofs.SolvingSorted.{types_fill, agrees_renamed}
use Rattle.typing.proofs.Sorting.{fill_sorted}

-- what holds of an entry put in its place
insert_ind : (e : Name × Term) (Q : Entries → Entries × Equations → Type 0) → Q [] (e ∷ [], []) → ((f : Name × Term) (es : Entries) → same e.0 f.0 ≡ true → Q (f ∷ es) (f ∷ es, (f.1, e.1) ∷ [])) → ((f : Name × Term) (es : Entries) → same e.0 f.0 ≡ false → before e.0 f.0 ≡ true → Q (f ∷ es) (e ∷ f ∷ es, [])) → ((f : Name × Term) (es : Entries) (r : Entries × Equations) → same e.0 f.0 ≡ false → before e.0 f.0 ≡ false → Q es r → Q (f ∷ es) (f ∷ r.0, r.1)) → (es : Entries) → Q es (insert e es)
insert_ind e Q none equal here there [] = none
insert_ind e Q none equal here there (f ∷ es) = by_same (same e.0 f.0) refl (insert_ind e Q none equal here there es)
  where
    by_before : (b : Bool) → before e.0 f.0 ≡ b → same e.0 f.0 ≡ false → Q es (insert e es) → Q (f ∷ es) (cond b (e ∷ f ∷ es, []) (f ∷ (insert e es).0, (insert e es).1))
    by_before true is apart later = here f es apart is
    by_before false is apart later = there f es (insert e es) apart is later

    by_same : (b : Bool) → same e.0 f.0 ≡ b → Q es (insert e es) → Q (f ∷ es) (cond b (f ∷ es, (f.1, e.1) ∷ []) (cond (before e.0 f.0) (e ∷ f ∷ es, []) (f ∷ (insert e es).0, (insert e es).1)))
    by_same true is later = equal f es is
    by_same false is later = by_before (before e.0 f.0) refl is later

insert_bounded : (n : ℕ) (e : Name × Term) → Bounded n e.1 → (es : Entries) → EntriesBounded n es → EntriesBounded n (insert e es).0 × AllBounded n (insert e es).1
insert_bounded n e b = insert_ind e (λ es r. EntriesBounded n es → EntriesBounded n r.0 × AllBounded n r.1)
    (λ bs. ((b, tt), tt))
    (λ f es is bs. (bs, (bs.0, b, tt)))
    (λ f es apart is bs. ((b, bs), tt))
    (λ f es r apart is later bs. let l = later bs.1 in ((bs.0, l.0), l.1))

insert_sorted : (V : ℕ → Sort → Type 0) (labels : ℕ) (e : Name × Term) → Sorted V labels [] type e.1 → (es : Entries) → Types V labels es → Types V labels (insert e es).0 × EquationsSorted V labels (insert e es).1
insert_sorted V labels e so = insert_ind e (λ es r. Types V labels es → Types V labels r.0 × EquationsSorted V labels r.1)
    (λ ss. ((so, tt), tt))
    (λ f es is ss. (ss, ((type, ss.0, so), tt)))
    (λ f es apart is ss. ((so, ss), tt))
    (λ f es r apart is later ss. let l = later ss.1 in ((ss.0, l.0), l.1))

abbrev PlacedRising : Name × Term → Entries → Entries × Equations → Type 0
PlacedRising e es r = Rising es → Rising r.0 × ((m : Name) → before m e.0 ≡ true → Ahead m es → Ahead m r.0)

insert_rising : (e : Name × Term) → is_name e.0 ≡ true → (es : Entries) → PlacedRising e es (insert e es)
insert_rising e name = insert_ind e (PlacedRising e)
    (λ rs. ((name, tt, tt), (λ m lt a. lt)))
    (λ f es is rs. (rs, (λ m lt a. a)))
    (λ f es apart is rs. ((name, is, rs), (λ m lt a. lt)))
    (λ f es r apart is later rs. let l = later rs.2 in ((rs.0, l.1 f.0 (before_total e.0 f.0 apart is) rs.1, l.0), (λ m lt a. a)))

abbrev PlacedAgrees : (ℕ → Term) → Context → Name × Term → Entries → Entries × Equations → Type 0
PlacedAgrees ρ Γ e es r =
    (Agrees ρ r.0 Γ → Holds ρ r.1 → (Γ e.0 ≡ Some (fill ρ e.1)) × Agrees ρ es Γ) × (Γ e.0 ≡ Some (fill ρ e.1) → Agrees ρ es Γ → Agrees ρ r.0 Γ × Holds ρ r.1)

insert_agrees : (ρ : ℕ → Term) (Γ : Context) (e : Name × Term) (es : Entries) → PlacedAgrees ρ Γ e es (insert e es)
insert_agrees ρ Γ e = insert_ind e (PlacedAgrees ρ Γ e)
    ((λ a h. (a.0, tt)), (λ g a. ((g, tt), tt)))
    (λ f es is.
    let n : e.0 ≡ f.0 = same_true e.0 f.0 is in (
      (λ a h. (ap Γ n ∙ a.0 ∙ ap Some h.0, a)),
      (λ g a.
          let both : Some (fill ρ f.1) ≡ Some (fill ρ e.1) = sym a.0 ∙ sym (ap Γ n) ∙ g in
          let one : fill ρ f.1 ≡ fill ρ e.1 = cc in
          (a, (one, tt))),
    ))
    (λ f es apart is. ((λ a h. (a.0, a.1)), (λ g a. ((g, a), tt))))
    (λ f es r apart is later. ((λ a h. let l = later.0 a.1 h in (l.0, (a.0, l.1))), (λ g a. let l = later.1 g a.1 in ((a.0, l.0), l.1))))

-- equations one behind the other
pub holds_append : (ρ : ℕ → Term) (es fs : Equations) → Holds ρ es → Holds ρ fs → Holds ρ (es ++ fs)
holds_append ρ [] fs a b = b
holds_append ρ (e ∷ es) fs a b = (a.0, holds_append ρ es fs a.1 b)

pub holds_parts : (ρ : ℕ → Term) (es fs : Equations) → Holds ρ (es ++ fs) → Holds ρ es × Holds ρ fs
holds_parts ρ [] fs h = (tt, h)
holds_parts ρ (e ∷ es) fs h = let r = holds_parts ρ es fs h.1 in ((h.0, r.0), r.1)

pub all_bounded_append : (n : ℕ) (es fs : Equations) → AllBounded n es → AllBounded n fs → AllBounded n (es ++ fs)
all_bounded_append n [] fs a b = b
all_bounded_append n (e ∷ es) fs a b = (a.0, a.1, all_bounded_append n es fs a.2 b)

pub equations_append : (V : ℕ → Sort → Type 0) (labels : ℕ) (es fs : Equations) → EquationsSorted V labels es → EquationsSorted V labels fs → EquationsSorted V labels (es ++ fs)
equations_append V labels [] fs a b = b
equations_append V labels (e ∷ es) fs a b = (a.0, equations_append V labels es fs a.1 b)

-- all entries of one list put into another
pub insert_all_bounded : (n : ℕ) (es fs : Entries) → EntriesBounded n es → EntriesBounded n fs → EntriesBounded n (insert_all es fs).0 × AllBounded n (insert_all es fs).1
insert_all_bounded n [] fs a b = (b, tt)
insert_all_bounded n (e ∷ es) fs a b =
    let r = insert_all_bounded n es fs a.1 b in
    let p = insert_bounded n e a.0 (insert_all es fs).0 r.0 in
    (p.0, all_bounded_append n (insert e (insert_all es fs).0).1 (insert_all es fs).1 p.1 r.1)

pub insert_all_sorted : (V : ℕ → Sort → Type 0) (labels : ℕ) (es fs : Entries) → Types V labels es → Types V labels fs → Types V labels (insert_all es fs).0 × EquationsSorted V labels (insert_all es fs).1
insert_all_sorted V labels [] fs a b = (b, tt)
insert_all_sorted V labels (e ∷ es) fs a b =
    let r = insert_all_sorted V labels es fs a.1 b in
    let p = insert_sorted V labels e a.0 (insert_all es fs).0 r.0 in
    (p.0, equations_append V labels (insert e (insert_all es fs).0).1 (insert_all es fs).1 p.1 r.1)

pub insert_all_rising : (es fs : Entries) → Rising es → Rising fs → Rising (insert_all es fs).0
insert_all_rising [] fs a b = b
insert_all_rising (e ∷ es) fs a b = (insert_rising e a.0 (insert_all es fs).0 (insert_all_rising es fs a.2 b)).0

pub insert_all_onto : (ρ : ℕ → Term) (Γ : Context) (es fs : Entries) → Agrees ρ (insert_all es fs).0 Γ → Holds ρ (insert_all es fs).1 → Agrees ρ es Γ × Agrees ρ fs Γ
insert_all_onto ρ Γ [] fs a h = (tt, a)
insert_all_onto ρ Γ (e ∷ es) fs a h =
    let hs = holds_parts ρ (insert e (insert_all es fs).0).1 (insert_all es fs).1 h in
    let p = (insert_agrees ρ Γ e (insert_all es fs).0).0 a hs.0 in
    let r = insert_all_onto ρ Γ es fs p.1 hs.1 in
    ((p.0, r.0), r.1)

pub insert_all_back : (ρ : ℕ → Term) (Γ : Context) (es fs : Entries) → Agrees ρ es Γ → Agrees ρ fs Γ → Agrees ρ (insert_all es fs).0 Γ × Holds ρ (insert_all es fs).1
insert_all_back ρ Γ [] fs a b = (b, tt)
insert_all_back ρ Γ (e ∷ es) fs a b =
    let r = insert_all_back ρ Γ es fs a.1 b in
    let p = (insert_agrees ρ Γ e (insert_all es fs).0).1 a.0 r.0 in
    (p.0, holds_append ρ (insert e (insert_all es fs).0).1 (insert_all es fs).1 p.1 r.1)

-- variables of a form lie below its width
each_above : (ks : List ℕ) → Each (λ k. k < above ks) ks
each_above [] = tt
each_above (x ∷ ks) = (omega arith, each_map (λ k. k < above ks) (λ k. k < max (x + 1) (above ks)) (λ k lt. omega (arith, lt)) ks (each_above ks))

pub form_above : (F : Form) → Each (λ k. k < width F) (entry_variables F.entries) × Each (λ k. k < width F) (variables F.result)
form_above F = each_append (λ k. k < width F) (entry_variables F.entries) (variables F.result) (each_above (form_variables F))

pub shift_bounded : (w m : ℕ) (t : Term) → Each (λ k. k < m) (variables t) → Bounded (w + m) (fill (λ k. var (w + k)) t)
shift_bounded w m (var k) each = omega (arith, each.0)
shift_bounded w m (head h) each = tt
shift_bounded w m (f · x) each =
    let r = each_append (λ k. k < m) (variables f) (variables x) each in
    (shift_bounded w m f r.0, shift_bounded w m x r.1)

pub shift_entries_bounded : (w m : ℕ) (es : Entries) → Each (λ k. k < m) (entry_variables es) → EntriesBounded (w + m) (renamed_entries (λ k. var (w + k)) es)
shift_entries_bounded w m [] each = tt
shift_entries_bounded w m (e ∷ es) each =
    let r = each_append (λ k. k < m) (variables e.1) (entry_variables es) each in
    (shift_bounded w m e.1 r.0, shift_entries_bounded w m es r.1)

pub entries_bounded_more : (n m : ℕ) → n ≤ m → (es : Entries) → EntriesBounded n es → EntriesBounded m es
entries_bounded_more n m le [] b = tt
entries_bounded_more n m le (e ∷ es) b = (bounded_more n m le e.1 b.0, entries_bounded_more n m le es b.1)

pub renamed_rising : (ρ : ℕ → Term) (es : Entries) → Rising es → Rising (renamed_entries ρ es)
renamed_rising ρ [] r = tt
renamed_rising ρ (e ∷ []) r = (r.0, tt, tt)
renamed_rising ρ (e ∷ f ∷ es) r = (r.0, r.1, renamed_rising ρ (f ∷ es) r.2)

renamed_agrees : (ρ τ : ℕ → Term) (Γ : Context) (es : Entries) → Agrees (λ k. fill τ (ρ k)) es Γ → Agrees τ (renamed_entries ρ es) Γ
renamed_agrees ρ τ Γ [] a = tt
renamed_agrees ρ τ Γ (e ∷ es) a = (a.0 ∙ ap Some (sym (fill_fill τ ρ e.1)), renamed_agrees ρ τ Γ es a.1)

abbrev pub form_at : List Form → ℕ → Form
form_at Fs j = get_or Fs j hole_form

-- the first variable of child j
abbrev pub offset : ℕ → List Form → ℕ → ℕ
offset w [] j = w
offset w (F ∷ Fs) zero = w
offset w (F ∷ Fs) (suc j) = offset (w + width F) Fs j

-- the values that child j has under those of all
abbrev pub own : {A : Type 0} → (ℕ → A) → ℕ → List Form → ℕ → ℕ → A
own ρ w Fs j k = ρ (offset w Fs j + k)

-- all values, from those of each child and of the variables behind them
abbrev pub splice : {A : Type 0} → ℕ → List Form → (ℕ → ℕ → A) → (ℕ → A) → ℕ → A
splice w [] f rest k = rest k
splice w (F ∷ Fs) f rest k = cond (ltb k (w + width F)) (f 0 (k - w)) (splice (w + width F) Fs (λ j. f (suc j)) rest k)

splice_head : {A : Type 0} (w : ℕ) (F : Form) (Fs : List Form) (f : ℕ → ℕ → A) (rest : ℕ → A) (k : ℕ) → k < width F → splice w (F ∷ Fs) f rest (w + k) ≡ f 0 k
splice_head w F Fs f rest k lt =
    ap (λ b. cond b (f 0 (w + k - w)) (splice (w + width F) Fs (λ j. f (suc j)) rest (w + k))) (lt-ltb (w + k) (w + width F) (omega (arith, lt))) ∙ ap (f 0) (omega arith)

splice_tail : {A : Type 0} (w : ℕ) (F : Form) (Fs : List Form) (f : ℕ → ℕ → A) (rest : ℕ → A) (k : ℕ) → w + width F ≤ k → splice w (F ∷ Fs) f rest k ≡ splice (w + width F) Fs (λ j. f (suc j)) rest k
splice_tail w F Fs f rest k le =
    ap (λ b. cond b (f 0 (k - w)) (splice (w + width F) Fs (λ j. f (suc j)) rest k)) (le-ltb k (w + width F) le)

offset_from : (w : ℕ) (Fs : List Form) (j : ℕ) → w ≤ offset w Fs j
offset_from w [] j = omega arith
offset_from w (F ∷ Fs) zero = omega arith
offset_from w (F ∷ Fs) (suc j) = omega (arith, offset_from (w + width F) Fs j)

pub splice_own : {A : Type 0} (w : ℕ) (Fs : List Form) (f : ℕ → ℕ → A) (rest : ℕ → A) (j : ℕ) → j < length Fs → (k : ℕ) → k < width (form_at Fs j) → own (splice w Fs f rest) w Fs j k ≡ f j k
splice_own w [] f rest j lt k small = absurd (omega arith)
splice_own w (F ∷ Fs) f rest zero lt k small = splice_head w F Fs f rest k small
splice_own w (F ∷ Fs) f rest (suc j) lt k small =
    splice_tail w F Fs f rest (offset (w + width F) Fs j + k) (omega (arith, offset_from (w + width F) Fs j)) ∙ splice_own (w + width F) Fs (λ i. f (suc i)) rest j (omega arith) k small

pub joined_from : (w : ℕ) (Fs : List Form) → w ≤ (joined w Fs).unknowns
joined_from w [] = omega arith
joined_from w (F ∷ Fs) = omega (arith, joined_from (w + width F) Fs)

pub splice_rest : {A : Type 0} (w : ℕ) (Fs : List Form) (f : ℕ → ℕ → A) (rest : ℕ → A) (k : ℕ) → (joined w Fs).unknowns ≤ k → splice w Fs f rest k ≡ rest k
splice_rest w [] f rest k le = refl
splice_rest w (F ∷ Fs) f rest k le =
    splice_tail w F Fs f rest k (omega (arith, joined_from (w + width F) Fs)) ∙ splice_rest (w + width F) Fs (λ i. f (suc i)) rest k le

pub splice_both : {A B : Type 0} (R : A → B → Type 0) (w : ℕ) (Fs : List Form) (f : ℕ → ℕ → A) (rest : ℕ → A) (f' : ℕ → ℕ → B) (rest' : ℕ → B) → ((j k : ℕ) → R (f j k) (f' j k)) → ((k : ℕ) → R (rest k) (rest' k)) → (k : ℕ) → R (splice w Fs f rest k) (splice w Fs f' rest' k)
splice_both R w [] f rest f' rest' each last k = last k
splice_both R w (F ∷ Fs) f rest f' rest' each last k =
    let later = splice_both R (w + width F) Fs (λ j. f (suc j)) rest (λ j. f' (suc j)) rest' (λ j. each (suc j)) last k in
    elim (ltb k (w + width F)) as (λ b. R (cond b (f 0 (k - w)) (splice (w + width F) Fs (λ j. f (suc j)) rest k)) (cond b (f' 0 (k - w)) (splice (w + width F) Fs (λ j. f' (suc j)) rest' k))) [ true ↦ each 0 (k - w) | false ↦ later ]

-- types one by one
abbrev AllTypes : (Term → Type 0) → List Term → Type 0
AllTypes Q [] = Unit {0}
AllTypes Q (t ∷ ts) = Q t × AllTypes Q ts

all_types_at : (Q : Term → Type 0) → Q num → (ts : List Term) → AllTypes Q ts → (j : ℕ) → Q (get_or ts j num)
all_types_at Q none [] all j = none
all_types_at Q none (t ∷ ts) all zero = all.0
all_types_at Q none (t ∷ ts) all (suc j) = all_types_at Q none ts all.1 j

-- the joined forms speak of their own variables
pub record JoinBounded (n : ℕ) (J : Joined) : Type 0 where
  pub entries : EntriesBounded n J.entries
  pub equations : AllBounded n J.equations
  pub types : (j : ℕ) → Bounded n (type_at J j)

joined_bounded_all : (w : ℕ) (Fs : List Form) → EntriesBounded (joined w Fs).unknowns (joined w Fs).entries × AllBounded (joined w Fs).unknowns (joined w Fs).equations × AllTypes (Bounded (joined w Fs).unknowns) (joined w Fs).types
joined_bounded_all w [] = (tt, tt, tt)
joined_bounded_all w (F ∷ Fs) =
    let w₂ = w + width F in
    let r = joined_bounded_all w₂ Fs in
    let n = (joined w₂ Fs).unknowns in
    let le : w + width F ≤ n = joined_from w₂ Fs in
    let mine = entries_bounded_more w₂ n le (shifted w F).entries (shift_entries_bounded w (width F) F.entries (form_above F).0) in
    let both = insert_all_bounded n (shifted w F).entries (joined w₂ Fs).entries mine r.0 in
    (both.0, all_bounded_append n (insert_all (shifted w F).entries (joined w₂ Fs).entries).1 (joined w₂ Fs).equations both.1 r.1, (bounded_more w₂ n le (shifted w F).result (shift_bounded w (width F) F.result (form_above F).1), r.2))

pub joined_bounded : (w : ℕ) (Fs : List Form) → JoinBounded (joined w Fs).unknowns (joined w Fs)
joined_bounded w Fs =
    let r = joined_bounded_all w Fs in
    record { entries = r.0; equations = r.1; types = all_types_at (Bounded (joined w Fs).unknowns) tt (joined w Fs).types r.2 }

-- they are sorted, where the variables of each child have its sorts
pub record JoinSorted (labels : ℕ) (V : ℕ → Sort → Type 0) (J : Joined) : Type 0 where
  pub entries : Types V labels J.entries
  pub equations : EquationsSorted V labels J.equations
  pub types : (j : ℕ) → Sorted V labels [] type (type_at J j)

-- a form as a child: its entries rise and it is sorted
pub record Child (labels : ℕ) (F : Form) : Type 0 where
  pub rising : Rising F.entries
  pub sorts : ℕ → Sort
  pub types : Types (λ k s. sorts k ≡ s) labels F.entries
  pub result : Sorted (λ k s. sorts k ≡ s) labels [] type F.result

joined_sorted_all : (labels w : ℕ) (Fs : List Form) (S : ℕ → Sort) (C : (j : ℕ) → Child labels (form_at Fs j)) → ((j : ℕ) → j < length Fs → (k : ℕ) → k < width (form_at Fs j) → own S w Fs j k ≡ (C j).sorts k) → Types (λ k s. S k ≡ s) labels (joined w Fs).entries × EquationsSorted (λ k s. S k ≡ s) labels (joined w Fs).equations × AllTypes (Sorted (λ k s. S k ≡ s) labels [] type) (joined w Fs).types
joined_sorted_all labels w [] S C is = (tt, tt, tt)
joined_sorted_all labels w (F ∷ Fs) S C is =
    let w₂ = w + width F in
    let V : ℕ → Sort → Type 0 = λ k s. S k ≡ s in
    let r = joined_sorted_all labels w₂ Fs S (λ j. C (suc j)) (λ j lt k small. is (suc j) (omega (arith, lt)) k small) in
    let good : (k : ℕ) (q : Sort) → k < width F → (C 0).sorts k ≡ q → Sorted V labels [] q (var (w + k)) = λ k q lt e. (refl, is 0 (omega arith) k lt ∙ e) in
    let mine = types_fill (λ k s. (C 0).sorts k ≡ s) V (λ k. k < width F) labels (λ k. var (w + k)) good F.entries (form_above F).0 (C 0).types in
    let both = insert_all_sorted V labels (shifted w F).entries (joined w₂ Fs).entries mine r.0 in
    (both.0, equations_append V labels (insert_all (shifted w F).entries (joined w₂ Fs).entries).1 (joined w₂ Fs).equations both.1 r.1, (fill_sorted (λ k s. (C 0).sorts k ≡ s) V (λ k. k < width F) labels (λ k. var (w + k)) good F.result [] type (form_above F).1 (C 0).result, r.2))

pub joined_sorted : (labels w : ℕ) (Fs : List Form) (C : (j : ℕ) → Child labels (form_at Fs j)) (rest : ℕ → Sort) → JoinSorted labels (λ k s. splice w Fs (λ j. (C j).sorts) rest k ≡ s) (joined w Fs)
joined_sorted labels w Fs C rest =
    let S = splice w Fs (λ j. (C j).sorts) rest in
    let r = joined_sorted_all labels w Fs S C (λ j lt k small. splice_own w Fs (λ i. (C i).sorts) rest j lt k small) in
    record { entries = r.0; equations = r.1; types = all_types_at (Sorted (λ k s. S k ≡ s) labels [] type) (refl, refl) (joined w Fs).types r.2 }

pub joined_rising : (labels w : ℕ) (Fs : List Form) → ((j : ℕ) → Child labels (form_at Fs j)) → Rising (joined w Fs).entries
joined_rising labels w [] C = tt
joined_rising labels w (F ∷ Fs) C =
    insert_all_rising (shifted w F).entries (joined (w + width F) Fs).entries (renamed_rising (λ k. var (w + k)) F.entries (C 0).rising) (joined_rising labels (w + width F) Fs (λ j. C (suc j)))

-- what holds of the joined entries holds of those of each child
pub joined_onto : (ρ : ℕ → Term) (Γ : Context) (w : ℕ) (Fs : List Form) → Agrees ρ (joined w Fs).entries Γ → Holds ρ (joined w Fs).equations → (j : ℕ) → j < length Fs → Agrees (own ρ w Fs j) (form_at Fs j).entries Γ
joined_onto ρ Γ w [] a h j lt = absurd (omega arith)
joined_onto ρ Γ w (F ∷ Fs) a h j lt =
    let w₂ = w + width F in
    let hs = holds_parts ρ (insert_all (shifted w F).entries (joined w₂ Fs).entries).1 (joined w₂ Fs).equations h in
    let both = insert_all_onto ρ Γ (shifted w F).entries (joined w₂ Fs).entries a hs.0 in
    by_child j lt (agrees_renamed (λ k. var (w + k)) ρ Γ F.entries both.0) (joined_onto ρ Γ w₂ Fs both.1 hs.1)
  where
    by_child : (i : ℕ) → i < suc (length Fs) → Agrees (λ k. ρ (w + k)) F.entries Γ → ((i' : ℕ) → i' < length Fs → Agrees (own ρ (w + width F) Fs i') (form_at Fs i').entries Γ) → Agrees (own ρ w (F ∷ Fs) i) (form_at (F ∷ Fs) i).entries Γ
    by_child zero less mine later = mine
    by_child (suc i) less mine later = later i (omega arith)

pub joined_back : (ρ : ℕ → Term) (Γ : Context) (w : ℕ) (Fs : List Form) → ((j : ℕ) → j < length Fs → Agrees (own ρ w Fs j) (form_at Fs j).entries Γ) → Agrees ρ (joined w Fs).entries Γ × Holds ρ (joined w Fs).equations
joined_back ρ Γ w [] each = (tt, tt)
joined_back ρ Γ w (F ∷ Fs) each =
    let w₂ = w + width F in
    let r = joined_back ρ Γ w₂ Fs (λ j lt. each (suc j) (omega (arith, lt))) in
    let both = insert_all_back ρ Γ (shifted w F).entries (joined w₂ Fs).entries (renamed_agrees (λ k. var (w + k)) ρ Γ F.entries (each 0 (omega arith))) r.0 in
    (both.0, holds_append ρ (insert_all (shifted w F).entries (joined w₂ Fs).entries).1 (joined w₂ Fs).equations both.1 r.1)

-- the type of each child
pub joined_type : (ρ : ℕ → Term) (w : ℕ) (Fs : List Form) (j : ℕ) → j < length Fs → fill ρ (type_at (joined w Fs) j) ≡ fill (own ρ w Fs j) (form_at Fs j).result
joined_type ρ w [] j lt = absurd (omega arith)
joined_type ρ w (F ∷ Fs) zero lt = fill_fill ρ (λ k. var (w + k)) F.result
joined_type ρ w (F ∷ Fs) (suc j) lt = joined_type ρ (w + width F) Fs j (omega arith)
