-- A draft models the entries and equations of the forms that are added to it. Assumes nothing.
use Rattle.std.proofs.Common.{◌≡◌, ℕ, ◌+◌, ◌<◌, ◌≤◌, Bool, true, false, cond, List, [], ◌∷◌, ◌++◌, length, sym, refl, ◌∙◌, subst, ap₂, arith}
use Rattle.std.proofs.lemmas.List.{append_assoc}
use Rattle.typing.specs.Cells.{Graph, Pairs}
use Rattle.typing.specs.Constraints.{Joined, insert, insert_all, joined, shifted, width}
use Rattle.typing.specs.Forms.{Name, Form, same}
use Rattle.typing.specs.Layings.{Laid}
use Rattle.typing.specs.Posing.{Slotted}
use Rattle.typing.specs.Solutions.{Solves, Equal, Tidy, Within}
use Rattle.typing.specs.Solve.{Equations, lay, renamed_entries}
use Rattle.typing.specs.Solved.{Holds, EntriesBounded}
use Rattle.typing.specs.Strings.{before}
use Rattle.typing.specs.Terms.{Term, var, fill}
use Rattle.typing.proofs.Joining.{holds_append, holds_parts, form_above, shift_bounded, shift_entries_bounded, entries_bounded_more, joined_from}
use Rattle.typing.proofs.Laying.{laid_none, laid_more, lay_placed, bounded_more}
use Rattle.inference.specs.Drafts.{State, with_graph, put_slot, add_entries, add_forms, SlotsWithin, Drafts, CellsAre, CellsWithin}
use Rattle.inference.specs.Layouts.{shift}
use Rattle.inference.specs.Slots.{Slot}

within_more : (n m : ℕ) → n ≤ m → (ps : Pairs) → Within n ps → Within m ps
within_more n m le [] w = tt
within_more n m le (p ∷ ps) w = (omega (arith, w.0), omega (arith, w.1), within_more n m le ps w.2)

slots_more : (n m : ℕ) → n ≤ m → (ss : List Slot) → SlotsWithin n ss → SlotsWithin m ss
slots_more n m le [] w = tt
slots_more n m le (s ∷ ss) w = (omega (arith, w.0), slots_more n m le ss w.1)

pub cells_more : (n m : ℕ) → n ≤ m → (cs : List ℕ) → CellsWithin n cs → CellsWithin m cs
cells_more n m le [] w = tt
cells_more n m le (c ∷ cs) w = (omega (arith, w.0), cells_more n m le cs w.1)

-- the graph goes on
pub drafts_grow : (es : List (Name × Term)) (qs : Equations) (S : State) (g : Graph) → Drafts es qs S → Laid S.graph g → Drafts es qs (with_graph S g)
drafts_grow es qs S g d laid =
    record { tidy = laid.tidy; within = within_more _ _ laid.longer S.pairs d.within; inside = slots_more _ _ laid.longer S.slots d.inside; slotted = λ σ solves. d.slotted σ (laid.back σ solves); equal = λ σ solves. d.equal σ (laid.back σ solves); holds = λ σ solves. d.holds σ (laid.back σ solves) }

-- what two ways of taking a place have in common
pub record Alike (σ : ℕ → Term) (here : List Slot × Pairs) (there : List (Name × Term) × Equations) : Type 0 where
  pub slotted : Slotted σ here.0 there.0
  pub equal : Holds σ there.1 → Equal σ here.1
  pub holds : Equal σ here.1 → Holds σ there.1

-- `insert` by its two tests
abbrev pub placed : {A : Type 0} → Bool → Bool → Name × A → Name × A → List (Name × A) → List (Name × A) × List (A × A) → List (Name × A) × List (A × A)
placed a b e f es rest = cond a (f ∷ es, (f.1, e.1) ∷ []) (cond b (e ∷ f ∷ es, []) (f ∷ rest.0, rest.1))

-- a slot takes its place as its entry does
put_alike : (σ : ℕ → Term) (s : Slot) (e : Name × Term) → s.0 ≡ e.0 → σ s.1 ≡ fill σ e.1 → (ss : List Slot) (es : List (Name × Term)) → Slotted σ ss es → Alike σ (insert s ss) (insert e es)
put_alike σ s e name value [] [] slotted = record { slotted = (name, value, tt); equal = λ h. tt; holds = λ h. tt }
put_alike σ s e name value [] (f ∷ es) slotted = absurd slotted
put_alike σ s e name value (z ∷ ss) [] slotted = absurd slotted
put_alike σ s e name value (z ∷ ss) (f ∷ es) slotted =
    let is : same s.0 z.0 ≡ same e.0 f.0 = ap₂ same name slotted.0 in
    let earlier : before s.0 z.0 ≡ before e.0 f.0 = ap₂ before name slotted.0 in
    let there = insert e (f ∷ es) in
    subst (λ a. Alike σ (placed a (before s.0 z.0) s z ss (insert s ss)) there) (sym is)
    (subst (λ b. Alike σ (placed (same e.0 f.0) b s z ss (insert s ss)) there) (sym earlier) (by_tests (same e.0 f.0) (before e.0 f.0) (put_alike σ s e name value ss es slotted.2)))
  where
    by_tests : (a b : Bool) → Alike σ (insert s ss) (insert e es) → Alike σ (placed a b s z ss (insert s ss)) (placed a b e f es (insert e es))
    by_tests true b later =
        record { slotted = slotted; equal = λ h. (slotted.1 ∙ h.0 ∙ sym value, tt); holds = λ q. (sym slotted.1 ∙ q.0 ∙ value, tt) }
    by_tests false true later = record { slotted = (name, value, slotted); equal = λ h. tt; holds = λ q. tt }
    by_tests false false later = record { slotted = (slotted.0, slotted.1, later.slotted); equal = later.equal; holds = later.holds }

equal_append : (σ : ℕ → Term) (ps qs : Pairs) → Equal σ ps → Equal σ qs → Equal σ (ps ++ qs)
equal_append σ [] qs a b = b
equal_append σ (p ∷ ps) qs a b = (a.0, equal_append σ ps qs a.1 b)

equal_parts : (σ : ℕ → Term) (ps qs : Pairs) → Equal σ (ps ++ qs) → Equal σ ps × Equal σ qs
equal_parts σ [] qs q = (tt, q)
equal_parts σ (p ∷ ps) qs q = let r = equal_parts σ ps qs q.1 in ((q.0, r.0), r.1)

-- what is put in stays inside
put_inside : (n : ℕ) (s : Slot) → s.1 < n → (ss : List Slot) → SlotsWithin n ss → SlotsWithin n (insert s ss).0 × Within n (insert s ss).1
put_inside n s lt [] w = ((lt, tt), tt)
put_inside n s lt (z ∷ ss) w = by_tests (same s.0 z.0) (before s.0 z.0) (put_inside n s lt ss w.1)
  where
    by_tests : (a b : Bool) → SlotsWithin n (insert s ss).0 × Within n (insert s ss).1 → SlotsWithin n (placed a b s z ss (insert s ss)).0 × Within n (placed a b s z ss (insert s ss)).1
    by_tests true b later = (w, (w.0, lt, tt))
    by_tests false true later = ((lt, w), tt)
    by_tests false false later = ((w.0, later.0), later.1)

within_append : (n : ℕ) (ps qs : Pairs) → Within n ps → Within n qs → Within n (ps ++ qs)
within_append n [] qs a b = b
within_append n (p ∷ ps) qs a b = (a.0, a.1, within_append n ps qs a.2 b)

pub drafts_put : (es : List (Name × Term)) (qs : Equations) (S : State) (s : Slot) (e : Name × Term) → Drafts es qs S → s.1 < length S.graph → s.0 ≡ e.0 → ((σ : ℕ → Term) → Solves σ S.graph → σ s.1 ≡ fill σ e.1) → Drafts (insert e es).0 ((insert e es).1 ++ qs) (put_slot s S)
drafts_put es qs S s e d lt name value =
    let n = length S.graph in
    let inside = put_inside n s lt S.slots d.inside in
    let alike : (σ : ℕ → Term) → Solves σ S.graph → Alike σ (insert s S.slots) (insert e es) = λ σ solves. put_alike σ s e name (value σ solves) S.slots es (d.slotted σ solves) in
    record { tidy = d.tidy; within = within_append n (insert s S.slots).1 S.pairs inside.1 d.within; inside = inside.0; slotted = λ σ solves. (alike σ solves).slotted; equal = λ σ solves h. let p = holds_parts σ (insert e es).1 qs h in equal_append σ (insert s S.slots).1 S.pairs ((alike σ solves).equal p.0) (d.equal σ solves p.1); holds = λ σ solves q. let p = equal_parts σ (insert s S.slots).1 S.pairs q in holds_append σ (insert e es).1 qs ((alike σ solves).holds p.0) (d.holds σ solves p.1) }

-- entries are added
pub record Added (es : List (Name × Term)) (qs : Equations) (g : Graph) (S : State) : Type 0 where
  pub drafts : Drafts es qs S
  pub laid : Laid g S.graph

pub entries_added : (base : ℕ) (es : List (Name × Term)) (S : State) (fs : List (Name × Term)) (qs : Equations) → Drafts fs qs S → EntriesBounded (length S.graph) (renamed_entries (λ k. var (base + k)) es) → Added (insert_all (renamed_entries (λ k. var (base + k)) es) fs).0 ((insert_all (renamed_entries (λ k. var (base + k)) es) fs).1 ++ qs) S.graph (add_entries base es S)
entries_added base [] S fs qs d b = record { drafts = d; laid = laid_none S.graph d.tidy }
entries_added base (e ∷ es) S fs qs d b =
    let ρ : ℕ → Term = λ k. var (base + k) in
    let t = shift base e.1 in
    let g = (lay t S.graph).0 in
    let p = lay_placed t S.graph d.tidy b.0 in
    let later = entries_added base es (with_graph S g) fs qs (drafts_grow fs qs S g d p.laid) (entries_bounded_more _ _ p.laid.longer (renamed_entries ρ es) b.1) in
    let R = add_entries base es (with_graph S g) in
    let rest = insert_all (renamed_entries ρ es) fs in
    let put = drafts_put rest.0 (rest.1 ++ qs) R (e.0, (lay t S.graph).1) (e.0, t) later.drafts (omega (arith, p.inside, later.laid.longer)) refl (λ σ solves. p.value σ (later.laid.back σ solves)) in
    let one = insert (e.0, t) rest.0 in
    record { drafts = subst (λ qs'. Drafts one.0 qs' (put_slot (e.0, (lay t S.graph).1) R)) (sym (append_assoc one.1 rest.1 qs)) put; laid = laid_more S.graph g R.graph p.laid later.laid }

-- the forms of the children, over the first n cells, which are free
pub record Joins (n : ℕ) (J : Joined) (g : Graph) (S : State) (cs : List ℕ) : Type 0 where
  pub drafts : Drafts J.entries J.equations S
  pub laid : Laid g S.graph
  pub inside : CellsWithin (length S.graph) cs
  pub types : (σ : ℕ → Term) → Solves σ S.graph → CellsAre σ cs J.types

pub forms_joined : (base : ℕ) (Fs : List Form) (g : Graph) → Tidy (length g) g → (joined base Fs).unknowns ≤ length g → Joins (length g) (joined base Fs) g (add_forms base Fs (record { graph = g; slots = []; pairs = [] })).0 (add_forms base Fs (record { graph = g; slots = []; pairs = [] })).1
forms_joined base [] g tidy le =
    record { drafts = record { tidy = tidy; within = tt; inside = tt; slotted = λ σ solves. tt; equal = λ σ solves h. tt; holds = λ σ solves q. tt }; laid = laid_none g tidy; inside = tt; types = λ σ solves. tt }
forms_joined base (F ∷ Fs) g tidy le =
    let w = base + width F in
    let J = joined w Fs in
    let from : w ≤ J.unknowns = joined_from w Fs in
    let later = forms_joined w Fs g tidy le in
    let R = (add_forms w Fs (record { graph = g; slots = []; pairs = [] })).0 in
    let cs = (add_forms w Fs (record { graph = g; slots = []; pairs = [] })).1 in
    let mine = shifted base F in
    let wide : w ≤ length R.graph = omega (arith, from, le, later.laid.longer) in
    let E = add_entries base F.entries R in
    let added = entries_added base F.entries R J.entries J.equations later.drafts (entries_bounded_more w (length R.graph) wide mine.entries (shift_entries_bounded base (width F) F.entries (form_above F).0)) in
    let t = shift base F.result in
    let wider : w ≤ length E.graph = omega (arith, wide, added.laid.longer) in
    let p = lay_placed t E.graph added.drafts.tidy (bounded_more w (length E.graph) wider t (shift_bounded base (width F) F.result (form_above F).1)) in
    let g' = (lay t E.graph).0 in
    let on = laid_more R.graph E.graph g' added.laid p.laid in
    record { drafts = drafts_grow _ _ E g' added.drafts p.laid; laid = laid_more g R.graph g' later.laid on; inside = (p.inside, cells_more _ _ on.longer cs later.inside); types = λ σ solves. (p.value σ solves, later.types σ (on.back σ solves)) }
