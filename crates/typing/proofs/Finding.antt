-- Following links: the cell that is found is no link, and every solution has the same term there.
-- Assumes nothing.
use Rattle.std.proofs.Common.{◌≡◌, ℕ, zero, suc, ◌<◌, ◌≤◌, ◌⊎◌, length, set, sym, refl, ap, ◌∙◌, subst, inl, inr, arith, length-set}
use Rattle.std.proofs.lemmas.List.{get_or-set_same, get_or-set_other, set_past}
use Rattle.std.proofs.lemmas.Bool.{cases_lt, cases_eq}
use Rattle.typing.specs.Cells.{Cell, free, link, atom, apply, Graph, cell, hop, chase, find}
use Rattle.typing.specs.Solutions.{Fits, Solves, Proper, Tidy, NotLink}
use Rattle.typing.specs.Terms.{Term}

-- an applied cell's parts are cells of the graph
pub parts_within : (g : Graph) → Tidy (length g) g → (r a b : ℕ) → cell g r ≡ apply a b → (a < length g) × (b < length g)
parts_within g tidy r a b is = subst (Proper (length g) r) is (tidy.proper r)

hop_value : (σ : ℕ → Term) (c : Cell) (i : ℕ) → Fits σ i c → (on : ℕ → ℕ) → ((j : ℕ) → σ (on j) ≡ σ j) → σ (hop c i on) ≡ σ i
hop_value σ free i fits on same = refl
hop_value σ (link j) i fits on same = same j ∙ sym fits
hop_value σ (atom h) i fits on same = refl
hop_value σ (apply a b) i fits on same = refl

chase_value : (σ : ℕ → Term) (g : Graph) → Solves σ g → (f i : ℕ) → σ (chase f g i) ≡ σ i
chase_value σ g solves zero i = refl
chase_value σ g solves (suc f) i = hop_value σ (cell g i) i (solves i) (chase f g) (chase_value σ g solves f)

pub find_value : (σ : ℕ → Term) (g : Graph) → Solves σ g → (i : ℕ) → σ (find g i) ≡ σ i
find_value σ g solves i = chase_value σ g solves i i

-- a proper cell with the smallest number is no link
first_free : (n i : ℕ) (c : Cell) → Proper n i c → i ≤ 0 → NotLink c
first_free n i free p le = tt
first_free n i (link j) p le = omega arith
first_free n i (atom h) p le = tt
first_free n i (apply a b) p le = tt

hop_root : (n : ℕ) (g : Graph) (c : Cell) (i : ℕ) → cell g i ≡ c → Proper n i c → (on : ℕ → ℕ) → ((j : ℕ) → j < i → NotLink (cell g (on j))) → NotLink (cell g (hop c i on))
hop_root n g free i is p on found = subst NotLink (sym is) tt
hop_root n g (link j) i is p on found = found j p
hop_root n g (atom h) i is p on found = subst NotLink (sym is) tt
hop_root n g (apply a b) i is p on found = subst NotLink (sym is) tt

chase_root : (n : ℕ) (g : Graph) → Tidy n g → (f i : ℕ) → i ≤ f → NotLink (cell g (chase f g i))
chase_root n g tidy zero i le = first_free n i (cell g i) (tidy.proper i) le
chase_root n g tidy (suc f) i le =
    hop_root n g (cell g i) i refl (tidy.proper i) (chase f g) (λ j less. chase_root n g tidy f j (omega arith))

pub find_root : (n : ℕ) (g : Graph) → Tidy n g → (i : ℕ) → NotLink (cell g (find g i))
find_root n g tidy i = chase_root n g tidy i i (omega arith)

hop_down : (n : ℕ) (c : Cell) (i : ℕ) → Proper n i c → (on : ℕ → ℕ) → ((j : ℕ) → on j ≤ j) → hop c i on ≤ i
hop_down n free i p on down = omega arith
hop_down n (link j) i p on down = omega (arith, down j, p)
hop_down n (atom h) i p on down = omega arith
hop_down n (apply a b) i p on down = omega arith

chase_down : (n : ℕ) (g : Graph) → Tidy n g → (f i : ℕ) → chase f g i ≤ i
chase_down n g tidy zero i = omega arith
chase_down n g tidy (suc f) i = hop_down n (cell g i) i (tidy.proper i) (chase f g) (chase_down n g tidy f)

pub find_down : (n : ℕ) (g : Graph) → Tidy n g → (i : ℕ) → find g i ≤ i
find_down n g tidy i = chase_down n g tidy i i

-- a cell that is no link is found at once
hop_stays : (c : Cell) (i : ℕ) → NotLink c → (on : ℕ → ℕ) → hop c i on ≡ i
hop_stays free i root on = refl
hop_stays (link j) i root on = absurd root
hop_stays (atom h) i root on = refl
hop_stays (apply a b) i root on = refl

chase_stays : (g : Graph) (f i : ℕ) → NotLink (cell g i) → chase f g i ≡ i
chase_stays g zero i root = refl
chase_stays g (suc f) i root = hop_stays (cell g i) i root (chase f g)

pub find_stays : (g : Graph) (i : ℕ) → NotLink (cell g i) → find g i ≡ i
find_stays g i root = chase_stays g i i root

hop_any : (n : ℕ) (c : Cell) (i : ℕ) → Proper n i c → (on on' : ℕ → ℕ) → ((j : ℕ) → j < i → on j ≡ on' j) → hop c i on ≡ hop c i on'
hop_any n free i p on on' same = refl
hop_any n (link j) i p on on' same = same j p
hop_any n (atom h) i p on on' same = refl
hop_any n (apply a b) i p on on' same = refl

chase_any : (n : ℕ) (g : Graph) → Tidy n g → (f f' i : ℕ) → i ≤ f → i ≤ f' → chase f g i ≡ chase f' g i
chase_any n g tidy zero f' i le le' = sym (chase_stays g f' i (first_free n i (cell g i) (tidy.proper i) le))
chase_any n g tidy (suc f) zero i le le' = chase_stays g (suc f) i (first_free n i (cell g i) (tidy.proper i) le')
chase_any n g tidy (suc f) (suc f') i le le' =
    hop_any n (cell g i) i (tidy.proper i) (chase f g) (chase f' g) (λ j less. chase_any n g tidy f f' j (omega arith) (omega arith))

-- a link and its target have one root
pub find_link : (n : ℕ) (g : Graph) → Tidy n g → (i j : ℕ) → cell g i ≡ link j → find g i ≡ find g j
find_link n g tidy zero j is = absurd (let p : Proper n 0 (link j) = subst (Proper n 0) is (tidy.proper 0) in omega (arith, p))
find_link n g tidy (suc i) j is =
    let p : j < suc i = subst (Proper n (suc i)) is (tidy.proper (suc i)) in
    ap (λ c. hop c (suc i) (chase i g)) is ∙ chase_any n g tidy i j j (omega (arith, p)) (omega arith)

-- what holds of every cell still holds after one is replaced
pub every_set : (P : ℕ → Cell → Type 0) (g : Graph) (k : ℕ) (c : Cell) → ((i : ℕ) → P i (cell g i)) → P k c → (i : ℕ) → P i (cell (set g k c) i)
every_set P g k c all here i = by_place (cases_eq i k) (cases_lt k (length g))
  where
    by_place : (i ≡ k) ⊎ (i ≡ k → ⊥) → (k < length g) ⊎ (length g ≤ k) → P i (cell (set g k c) i)
    by_place (inl e) (inl lt) = subst (λ x. P x (cell (set g k c) x)) (sym e) (subst (P k) (sym (get_or-set_same g k c free lt)) here)
    by_place (inl e) (inr le) = subst (λ h. P i (cell h i)) (sym (set_past g k c le)) (all i)
    by_place (inr ne) at = subst (P i) (sym (get_or-set_other g k i c free ne)) (all i)

pub tidy_set : (n : ℕ) (g : Graph) (k : ℕ) (c : Cell) → Tidy n g → Proper n k c → Tidy n (set g k c)
tidy_set n g k c tidy p = record { long = length-set g k c ∙ tidy.long; proper = every_set (Proper n) g k c tidy.proper p }

-- following one link, and coming to the end of them
pub link_step : (n : ℕ) (g : Graph) → Tidy n g → (i j start : ℕ) → i < n → cell g i ≡ link j → find g i ≡ find g start → (j < n) × (find g j ≡ find g start)
link_step n g tidy i j start inside at same =
    let less : j < i = subst (Proper n i) at (tidy.proper i) in
    (omega (arith, less, inside), sym (find_link n g tidy i j at) ∙ same)
