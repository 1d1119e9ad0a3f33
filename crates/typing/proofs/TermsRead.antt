-- What is read as terms is their bytes, and the terms are sorted and numbered. Assumes nothing.
use Rattle.std.proofs.Common.{◌≡◌, ℕ, zero, suc, ◌+◌, ◌-◌, ◌<◌, ◌≤◌, max, Bool, true, false, cond, eqb, ltb, List, [], ◌∷◌, ◌++◌, length, get_or, Some, None, Option, sym, refl, ap, ◌∙◌, subst, ap₂, arith}
use Rattle.std.proofs.lemmas.List.{append_assoc, append-nil, get_or_append_left, get_or_at, get_or_default, length_push}
use Rattle.std.proofs.lemmas.Bool.{ltb-true, eqb-true, both_ways}
use Rattle.layout.specs.Groups.{group}
use Rattle.typing.specs.Heads.{Sort, type, place, result_of, parts_of, token_of, head_of}
use Rattle.typing.specs.Parsing.{and_then, only_if, read_group, same_sort, meet_variable, Read, read_head, read_terms}
use Rattle.typing.specs.Strings.{term_bytes, Numbered, Bytes}
use Rattle.typing.specs.Terms.{Term, var, head, applied, variables, Sorted}
use Rattle.typing.specs.declared.head.Head.{Head}
use Rattle.typing.specs.declared.head.Head.TheVariants.{Num, Fun, Rec, Absent, Present}
use Rattle.typing.proofs.GroupReading.{then_some, if_some, some_is, bytes_rest, group_read}
use Rattle.typing.proofs.Records.{EachSorted, applied_sorted}
use Rattle.typing.proofs.TermReading.{terms_bytes, terms_variables, applied_bytes, applied_variables, reach, reach_append}

pub triple_parts : {A B C : Type 0} (a a' : A) (b b' : B) (c c' : C) → ◌≡◌ {A = Option (A × B × C)} (Some (a, b, c)) (Some (a', b', c')) → (a ≡ a') × (b ≡ b') × (c ≡ c')
triple_parts {A} {B} {C} a a' b b' c c' e =
    let q : ◌≡◌ {A = A × B × C} (a, b, c) (a', b', c') = some_is (a, b, c) (a', b', c') e in
    (ap (λ (p : A × B × C). p.0) q, ap (λ (p : A × B × C). p.1) q, ap (λ (p : A × B × C). p.2) q)

-- one list of sorts goes on from another
abbrev pub Extends : List Sort → List Sort → Type 0
Extends seen final = (more : List Sort) × (final ≡ seen ++ more)

pub extends_trans : (a b c : List Sort) → Extends a b → Extends b c → Extends a c
extends_trans a b c p q = (p.0 ++ q.0, q.1 ∙ ap (λ x. x ++ q.0) p.1 ∙ append_assoc a p.0 q.0)

abbrev pub SortAt : List Sort → ℕ → Sort → Type 0
SortAt final k q = get_or final k type ≡ q

same_sort_true : (s q : Sort) → same_sort s q ≡ true → s ≡ q
same_sort_true type type e = refl
same_sort_true type place e = absurd (both_ways false refl e)
same_sort_true place type e = absurd (both_ways false refl e)
same_sort_true place place e = refl

record Met (s : Sort) (k : ℕ) (seen seen' : List Sort) : Type 0 where
  known : k ≤ length seen
  long : length seen' ≡ max (length seen) (k + 1)
  grows : Extends seen seen'
  sort : (final : List Sort) → Extends seen' final → SortAt final k s

meet_read : (s : Sort) (k : ℕ) (seen seen' : List Sort) → meet_variable s k seen ≡ Some seen' → Met s k seen seen'
meet_read s k seen seen' e = by_place (ltb k (length seen)) refl e
  where
    by_place : (b : Bool) → ltb k (length seen) ≡ b → cond b (only_if (same_sort (get_or seen k s) s) (Some seen)) (only_if (eqb k (length seen)) (Some (seen ++ s ∷ []))) ≡ Some seen' → Met s k seen seen'
    by_place true is e' =
        let r = if_some (same_sort (get_or seen k s) s) (Some seen) seen' e' in
        let same : seen ≡ seen' = some_is seen seen' r.1 in
        let lt : k < length seen = ltb-true k (length seen) is in
        let at : get_or seen k type ≡ s = get_or_default seen k type s lt ∙ same_sort_true (get_or seen k s) s r.0 in
        subst (Met s k seen) same (record { known = omega (arith, lt); long = omega (arith, lt); grows = ([], sym (append-nil seen)); sort = λ final ext. ap (λ x. get_or x k type) ext.1 ∙ get_or_append_left seen ext.0 type k lt ∙ at })
    by_place false is e' =
        let r = if_some (eqb k (length seen)) (Some (seen ++ s ∷ [])) seen' e' in
        let same : seen ++ s ∷ [] ≡ seen' = some_is (seen ++ s ∷ []) seen' r.1 in
        let at : k ≡ length seen = eqb-true k (length seen) r.0 in
        subst (Met s k seen) same (record { known = omega (arith, at); long = omega (arith, at, length_push seen s); grows = (s ∷ [], refl); sort = λ final ext. ap (λ x. get_or x k type) (ext.1 ∙ append_assoc seen (s ∷ []) ext.0) ∙ get_or_at seen s ext.0 type k (sym at) })

head_none : (n : ℕ) → head_of n ≡ None → n ≡ 5 + (n - 5)
head_none zero e = absurd (let z : ◌≡◌ {A = ℕ} 0 1 = cc in omega (arith, z))
head_none (suc zero) e = absurd (let z : ◌≡◌ {A = ℕ} 0 1 = cc in omega (arith, z))
head_none (suc (suc zero)) e = absurd (let z : ◌≡◌ {A = ℕ} 0 1 = cc in omega (arith, z))
head_none (suc (suc (suc zero))) e = absurd (let z : ◌≡◌ {A = ℕ} 0 1 = cc in omega (arith, z))
head_none (suc (suc (suc (suc zero)))) e = absurd (let z : ◌≡◌ {A = ℕ} 0 1 = cc in omega (arith, z))
head_none (suc (suc (suc (suc (suc n))))) e = omega arith

head_some : (n : ℕ) (h : Head) → head_of n ≡ Some h → n ≡ token_of h
head_some zero h e = ap token_of (some_is Num h e)
head_some (suc zero) h e = ap token_of (some_is Fun h e)
head_some (suc (suc zero)) h e = ap token_of (some_is Rec h e)
head_some (suc (suc (suc zero))) h e = ap token_of (some_is Absent h e)
head_some (suc (suc (suc (suc zero)))) h e = ap token_of (some_is Present h e)
head_some (suc (suc (suc (suc (suc n))))) h e = absurd (let z : ◌≡◌ {A = ℕ} 0 1 = cc in omega (arith, z))

-- what was read: its bytes, and the sorts of its variables
pub record Got (labels : ℕ) (ss : List Sort) (seen : List Sort) (bs : List ℕ) (ts : List Term) (seen' : List Sort) (rest : List ℕ) : Type 0 where
  pub spelled : bs ≡ terms_bytes ts ++ rest
  pub grows : Extends seen seen'
  pub numbered : Numbered (length seen) (terms_variables ts)
  pub reached : length seen' ≡ reach (length seen) (terms_variables ts)
  pub sorted : (final : List Sort) → Extends seen' final → EachSorted (SortAt final) labels ss ts

pub record GotOne (labels : ℕ) (s : Sort) (seen : List Sort) (bs : List ℕ) (t : Term) (seen' : List Sort) (rest : List ℕ) : Type 0 where
  pub spelled : bs ≡ term_bytes t ++ rest
  pub grows : Extends seen seen'
  pub numbered : Numbered (length seen) (variables t)
  pub reached : length seen' ≡ reach (length seen) (variables t)
  pub sorted : (final : List Sort) → Extends seen' final → Sorted (SortAt final) labels [] s t

pub numbered_join : (xs : List ℕ) (n : ℕ) (ys : List ℕ) → Numbered n xs → Numbered (reach n xs) ys → Numbered n (xs ++ ys)
numbered_join [] n ys a b = b
numbered_join (x ∷ xs) n ys a b = (a.0, numbered_join xs (max n (x + 1)) ys a.1 b)

module _ (labels : ℕ) where
  abbrev Ih : ℕ → Type 0
  Ih fuel =
      (ss seen : List Sort) (bs : List ℕ) (ts : List Term) (seen' : List Sort) (rest : List ℕ) → Bytes bs → read_terms fuel labels ss seen bs ≡ Some (ts, seen', rest) → Got labels ss seen bs ts seen' rest

  head_read : (fuel : ℕ) → Ih fuel → (token : ℕ) (o : Option Head) → head_of token ≡ o → (s : Sort) (seen : List Sort) (whole bs : List ℕ) (t : Term) (seen' : List Sort) (rest : List ℕ) → Bytes bs → whole ≡ group token ++ bs → read_head labels o token s seen bs (read_terms fuel labels) ≡ Some (t, seen', rest) → GotOne labels s seen whole t seen' rest
  head_read fuel ih token None is s seen whole bs t seen' rest bytes at e =
      let a = then_some (meet_variable s (token - 5) seen) (λ now. Some (var (token - 5), now, bs)) (t, seen', rest) e in
      let p = triple_parts (var (token - 5)) t a.0 seen' bs rest a.2 in
      let met = subst (Met s (token - 5) seen) p.1 (meet_read s (token - 5) seen a.0 a.1) in
      let same : group token ≡ group (5 + (token - 5)) = ap group (head_none token is) in
      subst (λ (u : Term). GotOne labels s seen whole u seen' rest) p.0 (record { spelled = at ∙ ap₂ ◌++◌ same p.2; grows = met.grows; numbered = (met.known, tt); reached = met.long; sorted = λ final ext. (refl, met.sort final ext) })
  head_read fuel ih token (Some h) is s seen whole bs t seen' rest bytes at e =
      let r = if_some (same_sort (result_of h) s) (and_then (read_terms fuel labels (parts_of labels h) seen bs) (λ r. Some (applied (head h) r.0, r.1, r.2))) (t, seen', rest) e in
      let a = then_some (read_terms fuel labels (parts_of labels h) seen bs) (λ r. Some (applied (head h) r.0, r.1, r.2)) (t, seen', rest) r.1 in
      let xs = a.0.0 in
      let p = triple_parts (applied (head h) xs) t a.0.1 seen' a.0.2 rest a.2 in
      let got₀ = ih (parts_of labels h) seen bs xs a.0.1 a.0.2 bytes a.1 in
      let got = subst (λ (z : List ℕ). Got labels (parts_of labels h) seen bs xs seen' z) p.2 (subst (λ (z : List Sort). Got labels (parts_of labels h) seen bs xs z a.0.2) p.1 got₀) in
      let vars = applied_variables (head h) xs in
      subst (λ (u : Term). GotOne labels s seen whole u seen' rest) p.0 (record { spelled = at ∙ ap (λ z. z ++ bs) (ap group (head_some token h is)) ∙ ap (λ z. group (token_of h) ++ z) got.spelled ∙ sym (append_assoc (group (token_of h)) (terms_bytes xs) rest) ∙ ap (λ z. z ++ rest) (sym (applied_bytes (head h) xs)); grows = got.grows; numbered = subst (Numbered (length seen)) (sym vars) got.numbered; reached = got.reached ∙ ap (reach (length seen)) (sym vars); sorted = λ final ext. applied_sorted (SortAt final) labels (parts_of labels h) xs [] s (head h) (sym (append-nil (parts_of labels h)), same_sort_true (result_of h) s r.0) (got.sorted final ext) })

  pub terms_read : (fuel : ℕ) → Ih fuel
  terms_read fuel [] seen bs ts seen' rest bytes e =
      let p = triple_parts [] ts seen seen' bs rest e in
      subst (λ (z : List Term). Got labels [] seen bs z seen' rest) p.0 (record { spelled = p.2; grows = ([], sym p.1 ∙ sym (append-nil seen)); numbered = tt; reached = ap length (sym p.1); sorted = λ final ext. tt })
  terms_read zero (s ∷ ss) seen bs ts seen' rest bytes e = absurd (let z : ◌≡◌ {A = ℕ} 0 1 = cc in omega (arith, z))
  terms_read (suc fuel) (s ∷ ss) seen bs ts seen' rest bytes e =
      let g = then_some (read_group 2 bs) _ (ts, seen', rest) e in
      let token = g.0.0 in
      let behind = g.0.1 in
      let gr = group_read 2 bs token behind bytes g.1 in
      let bytes₁ = bytes_rest (group token) behind (subst Bytes gr.1 bytes) in
      let a = then_some (read_head labels (head_of token) token s seen behind (read_terms fuel labels)) _ (ts, seen', rest) g.2 in
      let t = a.0.0 in
      let one = head_read fuel (terms_read fuel) token (head_of token) refl s seen bs behind t a.0.1 a.0.2 bytes₁ gr.1 a.1 in
      let bytes₂ = bytes_rest (term_bytes t) a.0.2 (subst Bytes one.spelled bytes) in
      let b = then_some (read_terms fuel labels ss a.0.1 a.0.2) _ (ts, seen', rest) a.2 in
      let others = terms_read fuel ss a.0.1 a.0.2 b.0.0 b.0.1 b.0.2 bytes₂ b.1 in
      joined t a.0.1 a.0.2 one b.0.0 b.0.1 b.0.2 others b.2
    where
      joined : (t : Term) (seen₁ : List Sort) (rest₁ : List ℕ) → GotOne labels s seen bs t seen₁ rest₁ → (us : List Term) (seen₂ : List Sort) (rest₂ : List ℕ) → Got labels ss seen₁ rest₁ us seen₂ rest₂ → ◌≡◌ {A = Option (Read (List Term))} (Some (t ∷ us, seen₂, rest₂)) (Some (ts, seen', rest)) → Got labels (s ∷ ss) seen bs ts seen' rest
      joined t seen₁ rest₁ one us seen₂ rest₂ others e₂ =
          let p = triple_parts (t ∷ us) ts seen₂ seen' rest₂ rest e₂ in
          let made : Got labels (s ∷ ss) seen bs (t ∷ us) seen₂ rest₂ = record { spelled = one.spelled ∙ ap (λ z. term_bytes t ++ z) others.spelled ∙ sym (append_assoc (term_bytes t) (terms_bytes us) rest₂); grows = extends_trans seen seen₁ seen₂ one.grows others.grows; numbered = numbered_join (variables t) (length seen) (terms_variables us) one.numbered (subst (λ n. Numbered n (terms_variables us)) one.reached others.numbered); reached = others.reached ∙ ap (λ n. reach n (terms_variables us)) one.reached ∙ sym (reach_append (variables t) (length seen) (terms_variables us)); sorted = λ final ext. (one.sorted final (extends_trans seen₁ seen₂ final others.grows ext), others.sorted final ext) } in
          subst (λ (z : List ℕ). Got labels (s ∷ ss) seen bs ts seen' z) p.2 (subst (λ (z : List Sort). Got labels (s ∷ ss) seen bs ts z rest₂) p.1 (subst (λ (z : List Term). Got labels (s ∷ ss) seen bs z seen₂ rest₂) p.0 made))
