-- The token at the front of a term's bytes says what the term is. Assumes nothing.
use Rattle.std.proofs.Common.{◌≡◌, ℕ, ◌+◌, ◌<◌, ◌⊎◌, List, [], ◌∷◌, ◌++◌, length, sym, refl, ap, ◌∙◌, subst, inl, inr, arith}
use Rattle.std.proofs.lemmas.List.{append_assoc, append-nil}
use Rattle.layout.specs.Groups.{Group, bound, group}
use Rattle.layout.proofs.Groups.{groups_prefix}
use Rattle.typing.specs.Heads.{Sort, type, place, result_of, parts_of, token_of, meaning_of}
use Rattle.typing.specs.Strings.{term_bytes}
use Rattle.typing.specs.Terms.{Term, var, head, ◌·◌, applied, Sorted}
use Rattle.typing.specs.declared.head.Head.{Head}
use Rattle.typing.specs.declared.head.Head.TheVariants.{Num, Fun, Rec, Absent, Present}
use Rattle.typing.specs.declared.head.Token.{Token}
use Rattle.typing.specs.declared.head.Token.TheVariants.{Head as OfHead, Variable}
use Rattle.typing.proofs.Meanings.{head_token, variable_token}
use Rattle.typing.proofs.Records.{EachSorted}
use Rattle.typing.proofs.TermReading.{Made, take_apart, applied_bytes, terms_bytes}
use Rattle.type_text.specs.Prints.{Spelt, AllPlaces, PlaceAt, TypeAt, places_bytes}

abbrev V : ℕ → Sort → Type 0
V k s = 5 + k < bound 2

token_small : (h : Head) → token_of h < bound 2
token_small Num = omega arith
token_small Fun = omega arith
token_small Rec = omega arith
token_small Absent = omega arith
token_small Present = omega arith

-- a term begins with a token
pub first_token : (N : List Sort) (s : Sort) (t : Term) → Sorted (λ k _. 5 + k < bound 2) 4 N s t → (token : ℕ) × (behind : List ℕ) × Group token × (term_bytes t ≡ group token ++ behind)
first_token N s (var k) so = (5 + k, [], so.1, sym (append-nil (group (5 + k))))
first_token N s (head h) so = (token_of h, [], token_small h, sym (append-nil (group (token_of h))))
first_token N s (f · x) so =
    let r = first_token (so.0 ∷ N) s f so.1 in
    (r.0, r.1 ++ term_bytes x, r.2, ap (λ z. z ++ term_bytes x) r.3 ∙ append_assoc (group r.0) r.1 (term_bytes x))

pub no_term : (s : Sort) (bytes : List ℕ) → ((n : ℕ) (rest : List ℕ) → Group n → bytes ≡ group n ++ rest → ⊥) → (t : Term) (rest : List ℕ) → Spelt s t → bytes ≡ term_bytes t ++ rest → ⊥
no_term s bytes none t rest so is =
    let r = first_token [] s t so in
    none r.0 (r.1 ++ rest) r.2 (is ∙ ap (λ z. z ++ rest) r.3 ∙ append_assoc (group r.0) r.1 rest)

four_places : (ts : List Term) → EachSorted V 4 (place ∷ place ∷ place ∷ place ∷ []) ts → AllPlaces ts × (length ts ≡ 4)
four_places [] each = absurd each
four_places (a ∷ []) each = absurd each.1
four_places (a ∷ b ∷ []) each = absurd each.1.1
four_places (a ∷ b ∷ c ∷ []) each = absurd each.1.1.1
four_places (a ∷ b ∷ c ∷ d ∷ []) each = ((each.0, (each.1.0, (each.1.1.0, (each.1.1.1.0, tt)))), refl)
four_places (a ∷ b ∷ c ∷ d ∷ e ∷ ts) each = absurd each.1.1.1.1

two_types : (ts : List Term) → EachSorted V 4 (type ∷ type ∷ []) ts → (a : Term) × (b : Term) × (ts ≡ a ∷ b ∷ []) × Spelt type a × Spelt type b
two_types [] each = absurd each
two_types (a ∷ []) each = absurd each.1
two_types (a ∷ b ∷ []) each = (a, b, refl, each.0, each.1.0)
two_types (a ∷ b ∷ c ∷ ts) each = absurd each.1.1

one_type : (ts : List Term) → EachSorted V 4 (type ∷ []) ts → (a : Term) × (ts ≡ a ∷ []) × Spelt type a
one_type [] each = absurd each
one_type (a ∷ []) each = (a, refl, each.0)
one_type (a ∷ b ∷ ts) each = absurd each.1

no_parts : (ts : List Term) → EachSorted V 4 [] ts → ts ≡ []
no_parts [] each = refl
no_parts (a ∷ ts) each = absurd each

places_bytes_lem : (ts : List Term) → terms_bytes ts ≡ places_bytes ts
places_bytes_lem [] = refl
places_bytes_lem (t ∷ ts) = ap (λ z. term_bytes t ++ z) (places_bytes_lem ts)

-- the token of a term that is made of a head and its parts
token_of_head : (h : Head) (ts : List Term) (rest : List ℕ) (token : ℕ) (behind : List ℕ) → Group token → term_bytes (applied (head h) ts) ++ rest ≡ group token ++ behind → (token ≡ token_of h) × (behind ≡ terms_bytes ts ++ rest)
token_of_head h ts rest token behind small is =
    let split : term_bytes (applied (head h) ts) ++ rest ≡ group (token_of h) ++ (terms_bytes ts ++ rest) = ap (λ z. z ++ rest) (applied_bytes (head h) ts) ∙ append_assoc (group (token_of h)) (terms_bytes ts) rest in
    groups_prefix 2 token (token_of h) behind (terms_bytes ts ++ rest) small (token_small h) (sym is ∙ split)

type_made : (h : Head) (ts : List Term) (rest : List ℕ) → result_of h ≡ type → EachSorted V 4 (parts_of 4 h) ts → TypeAt (OfHead h) (applied (head h) ts) rest (terms_bytes ts ++ rest)
type_made Num ts rest makes each = let none = no_parts ts each in (ap (applied (head Num)) none, ap (λ z. terms_bytes z ++ rest) none)
type_made Fun ts rest makes each =
    let r = two_types ts each in
    let a = r.0 in
    let b = r.1 in
    (a, b, ap (applied (head Fun)) r.2, r.3, r.4, ap (λ z. terms_bytes z ++ rest) r.2 ∙ append_assoc (term_bytes a) (term_bytes b ++ []) rest ∙ ap (λ z. term_bytes a ++ z) (append_assoc (term_bytes b) [] rest))
type_made Rec ts rest makes each = let r = four_places ts each in (ts, refl, r.0, r.1, ap (λ z. z ++ rest) (places_bytes_lem ts))
type_made Absent ts rest makes each = absurd (let z : ◌≡◌ {A = ℕ} 0 1 = cc in omega (arith, z))
type_made Present ts rest makes each = absurd (let z : ◌≡◌ {A = ℕ} 0 1 = cc in omega (arith, z))

place_made : (h : Head) (ts : List Term) (rest : List ℕ) → result_of h ≡ place → EachSorted V 4 (parts_of 4 h) ts → PlaceAt (OfHead h) (applied (head h) ts) rest (terms_bytes ts ++ rest)
place_made Num ts rest makes each = absurd (let z : ◌≡◌ {A = ℕ} 0 1 = cc in omega (arith, z))
place_made Fun ts rest makes each = absurd (let z : ◌≡◌ {A = ℕ} 0 1 = cc in omega (arith, z))
place_made Rec ts rest makes each = absurd (let z : ◌≡◌ {A = ℕ} 0 1 = cc in omega (arith, z))
place_made Absent ts rest makes each = let none = no_parts ts each in (ap (applied (head Absent)) none, ap (λ z. terms_bytes z ++ rest) none)
place_made Present ts rest makes each =
    let r = one_type ts each in
    (r.0, ap (applied (head Present)) r.1, r.2, ap (λ z. terms_bytes z ++ rest) r.1 ∙ append_assoc (term_bytes r.0) [] rest)

-- what holds of a term by its shape holds of it by its token
module _ (P : Token → Term → List ℕ → List ℕ → Type 0) (token : ℕ) (behind : List ℕ) (small : Group token) (t : Term) (rest : List ℕ) (is : term_bytes t ++ rest ≡ group token ++ behind) where
  moved : (token' : ℕ) (m : Token) (t' : Term) (behind' : List ℕ) → token ≡ token' → meaning_of token' ≡ m → t ≡ t' → behind ≡ behind' → P m t' rest behind' → P (meaning_of token) t rest behind
  moved token' m t' behind' et em es eb p =
      subst (λ (x : Token). P x t rest behind) (sym (ap meaning_of et ∙ em)) (subst (λ (u : Term). P m u rest behind) (sym es) (subst (λ (z : List ℕ). P m t' rest z) (sym eb) p))

  by_variable : (k : ℕ) → t ≡ var k → 5 + k < bound 2 → P (Variable k) (var k) rest rest → P (meaning_of token) t rest behind
  by_variable k of fits p =
      let e = groups_prefix 2 token (5 + k) behind rest small fits (sym is ∙ ap (λ (u : Term). term_bytes u ++ rest) of) in
      moved (5 + k) (Variable k) (var k) rest e.0 (variable_token k) of e.1 p

  by_head : (h : Head) (ts : List Term) → t ≡ applied (head h) ts → P (OfHead h) (applied (head h) ts) rest (terms_bytes ts ++ rest) → P (meaning_of token) t rest behind
  by_head h ts of p =
      let e = token_of_head h ts rest token behind small (ap (λ (u : Term). term_bytes u ++ rest) (sym of) ∙ is) in
      moved (token_of h) (OfHead h) (applied (head h) ts) (terms_bytes ts ++ rest) e.0 (head_token h) of e.1 p

module _ (bytes : List ℕ) (token : ℕ) (behind : List ℕ) (read : Group token × (bytes ≡ group token ++ behind)) (t : Term) (rest : List ℕ) (is : bytes ≡ term_bytes t ++ rest) where
  whole : term_bytes t ++ rest ≡ group token ++ behind
  whole = sym is ∙ read.1

  type_at : Spelt type t → TypeAt (meaning_of token) t rest behind
  type_at so = by_shape (take_apart V 4 t [] type so)
    where
      by_shape : ((k : ℕ) × (t ≡ var k) × (◌≡◌ {A = List Sort} [] []) × V k type) ⊎ Made V 4 [] type t → TypeAt (meaning_of token) t rest behind
      by_shape (inl v) = by_variable TypeAt token behind read.0 t rest whole v.0 v.1 v.3 (refl, refl)
      by_shape (inr m) = by_head TypeAt token behind read.0 t rest whole m.top m.parts m.is (type_made m.top m.parts rest m.makes (subst (λ ss. EachSorted V 4 ss m.parts) (sym (m.needs ∙ append-nil m.sorts)) m.each))

  place_at : Spelt place t → PlaceAt (meaning_of token) t rest behind
  place_at so = by_shape (take_apart V 4 t [] place so)
    where
      by_shape : ((k : ℕ) × (t ≡ var k) × (◌≡◌ {A = List Sort} [] []) × V k place) ⊎ Made V 4 [] place t → PlaceAt (meaning_of token) t rest behind
      by_shape (inl v) = by_variable PlaceAt token behind read.0 t rest whole v.0 v.1 v.3 (refl, refl)
      by_shape (inr m) = by_head PlaceAt token behind read.0 t rest whole m.top m.parts m.is (place_made m.top m.parts rest m.makes (subst (λ ss. EachSorted V 4 ss m.parts) (sym (m.needs ∙ append-nil m.sorts)) m.each))

-- the token that was read is that of the term
pub types_by : (bytes : List ℕ) (token : ℕ) (behind : List ℕ) → Group token × (bytes ≡ group token ++ behind) → (m : Token) → m ≡ meaning_of token → (t : Term) (rest : List ℕ) → Spelt type t → bytes ≡ term_bytes t ++ rest → TypeAt m t rest behind
types_by bytes token behind read m means t rest so is = subst (λ (x : Token). TypeAt x t rest behind) (sym means) (type_at bytes token behind read t rest is so)

pub places_by : (bytes : List ℕ) (token : ℕ) (behind : List ℕ) → Group token × (bytes ≡ group token ++ behind) → (m : Token) → m ≡ meaning_of token → (t : Term) (rest : List ℕ) → Spelt place t → bytes ≡ term_bytes t ++ rest → PlaceAt m t rest behind
places_by bytes token behind read m means t rest so is = subst (λ (x : Token). PlaceAt x t rest behind) (sym means) (place_at bytes token behind read t rest is so)
