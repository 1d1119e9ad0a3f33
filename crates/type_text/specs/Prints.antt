-- How the printer goes on: what it takes off the bytes, and what it writes behind the text. Assumes nothing.
use Rattle.std.specs.Prelude.{◌≡◌, ℕ, ◌+◌, ◌<◌, ◌≤◌, Bool, true, false, cond, List, [], ◌∷◌, ◌++◌, length, take, drop, IfOk, Some, None, Ok, Err, Option, Result, MatchResult, nat_lt}
use Rattle.forms.specs.Outlines.{type_offset}
use Rattle.layout.specs.Groups.{bound}
use Rattle.syntax.specs.declared.fault.Fault.{Fault}
use Rattle.syntax.specs.declared.fault.Fault.TheVariants.{ShortBuffer, Unlawful}
use Rattle.syntax.specs.declared.label.Label.{Label}
use Rattle.typing.specs.Heads.{Sort, type, place}
use Rattle.typing.specs.Strings.{Typing, Status, formed, clashed, overlong, term_bytes}
use Rattle.typing.specs.Terms.{Term, var, head, ◌·◌, num, fun, rec, absent, present, Sorted}
use Rattle.typing.specs.declared.head.Head.TheVariants.{Num, Fun, Rec, Absent, Present}
use Rattle.typing.specs.declared.head.Token.{Token}
use Rattle.typing.specs.declared.head.Token.TheVariants.{Head as OfHead, Variable}
use Rattle.type_text.specs.TypeTexts.{Part, field_text, over, front, parts, type_text}
use Rattle.type_text.specs.declared.print.Printer.{Printer}

-- a term of this sort whose variables have tokens
abbrev pub Spelt : Sort → Term → Type 0
Spelt s t = Sorted (λ k _. 5 + k < bound 2) 4 [] s t

abbrev pub AllPlaces : List Term → Type 0
AllPlaces [] = Unit {0}
AllPlaces (t ∷ ts) = Spelt place t × AllPlaces ts

abbrev pub parts_of : List Term → List Part
parts_of [] = []
parts_of (t ∷ ts) = (t, over (front t) (parts t)) ∷ parts_of ts

abbrev pub places_bytes : List Term → List ℕ
places_bytes [] = []
places_bytes (t ∷ ts) = term_bytes t ++ places_bytes ts

-- what a type is that begins with this token, and what stands behind the token
abbrev pub TypeAt : Token → Term → List ℕ → List ℕ → Type 0
TypeAt (Variable k) t rest behind = (t ≡ var k) × (behind ≡ rest)
TypeAt (OfHead Num) t rest behind = (t ≡ num) × (behind ≡ rest)
TypeAt (OfHead Fun) t rest behind =
    (a : Term) × (b : Term) × (t ≡ fun a b) × Spelt type a × Spelt type b × (behind ≡ term_bytes a ++ (term_bytes b ++ rest))
TypeAt (OfHead Rec) t rest behind =
    (ts : List Term) × (t ≡ rec ts) × AllPlaces ts × (length ts ≡ 4) × (behind ≡ places_bytes ts ++ rest)
TypeAt (OfHead Absent) t rest behind = ⊥
TypeAt (OfHead Present) t rest behind = ⊥

-- the same of a place
abbrev pub PlaceAt : Token → Term → List ℕ → List ℕ → Type 0
PlaceAt (Variable k) t rest behind = (t ≡ var k) × (behind ≡ rest)
PlaceAt (OfHead Num) t rest behind = ⊥
PlaceAt (OfHead Fun) t rest behind = ⊥
PlaceAt (OfHead Rec) t rest behind = ⊥
PlaceAt (OfHead Absent) t rest behind = (t ≡ absent) × (behind ≡ rest)
PlaceAt (OfHead Present) t rest behind = (a : Term) × (t ≡ present a) × Spelt type a × (behind ≡ term_bytes a ++ rest)

-- The token of the term at the front has been taken; or no term stands there.
abbrev pub TookToken : Printer → Printer → Result Token Fault → Type 0
TookToken p p' r =
    MatchResult r (λ token. ((t : Term) (rest : List ℕ) → Spelt type t → p.rest.now ≡ term_bytes t ++ rest → TypeAt token t rest p'.rest.now) × ((t : Term) (rest : List ℕ) → Spelt place t → p.rest.now ≡ term_bytes t ++ rest → PlaceAt token t rest p'.rest.now) × (p'.at ≡ p.at) × (p'.out ≡ p.out) × (length p'.rest.now < length p.rest.now))
    (λ fault. (s : Sort) (t : Term) (rest : List ℕ) → Spelt s t → p.rest.now ≡ term_bytes t ++ rest → ⊥)

-- the buffer has room for a piece
abbrev pub Room : List ℕ → Printer → Type 0
Room piece p = p.at + length piece ≤ length p.out.now

-- The lent buffer has a piece behind the bytes that were written, and is otherwise as it was.
pub record Grew (piece : List ℕ) (p p' : Printer) : Type 0 where
  pub long : p'.at ≡ p.at + length piece
  pub kept : length p'.out.now ≡ length p.out.now
  pub ahead : take p'.at p'.out.now ≡ take p.at p.out.now ++ piece
  pub behind : drop p'.at p'.out.now ≡ drop p'.at p.out.now

-- a piece has been written behind the text; or there was no room for it
abbrev pub Put : List ℕ → Printer → Printer → Result (Unit {0}) Fault → Type 0
Put piece p p' r = MatchResult r (λ _. (p'.rest.now ≡ p.rest.now) × Grew piece p p') (λ _. Room piece p → ⊥)

-- the piece has been written, and these bytes are left to print
abbrev pub Shown : List ℕ → List ℕ → Printer → Printer → Result (Unit {0}) Fault → Type 0
Shown piece rest p p' r = MatchResult r (λ _. (p'.rest.now ≡ rest) × Grew piece p p') (λ _. ⊥)

-- whether a place shows anything
abbrev pub shows : Term → Bool
shows (var k) = true
shows (head h) = false
shows (f · x) = true

-- the text of one field
abbrev pub alone : Label → List ℕ → Term → List ℕ
alone l gap t = field_text l gap t (type_text t) (λ _. [])

-- the field of the place at the front has been written
abbrev pub Fielded : Label → List ℕ → Printer → Printer → Result Bool Fault → Type 0
Fielded l gap p p' r =
    (t : Term) (rest : List ℕ) → Spelt place t → p.rest.now ≡ term_bytes t ++ rest → Room (alone l gap t) p → MatchResult r (λ shown. (shown ≡ shows t) × (p'.rest.now ≡ rest) × Grew (alone l gap t) p p') (λ _. ⊥)

-- fewer bytes are left
abbrev pub Shorter : {A : Type 0} → Printer → Printer → Result A Fault → Type 0
Shorter p p' r = IfOk r (λ _. length p'.rest.now < length p.rest.now)

-- no more bytes are left
abbrev pub NoLonger : Printer → Printer → Result (Unit {0}) Fault → Type 0
NoLonger p p' r = IfOk r (λ _. length p'.rest.now ≤ length p.rest.now)

-- where the type begins, unless it is refused
abbrev pub status_at : Typing → Status → Result ℕ Fault
status_at T (formed F) = Ok (type_offset T F)
status_at T clashed = Err Unlawful
status_at T overlong = Err Unlawful

abbrev pub typing_at : Option Typing → Result ℕ Fault
typing_at None = Err Unlawful
typing_at (Some T) = status_at T T.status

abbrev pub admitted : ℕ → Option Typing → Result ℕ Fault
admitted room o = cond (nat_lt room 4000) (Err ShortBuffer) (typing_at o)
