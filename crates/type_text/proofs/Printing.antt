-- The fields of a record, printed one after the other. Assumes nothing.
use Rattle.std.proofs.Common.{◌≡◌, ℕ, ◌+◌, ◌<◌, ◌≤◌, Bool, true, cond, List, [], ◌∷◌, ◌++◌, length, get_or, drop, codes, decimal, Ok, Err, Result, MatchResult, sym, refl, ap, ◌∙◌, subst, ap₂, arith, length-append}
use Rattle.std.proofs.lemmas.List.{append_assoc, append-nil, drop_all, drop_more}
use Rattle.syntax.specs.Labels.{label_word}
use Rattle.syntax.specs.declared.label.Label.{Label}
use Rattle.typing.specs.Heads.{type, place}
use Rattle.typing.specs.Strings.{term_bytes}
use Rattle.typing.specs.Terms.{Term, var, head, ◌·◌, num, fun, rec, present}
use Rattle.typing.specs.declared.head.Head.TheVariants.{Fun, Present}
use Rattle.typing.specs.declared.head.Token.TheVariants.{Head as OfHead, Variable}
use Rattle.syntax.specs.declared.fault.Fault.{Fault}
use Rattle.type_text.specs.Prints.{AllPlaces, Fielded, Grew, PlaceAt, Put, Room, Shown, Spelt, TypeAt, alone, parts_of, places_bytes, shows}
use Rattle.type_text.specs.TypeTexts.{field_text, fields_text, labels, type_text}
use Rattle.type_text.specs.declared.print.Printer.{Printer}
use Rattle.type_text.proofs.Growing.{grew_as, grew_none, grew_then, shown_as, shown_put}

-- a field by itself, and then the others
field_apart : (l : Label) (gap : List ℕ) (t : Term) (text : List ℕ) (more : List ℕ → List ℕ) → field_text l gap t text more ≡ field_text l gap t text (λ _. []) ++ more (cond (shows t) (codes ",") gap)
field_apart l gap (var k) text more = sym (simp append_assoc)
field_apart l gap (head h) text more = refl
field_apart l gap (f · x) text more = sym (simp append_assoc)

-- The fields of these labels and places are being printed, and i of them have been: what is left, and what
-- the text comes to with the others.
pub record Left (ls : List Label) (ts : List Term) (i : ℕ) (gap rest : List ℕ) (p₀ p : Printer) : Type 0 where
  pub all : AllPlaces (drop i ts)
  pub bytes : p.rest.now ≡ places_bytes (drop i ts) ++ rest
  pub done : List ℕ
  pub grew : Grew done p₀ p
  pub text : done ++ fields_text (drop i ls) (parts_of (drop i ts)) gap ≡ fields_text ls (parts_of ts) []

pub none_left : (ls : List Label) (ts : List Term) (i : ℕ) (gap rest : List ℕ) (p₀ p : Printer) → length ts ≡ length ls → length ls ≤ i → Left ls ts i gap rest p₀ p → (p.rest.now ≡ rest) × Grew (fields_text ls (parts_of ts) []) p₀ p
none_left ls ts i gap rest p₀ p long past left =
    let no_label : drop i ls ≡ [] = drop_all i ls past in
    let no_place : drop i ts ≡ [] = drop_all i ts (omega (arith, long, past)) in
    (left.bytes ∙ ap (λ us. places_bytes us ++ rest) no_place, grew_as left.done _ p₀ p (sym (append-nil left.done) ∙ ap₂ (λ ks us. left.done ++ fields_text ks (parts_of us) gap) (sym no_label) (sym no_place) ∙ left.text) left.grew)

-- one field, of which there are more
module _ (ls : List Label) (ts : List Term) (i : ℕ) (d : Label) (gap rest : List ℕ) (p₀ p : Printer) (more_labels : i < length ls) (more_places : i < length ts) (left : Left ls ts i gap rest p₀ p) where
  abbrev l : Label
  l = get_or ls i d

  abbrev t : Term
  t = get_or ts i num

  label_is : drop i ls ≡ l ∷ drop (i + 1) ls
  label_is = drop_more ls i d more_labels

  place_is : drop i ts ≡ t ∷ drop (i + 1) ts
  place_is = drop_more ts i num more_places

  more : List ℕ → List ℕ
  more = fields_text (drop (i + 1) ls) (parts_of (drop (i + 1) ts))

  apart : fields_text (drop i ls) (parts_of (drop i ts)) gap ≡ alone l gap t ++ more (cond (shows t) (codes ",") gap)
  unfolding more
  apart = ap₂ (λ ks us. fields_text ks (parts_of us) gap) label_is place_is ∙ field_apart l gap t (type_text t) (fields_text (drop (i + 1) ls) (parts_of (drop (i + 1) ts)))

  next_place : Spelt place t × (p.rest.now ≡ term_bytes t ++ (places_bytes (drop (i + 1) ts) ++ rest))
  next_place =
      let all : AllPlaces (t ∷ drop (i + 1) ts) = subst AllPlaces place_is left.all in
      (all.0, left.bytes ∙ ap (λ us. places_bytes us ++ rest) place_is ∙ append_assoc (term_bytes t) (places_bytes (drop (i + 1) ts)) rest)

  module _ (room : Room (fields_text ls (parts_of ts) []) p₀) (p' : Printer) where
    next_room : Room (alone l gap t) p
    next_room =
        omega (arith, room, left.grew.long, left.grew.kept, ap length left.text, ap length apart, length-append left.done (fields_text (drop i ls) (parts_of (drop i ts)) gap), length-append (alone l gap t) (more (cond (shows t) (codes ",") gap)))

    pub field_printed : (r : Result Bool Fault) → Fielded l gap p p' r → MatchResult r (λ shown. (gap' : List ℕ) → gap' ≡ cond shown (codes ",") gap → Left ls ts (i + 1) gap' rest p₀ p') (λ _. ⊥)
    unfolding more
    field_printed (Err fault) printed = printed t (places_bytes (drop (i + 1) ts) ++ rest) next_place.0 next_place.1 next_room
    field_printed (Ok shown) printed = goes_on (printed t (places_bytes (drop (i + 1) ts) ++ rest) next_place.0 next_place.1 next_room)
      where
        goes_on : (shown ≡ shows t) × (p'.rest.now ≡ places_bytes (drop (i + 1) ts) ++ rest) × Grew (alone l gap t) p p' → (gap' : List ℕ) → gap' ≡ cond shown (codes ",") gap → Left ls ts (i + 1) gap' rest p₀ p'
        goes_on went gap' is =
            let all : AllPlaces (t ∷ drop (i + 1) ts) = subst AllPlaces place_is left.all in
            let gap_is : gap' ≡ cond (shows t) (codes ",") gap = is ∙ ap (λ b. cond b (codes ",") gap) went.0 in
            record {
              all = all.1;
              bytes = went.1;
              done = left.done ++ alone l gap t;
              grew = grew_then left.done (alone l gap t) p₀ p p' left.grew went.2;
              text = ap (λ g. (left.done ++ alone l gap t) ++ fields_text (drop (i + 1) ls) (parts_of (drop (i + 1) ts)) g) gap_is ∙ append_assoc left.done (alone l gap t) _ ∙ ap (λ z. left.done ++ z) (sym apart) ∙ left.text;
            }

record_text : (ts : List Term) → length ts ≡ 4 → codes "{" ++ (fields_text labels (parts_of ts) [] ++ codes "}") ≡ type_text (rec ts)
record_text [] long = absurd (omega (arith, long))
record_text (a ∷ []) long = absurd (omega (arith, long))
record_text (a ∷ b ∷ []) long = absurd (omega (arith, long))
record_text (a ∷ b ∷ c ∷ []) long = absurd (omega (arith, long))
record_text (a ∷ b ∷ c ∷ d ∷ []) long = refl
record_text (a ∷ b ∷ c ∷ d ∷ e ∷ ts) long = absurd (omega (arith, long))

-- a record between its braces
module _ (ts : List Term) (long : length ts ≡ 4) (p : Printer) (room : Room (type_text (rec ts)) p) where
  fields_long : p.at + 1 + length (fields_text labels (parts_of ts) []) + 1 ≤ length p.out.now
  fields_long = omega (arith, room, ap length (record_text ts long), length-append (fields_text labels (parts_of ts) []) (codes "}"))

  pub first_room : Room (codes "{") p
  first_room = omega (arith, fields_long)

  module _ (p₀ : Printer) (opened : Grew (codes "{") p p₀) where
    pub fields_room : Room (fields_text labels (parts_of ts) []) p₀
    fields_room = omega (arith, fields_long, opened.long, opened.kept)

    pub record_shown : (rest : List ℕ) (p₁ p₂ : Printer) (r : Result (Unit {0}) Fault) → (p₁.rest.now ≡ rest) × Grew (fields_text labels (parts_of ts) []) p₀ p₁ → Put (codes "}") p₁ p₂ r → Shown (type_text (rec ts)) rest p p₂ r
    record_shown rest p₁ p₂ r went put =
        let fields = fields_text labels (parts_of ts) [] in
        let whole = record_text ts long in
        shown_as (codes "{" ++ (fields ++ codes "}")) _ rest p p₂ r whole (shown_put (codes "{" ++ fields) (codes "}") rest p p₁ p₂ r (went.0, grew_then (codes "{") fields p p₀ p₁ opened went.1) put (omega (arith, room, ap length whole)))

-- how a type is printed
abbrev pub Typed : Printer → Printer → Type 0
Typed p p' =
    (t : Term) (rest : List ℕ) → Spelt type t → p.rest.now ≡ term_bytes t ++ rest → Room (type_text t) p → (p'.rest.now ≡ rest) × Grew (type_text t) p p'

-- behind a token
module _ (t : Term) (rest : List ℕ) (p q : Printer) (same : q.at ≡ p.at) (held : q.out ≡ p.out) where
  came : Grew [] p q
  came = grew_none p q same held

  -- a function type, up to the mark that closes it
  pub function_shown : (p₁ p₂ p₃ p₄ p₅ : Printer) (r : Result (Unit {0}) Fault) → TypeAt (OfHead Fun) t rest q.rest.now → (p₁.rest.now ≡ q.rest.now) × Grew (codes "(") q p₁ → Typed p₁ p₂ → (p₃.rest.now ≡ p₂.rest.now) × Grew (codes "->") p₂ p₃ → Typed p₃ p₄ → Put (codes ")") p₄ p₅ r → Room (type_text t) p → Shown (type_text t) rest p p₅ r
  function_shown p₁ p₂ p₃ p₄ p₅ r here opened one between two put room =
      let a = here.0 in
      let b = here.1 in
      let is : t ≡ fun a b = here.2 in
      let A = type_text a in
      let B = type_text b in
      let long : length (type_text t) ≡ length A + length B + 4 = omega (arith, ap (λ (u : Term). length (type_text u)) is, length-append A (codes "->" ++ (B ++ codes ")")), length-append B (codes ")")) in
      let from = one a (term_bytes b ++ rest) here.3 (opened.0 ∙ here.5) (omega (arith, room, long, came.long, came.kept, opened.1.long, opened.1.kept)) in
      let to = two b rest here.4 (between.0 ∙ from.0) (omega (arith, room, long, came.long, came.kept, opened.1.long, opened.1.kept, from.1.long, from.1.kept, between.1.long, between.1.kept)) in
      let front : Grew (codes "(" ++ (A ++ (codes "->" ++ B))) p p₄ = grew_then [] _ p q p₄ came (grew_then (codes "(") _ q p₁ p₄ opened.1 (grew_then A _ p₁ p₂ p₄ from.1 (grew_then (codes "->") B p₂ p₃ p₄ between.1 to.1))) in
      let whole : (codes "(" ++ (A ++ (codes "->" ++ B))) ++ codes ")" ≡ type_text t = ap (λ z. codes "(" ++ z) (append_assoc A (codes "->" ++ B) (codes ")")) ∙ ap type_text (sym is) in
      shown_as _ _ rest p p₅ r whole (shown_put _ (codes ")") rest p p₄ p₅ r (to.0, front) put (omega (arith, room, ap length whole)))

  module _ (l : Label) (gap : List ℕ) where
    marked : (mark text : List ℕ) → (gap ++ (label_word l ++ mark)) ++ text ≡ gap ++ (label_word l ++ (mark ++ (text ++ [])))
    marked mark text =
        append_assoc gap (label_word l ++ mark) text ∙ ap (λ z. gap ++ z) (append_assoc (label_word l) mark text ∙ ap (λ z. label_word l ++ (mark ++ z)) (sym (append-nil text)))

    pub variable_field : (k : ℕ) (p₁ p₂ : Printer) → PlaceAt (Variable k) t rest q.rest.now → (p₁.rest.now ≡ q.rest.now) × Grew (gap ++ (label_word l ++ codes "?")) q p₁ → (p₂.rest.now ≡ p₁.rest.now) × Grew (codes "v" ++ decimal k) p₁ p₂ → (true ≡ shows t) × (p₂.rest.now ≡ rest) × Grew (alone l gap t) p p₂
    variable_field k p₁ p₂ here label variable =
        let whole = marked (codes "?") (codes "v" ++ decimal k) ∙ ap (alone l gap) (sym here.0) in
        (ap shows (sym here.0), variable.0 ∙ label.0 ∙ here.1, grew_as _ _ p p₂ whole (grew_then [] _ p q p₂ came (grew_then _ _ q p₁ p₂ label.1 variable.1)))

    pub present_field : (p₁ p₂ : Printer) → PlaceAt (OfHead Present) t rest q.rest.now → (p₁.rest.now ≡ q.rest.now) × Grew (gap ++ (label_word l ++ codes ":")) q p₁ → Typed p₁ p₂ → Room (alone l gap t) p → (true ≡ shows t) × (p₂.rest.now ≡ rest) × Grew (alone l gap t) p p₂
    present_field p₁ p₂ here label one room =
        let a = here.0 in
        let is : t ≡ present a = here.1 in
        let before = gap ++ (label_word l ++ codes ":") in
        let whole : before ++ type_text a ≡ alone l gap t = marked (codes ":") (type_text a) ∙ ap (alone l gap) (sym is) in
        let went = one a rest here.2 (label.0 ∙ here.3) (omega (arith, room, ap length whole, length-append before (type_text a), came.long, came.kept, label.1.long, label.1.kept)) in
        (ap shows (sym is), went.0, grew_as _ _ p p₂ whole (grew_then [] _ p q p₂ came (grew_then before (type_text a) q p₁ p₂ label.1 went.1)))
