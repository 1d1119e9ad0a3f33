-- What is known of a string whose type is printed. Assumes nothing.
use Rattle.std.proofs.Common.{◌≡◌, ℕ, ◌+◌, ◌-◌, ◌≤◌, Bool, true, false, cond, ltb, List, [], ◌++◌, length, take, drop, Some, None, Ok, Err, Option, Result, MatchResult, sym, refl, ap, ◌∙◌, subst, arith, length-drop}
use Rattle.std.proofs.lemmas.List.{append-nil, take_rest}
use Rattle.std.proofs.lemmas.Bool.{ltb-false}
use Rattle.forms.specs.Outlines.{type_offset}
use Rattle.forms.proofs.Outlining.{form_stands}
use Rattle.syntax.specs.declared.fault.Fault.{Fault}
use Rattle.syntax.specs.declared.fault.Fault.TheVariants.{ShortBuffer}
use Rattle.typing.specs.Forms.{Form}
use Rattle.typing.specs.Heads.{type}
use Rattle.typing.specs.Parsing.{read_typing}
use Rattle.typing.specs.Strings.{Bytes, Good, GoodStatus, Typing, Status, formed, clashed, overlong, term_bytes}
use Rattle.typing.specs.Terms.{Term}
use Rattle.typing.proofs.StringsRead.{typing_read}
use Rattle.typing.proofs.TermReading.{term_long}
use Rattle.type_text.specs.Prints.{admitted, status_at, typing_at, Room, Shown, Spelt}
use Rattle.type_text.specs.TypeTexts.{answer_text, status_text, typing_text, type_text, WritesText}
use Rattle.type_text.specs.declared.print.Printer.{Printer}
use Rattle.type_text.proofs.Growing.{grew_whole}
use Rattle.type_text.proofs.Lengths.{result_long, result_spelt, type_text_fits}

-- a lawful string that has a form, and where its type begins
pub record Typed (text : List ℕ) (at : ℕ) (answer : Result (List ℕ) Fault) : Type 0 where
  pub form : Form
  pub good : Good 4 form
  pub stands : drop at text ≡ term_bytes form.result
  pub answered : answer ≡ Ok (type_text form.result)

status_typed : (text : List ℕ) (T : Typing) (s : Status) (at : ℕ) → Bytes text → read_typing 4 text ≡ Some T → T.status ≡ s → Ok at ≡ status_at T s → Typed text at (status_text s)
status_typed text T (formed F) at bytes is of e =
    let good : Good 4 F = subst (GoodStatus 4) of (typing_read 4 text T bytes is).0.status in
    let here : at ≡ type_offset T F = cc in
    record { form = F; good = good; stands = ap (λ n. drop n text) here ∙ (form_stands text T F bytes is of).1; answered = refl }
status_typed text T clashed at bytes is of e = absurd (let z : ◌≡◌ {A = ℕ} 0 1 = cc in omega (arith, z))
status_typed text T overlong at bytes is of e = absurd (let z : ◌≡◌ {A = ℕ} 0 1 = cc in omega (arith, z))

typing_typed : (text : List ℕ) (o : Option Typing) (at : ℕ) → Bytes text → read_typing 4 text ≡ o → Ok at ≡ typing_at o → Typed text at (typing_text o)
typing_typed text None at bytes is e = absurd (let z : ◌≡◌ {A = ℕ} 0 1 = cc in omega (arith, z))
typing_typed text (Some T) at bytes is e = status_typed text T T.status at bytes is refl e

pub admitted_typed : (text : List ℕ) (room at : ℕ) → Bytes text → Ok at ≡ admitted room (read_typing 4 text) → Typed text at (answer_text room (read_typing 4 text))
admitted_typed text room at bytes e = by_room (ltb room 4000) e
  where
    by_room : (b : Bool) → Ok at ≡ cond b (Err ShortBuffer) (typing_at (read_typing 4 text)) → Typed text at (cond b (Err ShortBuffer) (typing_text (read_typing 4 text)))
    by_room true e' = absurd (let z : ◌≡◌ {A = ℕ} 0 1 = cc in omega (arith, z))
    by_room false e' = typing_typed text (read_typing 4 text) at bytes refl e'

-- what is refused is refused for the same reason
status_refused : (T : Typing) (s : Status) (fault : Fault) → Err fault ≡ status_at T s → status_text s ≡ Err fault
status_refused T (formed F) fault e = absurd (let z : ◌≡◌ {A = ℕ} 0 1 = cc in omega (arith, z))
status_refused T clashed fault e = cc
status_refused T overlong fault e = cc

typing_refused : (o : Option Typing) (fault : Fault) → Err fault ≡ typing_at o → typing_text o ≡ Err fault
typing_refused None fault e = cc
typing_refused (Some T) fault e = status_refused T T.status fault e

pub admitted_refused : (room : ℕ) (o : Option Typing) (fault : Fault) → Err fault ≡ admitted room o → answer_text room o ≡ Err fault
admitted_refused room o fault e = by_room (ltb room 4000) e
  where
    by_room : (b : Bool) → Err fault ≡ cond b (Err ShortBuffer) (typing_at o) → cond b (Err ShortBuffer) (typing_text o) ≡ Err fault
    by_room true e' = cc
    by_room false e' = typing_refused o fault e'

-- the type that is found stands within the string, and is short
pub admitted_within : (text : List ℕ) (room at : ℕ) → Bytes text → Ok at ≡ admitted room (read_typing 4 text) → (4000 ≤ room) × (at ≤ length text) × (length text ≤ at + 240)
admitted_within text room at bytes e =
    let typed = admitted_typed text room at bytes e in
    let left = sym (length-drop at text) ∙ ap length typed.stands in
    (by_room (ltb room 4000) refl e, omega (arith, left, term_long typed.form.result), omega (arith, left, result_long typed.form typed.good))
  where
    by_room : (b : Bool) → ltb room 4000 ≡ b → Ok at ≡ cond b (Err ShortBuffer) (typing_at (read_typing 4 text)) → 4000 ≤ room
    by_room true is e' = absurd (let z : ◌≡◌ {A = ℕ} 0 1 = cc in omega (arith, z))
    by_room false is e' = ltb-false room 4000 is

-- the printer is given what stands behind the place
module _ (text : List ℕ) (at : ℕ) (answer : Result (List ℕ) Fault) (typed : Typed text at answer) where
  part_is : take (length text - at) (drop at text) ≡ term_bytes typed.form.result ++ []
  part_is = take_rest text at ∙ typed.stands ∙ sym (append-nil (term_bytes typed.form.result))

  -- what is printed is the answer
  pub typed_written : (p p' : Printer) (r : Result (Unit {0}) Fault) → p.rest.now ≡ take (length text - at) (drop at text) → p.at ≡ 0 → 4000 ≤ length p.out.now → ((t : Term) (rest : List ℕ) → Spelt type t → p.rest.now ≡ term_bytes t ++ rest → Room (type_text t) p → Shown (type_text t) rest p p' r) → MatchResult r (λ _. WritesText answer p.out.now p'.out.now (Ok p'.at)) (λ _. ⊥)
  typed_written p p' r is start large shown =
      let t = typed.form.result in
      answered r (shown t [] (result_spelt typed.form typed.good) (is ∙ part_is) (omega (arith, start, large, type_text_fits typed.form typed.good)))
    where
      answered : (r' : Result (Unit {0}) Fault) → Shown (type_text typed.form.result) [] p p' r' → MatchResult r' (λ _. WritesText answer p.out.now p'.out.now (Ok p'.at)) (λ _. ⊥)
      answered (Ok u) s =
          let whole = grew_whole (type_text typed.form.result) p p' start s.1 in
          subst (λ (a : Result (List ℕ) Fault). WritesText a p.out.now p'.out.now (Ok p'.at)) (sym typed.answered) (ap Ok whole.0, whole.1)
      answered (Err fault) s = s

-- what a loan ends with is what is found there
pub written_there : (answer : Result (List ℕ) Fault) (before held before' held' : List ℕ) (r : Result ℕ Fault) → before ≡ before' → held' ≡ held → WritesText answer before held r → WritesText answer before' held' r
written_there answer before held before' held' r from to written = subst (λ b. WritesText answer b held' r) from (subst (λ h. WritesText answer before h r) (sym to) written)
