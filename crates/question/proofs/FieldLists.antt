-- The fields of a line, one after another. Assumes nothing.
use Rattle.std.proofs.Common.{◌≡◌, ℕ, zero, suc, ◌+◌, ◌-◌, ◌<◌, ◌≤◌, true, List, [], ◌∷◌, length, get_or, take, drop, sym, refl, ap, ◌∙◌, suc-le-suc, add-one, arith, Bool, position, None, Some, ◌==◌, ◌⊎◌, inl, inr}
use Rattle.std.proofs.lemmas.List.{take_rest}
use Rattle.std.proofs.lemmas.Bool.{and_parts, cases_lt, eq-eqb, eqb-true, false≢true, lt-ltb, ne_eqb}
use Rattle.std.proofs.lemmas.List.Quantifiers.{position-Some}
use Rattle.std.proofs.lemmas.List.Sums.{fails_before_first}
use Rattle.std.specs.List.{position_or_len}
use Rattle.question.specs.Fields.{fields, before, is_string, are_strings}

-- no space stands before a place
abbrev pub Clear : List ℕ → ℕ → Type 0
Clear text i = (k : ℕ) → k < i → get_or text k 0 ≡ 32 → ⊥

fields_at : (text : List ℕ) (i : ℕ) → i < length text → Clear text i → get_or text i 0 ≡ 32 → fields text ≡ take i text ∷ fields (drop (suc i) text)
fields_at [] i within clear here = absurd (omega arith)
fields_at (b ∷ text) zero within clear here = rw (eq-eqb b 32 here)
fields_at (b ∷ text) (suc i) within clear here =
    let other = ne_eqb b 32 (clear 0 (omega arith)) in
    let rest = fields_at text i (omega arith) (λ k h. clear (suc k) (suc-le-suc h)) here in
    rw other (ap (before b) rest)

pub fields_whole : (text : List ℕ) → Clear text (length text) → fields text ≡ text ∷ []
fields_whole [] clear = refl
fields_whole (b ∷ text) clear =
    let other = ne_eqb b 32 (clear 0 (omega arith)) in
    rw other (ap (before b) (fields_whole text (λ k h. clear (suc k) (suc-le-suc h))))

abbrev pub is_space : ℕ → Bool
is_space b = b == 32

-- the first space ends the first field
pub fields_split : (text : List ℕ) (i : ℕ) → position is_space text ≡ Some i → fields text ≡ take i text ∷ fields (take (length text - (i + 1)) (drop (i + 1) text))
fields_split text i found =
    let (within, here, clear) = position-Some is_space text i 0 found in
    fields_at text i within (λ k h e. false≢true (sym (clear k h) ∙ eq-eqb (get_or text k 0) 32 e)) (eqb-true (get_or text i 0) 32 here)
    ∙ ap (λ z. take i text ∷ fields z) (ap (λ k. drop k text) (sym (add-one i)) ∙ sym (take_rest text (i + 1)))

-- where there is no space, the text is a field
pub fields_one : (text : List ℕ) → position is_space text ≡ None → fields text ≡ text ∷ []
fields_one text none = by_place (cases_lt (position_or_len is_space text) (length text))
  where
    at : ℕ
    at = position_or_len is_space text

    by_place : (at < length text) ⊎ (length text ≤ at) → fields text ≡ text ∷ []
    by_place (inl some) = absurd (let z : ◌≡◌ {A = ℕ} 0 1 = let e : Some at ≡ None = sym (rw (lt-ltb at (length text) some)) ∙ none in cc in omega arith)
    by_place (inr past) = fields_whole text (λ k h e. false≢true (sym (fails_before_first is_space text k 0 (omega arith)) ∙ eq-eqb (get_or text k 0) 32 e))

pub strings_first : (field : List ℕ) (rest fs : List (List ℕ)) → fs ≡ field ∷ rest → are_strings fs ≡ true → (is_string field ≡ true) × (are_strings rest ≡ true)
strings_first field rest fs is all = and_parts (is_string field) (are_strings rest) (sym (ap are_strings is) ∙ all)
