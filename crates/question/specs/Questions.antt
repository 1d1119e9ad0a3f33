-- What a line asks, and the answer to it. Assumes nothing.
use Rattle.std.specs.Prelude.{◌≡◌, ℕ, ◌<◌, ◌≤◌, true, cond, not, ◌&&◌, ◌⊎◌, List, [], ◌∷◌, ◌++◌, map, length, drop, Some, None, codes, MatchBool, Option, Result, MatchResult, ◌≢◌, nat_le}
use Rattle.notation.specs.ArgumentTexts.{field_of}
use Rattle.syntax.specs.Arguments.{fits}
use Rattle.syntax.specs.Faults.{shown}
use Rattle.syntax.specs.Kinds.{word_of}
use Rattle.syntax.specs.declared.argument.Symbol.{Symbol}
use Rattle.syntax.specs.declared.fault.Fault.{Fault}
use Rattle.syntax.specs.declared.fault.Fault.TheVariants.{BadLine, Misfit, ShortBuffer, Unlawful}
use Rattle.reading.specs.NamesRule.{named}
use Rattle.reading.specs.Readings.{Meaning, suits}
use Rattle.question.specs.Fields.{fields, is_dash, is_empty, are_strings}
use Rattle.question.specs.declared.source.Source.{Source}
use Rattle.question.specs.declared.source.Source.TheVariants.{Names}
use Rattle.question.specs.Digits.{hex, unhex}

-- the readings by their words
abbrev pub source_word : Source → List ℕ
source_word Names = codes "names"

abbrev pub meaning_of : Source → Meaning
meaning_of Names = named

-- the longest line
abbrev pub longest : ℕ
longest = 4096

-- the answer to a question that is refused
abbrev pub refused : Fault → List ℕ
refused fault = shown fault

-- the answer for a node over its children's strings: the rule's string, where the strings suit
abbrev pub told : Meaning → Symbol → List (List ℕ) → List ℕ
told m s parts = cond (suits m s parts) (hex (m.rule s parts)) (refused Unlawful)

-- what stands in the field of an argument: nothing, where it is a minus sign
abbrev pub written : List ℕ → Option (List ℕ)
written field = cond (is_dash field) None (Some field)

-- the node that two fields name
pub record Node (word argument : List ℕ) (s : Symbol) : Type 0 where
  pub kind : word_of s.kind ≡ word
  pub field : field_of s.argument ≡ written argument
  pub fit : fits s ≡ true

-- the answer for the node that two fields name; it is refused where they name none
abbrev pub Tells : Meaning → (word argument : List ℕ) → List (List ℕ) → List ℕ → Type 0
Tells m word argument parts text =
    ((s : Symbol) × Node word argument s × (text ≡ told m s parts))
    ⊎ (((s : Symbol) → Node word argument s → ⊥) × (text ≡ refused Misfit))

-- the answer over a reading, where each field is sound
abbrev pub Over : Meaning → (word argument : List ℕ) → List (List ℕ) → List ℕ → Type 0
Over m word argument strings text =
    MatchBool (not (is_empty word) && not (is_empty argument) && are_strings strings)
    (Tells m word argument (map unhex strings) text)
    (text ≡ refused BadLine)

-- the answer to the fields of a line: the reading, the kind, the argument, and the children's strings
abbrev pub Answers : List (List ℕ) → List ℕ → Type 0
Answers [] text = text ≡ refused BadLine
Answers (reading ∷ []) text = text ≡ refused BadLine
Answers (reading ∷ word ∷ []) text = text ≡ refused BadLine
Answers (reading ∷ word ∷ argument ∷ strings) text =
    ((source : Source) × (source_word source ≡ reading) × Over (meaning_of source) word argument strings text)
    ⊎ (((source : Source) → source_word source ≢ reading) × (text ≡ refused BadLine))

-- the answer to a line
abbrev pub Answer : List ℕ → List ℕ → Type 0
Answer line text = MatchBool (nat_le (length line) longest) (Answers (fields line) text) (text ≡ refused BadLine)

-- a buffer that has room for every answer
abbrev pub answer_room : ℕ
answer_room = 2048

-- The answer stands at the front of the buffer, which is otherwise as it was, and its length is what
-- the call gives; a buffer that is too short for some answers is refused, and is as it was.
abbrev pub Answered : List ℕ → List ℕ → List ℕ → Result ℕ Fault → Type 0
Answered line before after r =
    MatchResult r (λ n. (answer_room ≤ length before) × (n ≤ answer_room) × ((text : List ℕ) × Answer line text × (n ≡ length text) × (after ≡ text ++ drop n before)))
    (λ fault. (fault ≡ ShortBuffer) × (length before < answer_room) × (after ≡ before))
