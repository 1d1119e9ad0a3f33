-- Texts held by value, and what a writer leaves in a lent buffer. Assumes nothing.
use Rattle.std.specs.Prelude.{◌≡◌, ℕ, ◌<◌, ◌≤◌, Bool, List, ◌++◌, length, take, drop, Err, MatchBool, Result, MatchResult}
use Rattle.syntax.specs.declared.fault.Fault.{Fault}
use Rattle.syntax.specs.declared.fault.Fault.TheVariants.{Misfit, ShortBuffer}
use Rattle.notation.specs.declared.text.Text.{Text}

abbrev pub text_of : Text → List ℕ
text_of t = take t.len t.bytes

-- The text stands at the front of the buffer, which is otherwise as it was, and its length is the
-- answer; or it is too long for the buffer, which is then as it was.
abbrev pub Wrote : List ℕ → List ℕ → List ℕ → Result ℕ Fault → Type 0
Wrote text before after r =
    MatchResult r (λ n. (n ≡ length text) × (length text ≤ length before) × (after ≡ text ++ drop (length text) before))
    (λ fault. (fault ≡ ShortBuffer) × (length before < length text) × (after ≡ before))

-- The same where what is to be written is sound; else it is refused as a misfit, and the buffer is
-- as it was.
abbrev pub WroteIf : Bool → List ℕ → List ℕ → List ℕ → Result ℕ Fault → Type 0
WroteIf sound text before after r = MatchBool sound (Wrote text before after r) ((r ≡ Err Misfit) × (after ≡ before))
