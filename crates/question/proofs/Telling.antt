-- What a question to a reading comes to where only its strings can be at fault. Assumes nothing.
use Rattle.std.proofs.Common.{◌≡◌, ℕ, ◌<◌, ◌≤◌, Bool, true, false, cond, List, length, take, drop, Some, None, Ok, Err, Result, sym, refl, ap, ◌∙◌, arith, MatchResult}
use Rattle.std.proofs.lemmas.List.{take_at}
use Rattle.std.proofs.lemmas.Bool.{lt-ltb, le-leb}
use Rattle.syntax.specs.Arguments.{fits}
use Rattle.syntax.specs.declared.argument.Symbol.{Symbol}
use Rattle.syntax.specs.declared.fault.Fault.{Fault}
use Rattle.syntax.specs.declared.fault.Fault.TheVariants.{Unlawful}
use Rattle.reading.specs.Readings.{Meaning, Sound, Asked, suits, refusal, meter_end}
use Rattle.question.specs.Questions.{meaning_of}
use Rattle.question.specs.declared.source.Source.{Source}
use Rattle.question.specs.declared.source.Source.TheVariants.{Names}
use Rattle.reading.specs.NamesRule.{named}

granted : (b : Bool) → cond b None (Some Unlawful) ≡ None → b ≡ true
granted true h = refl
granted false h = let z : ◌≡◌ {A = ℕ} 0 1 = cc in absurd (omega arith)

refused_for : (b : Bool) (fault : Fault) → cond b None (Some Unlawful) ≡ Some fault → (fault ≡ Unlawful) × (b ≡ false)
refused_for true fault h = let z : ◌≡◌ {A = ℕ} 0 1 = cc in absurd (omega arith)
refused_for false fault h = (cc, refl)

abbrev pub Told : Meaning → Symbol → List (List ℕ) → List ℕ → Result ℕ Fault → Type 0
Told m s parts after r =
    MatchResult r (λ n. (suits m s parts ≡ true) × (n ≤ 1024) × (take n after ≡ m.rule s parts)) (λ fault. (fault ≡ Unlawful) × (suits m s parts ≡ false))

module _ {S : Type 0} (means : S → Meaning) (meter : S → ℕ) (x y : S) (s : Symbol) (parts : List (List ℕ)) (before after : List ℕ) (sound : Sound (means x)) (fit : fits s ≡ true) (some : meter x < meter_end) (room : (means x).bound ≤ length before) where
  by_parts : refusal (means x) (meter x) s parts (length before) ≡ cond (suits (means x) s parts) None (Some Unlawful)
  by_parts = rw (fit, lt-ltb _ _ some, le-leb _ _ room)

  pub asked_told : (r : Result ℕ Fault) → Asked means meter x y s parts before after r → Told (means x) s parts after r
  asked_told (Ok n) asked =
      let suit = granted (suits (means x) s parts) (sym by_parts ∙ asked.free) in
      let within = sound.within ((means x).rule s parts) (sound.closed s parts fit suit) in (
        suit,
        omega (arith, within, asked.long, sound.high),
        ap (take n) asked.wrote ∙ take_at ((means x).rule s parts) (drop n before) n (sym asked.long),
      )
  asked_told (Err fault) asked = refused_for (suits (means x) s parts) fault (sym by_parts ∙ asked.why)

-- the names reading is the only one
pub for_source : (source : Source) (s : Symbol) (parts : List (List ℕ)) (after : List ℕ) (r : Result ℕ Fault) → Told named s parts after r → Told (meaning_of source) s parts after r
for_source Names s parts after r told = told
