-- The rule over strings is the rule over typings. Assumes nothing.
use Rattle.std.proofs.Common.{◌≡◌, ℕ, List, [], ◌∷◌, map, length, sym, refl, ap, ◌∙◌, ap₂, arith}
use lib.ListN.{length-map}
use Rattle.syntax.specs.Kinds.{arity}
use Rattle.syntax.specs.Trees.{none, grow}
use Rattle.typing.specs.Judgements.{GoodTypings, pairs_of}
use Rattle.typing.specs.Parsing.{read_typing}
use Rattle.typing.specs.Rules.{Rule}
use Rattle.typing.specs.StringRules.{AllLawful, RuleOfStrings, RuleIsLawful, StringsSpellTypings}
use Rattle.typing.specs.Strings.{Typing, typing_bytes}
use Rattle.typing.specs.Typings.{node_typing, node_status, typings, typing_or, rule}
use Rattle.typing.proofs.NodeRule.{rule_is_the_rules}
use Rattle.typing.proofs.StringReading.{typing_spelled}
use Rattle.typing.proofs.TreeRule.{good_status, good_typings}

read_all : (labels : ℕ) (Ts : List Typing) → GoodTypings labels Ts → map (λ s. typing_or (read_typing labels s)) (map typing_bytes Ts) ≡ Ts
read_all labels [] good = refl
read_all labels (T ∷ Ts) good = ap₂ ◌∷◌ (ap typing_or (typing_spelled labels T good.0)) (read_all labels Ts good.1)

pub rule_of_strings : RuleOfStrings
rule_of_strings labels s Ts good = ap (λ Us. typing_bytes (node_typing labels s.kind s.argument Us)) (read_all labels Ts good)

-- the typings that lawful strings spell
spelled : (labels : ℕ) (ss : List (List ℕ)) → AllLawful labels ss → (Ts : List Typing) × GoodTypings labels Ts × (ss ≡ map typing_bytes Ts)
spelled labels [] lawful = ([], tt, refl)
spelled labels (s ∷ ss) lawful =
    let r = spelled labels ss lawful.1 in
    (lawful.0.typing ∷ r.0, (lawful.0.good, r.1), ap₂ ◌∷◌ lawful.0.spelled r.2)

pub rule_is_lawful : RuleIsLawful
rule_is_lawful labels s ss big fit len lawful =
    let r = spelled labels ss lawful in
    let Ts = r.0 in
    let long : length Ts ≡ arity s.kind = sym (length-map Ts typing_bytes) ∙ ap length (sym r.2) ∙ len in
    let judged = rule_is_the_rules labels s Ts big fit long r.1 in
    record { typing = node_typing labels s.kind s.argument Ts; good = record { clashes = omega arith; overlongs = omega arith; holes = omega arith; status = good_status labels (Rule labels s.kind s.argument (pairs_of labels Ts)) (node_status labels s.kind s.argument Ts) judged }; spelled = ap (rule labels s.kind s.argument) r.2 ∙ rule_of_strings labels s Ts r.1 }

pub strings_spell_typings : StringsSpellTypings
strings_spell_typings labels none big well = refl
strings_spell_typings labels (grow s c f) big well =
    let below = strings_spell_typings labels c big well.2 in
    ap₂ ◌∷◌ (ap (rule labels s.kind s.argument) below ∙ rule_of_strings labels s (typings labels c) (good_typings labels big c well.2)) (strings_spell_typings labels f big well.3)
