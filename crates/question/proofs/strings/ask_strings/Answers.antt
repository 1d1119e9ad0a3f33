use Rattle.std.proofs.Common.{◌∷◌, ◌++◌, length, sym, refl, ap, ◌∙◌, subst, arith}
use Rattle.reading.specs.Readings.{Asked}
use Rattle.question.specs.Fields.{fields_in, length_in}
use Rattle.question.specs.Digits.{unhex}
use Rattle.question.proofs.FieldLists.{strings_first}
use Rattle.question.proofs.StringParts.{front_of, back_of, two_strings, three_strings, four_strings, fields_left, fields_none, too_many}
use Rattle.question.proofs.strings.ask_strings.Goals as goal

pub unhex-requires-2 : goal.unhex-requires-2
unhex-requires-2 g c =
    let fs₁ = ap fields_in c.in-Some.is ∙ c.split_field.ensures.value in
    let fs₂ = ap fields_in c.in-Some-rest.is ∙ c.split_field-2.ensures.value in
    record {
      string = (strings_first _ _ _ fs₂ (strings_first _ _ _ fs₁ c.requires.strings).1).0;
      room = omega (arith, c.split_field.ensures.len, c.split_field-2.ensures.len, ap length_in c.in-Some.is, ap length_in c.in-Some-rest.is, c.requires.short, c.unhex.ensures.half, ap length c.new-bytes.ensures);
    }

pub unhex-requires-3 : goal.unhex-requires-3
unhex-requires-3 g c =
    let fs₁ = ap fields_in c.in-Some.is ∙ c.split_field.ensures.value in
    let fs₂ = ap fields_in c.in-Some-rest.is ∙ c.split_field-2.ensures.value in
    let fs₃ = ap fields_in c.in-Some-rest-2.is ∙ c.split_field-3.ensures.value in
    record {
      string = (strings_first _ _ _ fs₃ (strings_first _ _ _ fs₂ (strings_first _ _ _ fs₁ c.requires.strings).1).1).0;
      room = omega (arith, c.split_field.ensures.len, c.split_field-2.ensures.len, c.split_field-3.ensures.len, ap length_in c.in-Some.is, ap length_in c.in-Some-rest.is, ap length_in c.in-Some-rest-2.is, c.requires.short, c.unhex.ensures.half, c.unhex-2.ensures.half, ap length c.new-bytes.ensures);
    }

pub returns-in_default-rest-2 : goal.returns-in_default-rest-2
returns-in_default-rest-2 g c =
    let f₁ = c.split_field.result.0.now in
    let f₂ = c.split_field-2.result.0.now in
    let fs = ap fields_in c.in-Some.is ∙ c.split_field.ensures.value ∙ ap (λ z. f₁ ∷ z) (ap fields_in c.in-Some-rest.is ∙ c.split_field-2.ensures.value ∙ ap (λ z. f₂ ∷ z) (ap fields_in c.in_default-rest-2.is)) in
    let cut = c.split_at.result in
    let is = c.as_slice-in_default-rest-2.ensures.value ∙ c.unhex-2.ensures.items in
    let end = c.len-a.ensures.value in
    let one = c.unhex.ensures.items ∙ ap (λ z. z ++ unhex f₁) c.new-bytes.ensures in
    subst (λ ps. Asked g.R.Reading.means g.R.Reading.metered c.args.reading.now c.ask-in_default-rest-2.new.self c.args.symbol ps c.args.out.now c.ask-in_default-rest-2.new.out c.ask-in_default-rest-2.result)
    (two_strings _ f₁ f₂ _ _ fs
    (front_of _ cut.0.now cut.1.now _ _ _ is end c.split_at.ensures.front ∙ one)
    (back_of _ cut.0.now cut.1.now _ _ _ is end c.split_at.ensures.back))
    c.ask-in_default-rest-2.ensures

pub returns-then-is_some : goal.returns-then-is_some
returns-then-is_some g c =
    let f₁ = c.split_field.result.0.now in
    let f₂ = c.split_field-2.result.0.now in
    let f₃ = c.split_field-3.result.0.now in
    let more = fields_left c.split_field-3.result.1 (sym c.if-is_some.ensures) in
    let fs = ap fields_in c.in-Some.is ∙ c.split_field.ensures.value ∙ ap (λ z. f₁ ∷ z) (ap fields_in c.in-Some-rest.is ∙ c.split_field-2.ensures.value ∙ ap (λ z. f₂ ∷ z) (ap fields_in c.in-Some-rest-2.is ∙ c.split_field-3.ensures.value ∙ ap (λ z. f₃ ∷ z) more.2)) in
    record {
      why = too_many (g.R.Reading.means c.args.reading.now) (g.R.Reading.metered c.args.reading.now) c.args.symbol _ _ c.requires.fit c.requires.some c.requires.room (four_strings _ more.1 f₁ f₂ f₃ more.0 fs);
      kept = refl;
      left = refl;
    }

pub returns : goal.returns
returns g c =
    let f₁ = c.split_field.result.0.now in
    let f₂ = c.split_field-2.result.0.now in
    let f₃ = c.split_field-3.result.0.now in
    let end = fields_none c.split_field-3.result.1 (sym c.if-is_some.ensures) in
    let fs = ap fields_in c.in-Some.is ∙ c.split_field.ensures.value ∙ ap (λ z. f₁ ∷ z) (ap fields_in c.in-Some-rest.is ∙ c.split_field-2.ensures.value ∙ ap (λ z. f₂ ∷ z) (ap fields_in c.in-Some-rest-2.is ∙ c.split_field-3.ensures.value ∙ ap (λ z. f₃ ∷ z) end)) in
    let cut = c.split_at-2.result in
    let is = c.as_slice-2.ensures.value ∙ c.unhex-3.ensures.items in
    let end = c.len-b.ensures.value in
    let two = front_of _ cut.0.now cut.1.now _ _ _ is end c.split_at-2.ensures.front in
    let cut₂ = c.split_at-3.result in
    let is₂ = two ∙ c.unhex-2.ensures.items in
    let end₂ = c.len-a.ensures.value in
    let one = c.unhex.ensures.items ∙ ap (λ z. z ++ unhex f₁) c.new-bytes.ensures in
    subst (λ ps. Asked g.R.Reading.means g.R.Reading.metered c.args.reading.now c.ask-2.new.self c.args.symbol ps c.args.out.now c.ask-2.new.out c.ask-2.result)
    (three_strings _ f₁ f₂ f₃ _ _ _ fs
    (front_of _ cut₂.0.now cut₂.1.now _ _ _ is₂ end₂ c.split_at-3.ensures.front ∙ one)
    (back_of _ cut₂.0.now cut₂.1.now _ _ _ is₂ end₂ c.split_at-3.ensures.back)
    (back_of _ cut.0.now cut.1.now _ _ _ is end c.split_at-2.ensures.back))
    c.ask-2.ensures
