use Rattle.std.proofs.Common.{◌≡◌, Option, eqb, sym, ap, ◌∙◌, rules, tests}
use Rattle.std.specs.Borrow.{Bor}
use Rattle.std.specs.List.{find}
use Rattle.std.specs.Option.{option_map}
use Rattle.std.proofs.lemmas.Iterator.{YieldsList-from_slice}
use Rattle.std.proofs.lemmas.Iterator.Search.{find_from_yields_List}
use Rattle.std.specs.Cmp.Lexicographic.{pointwise}
use Rattle.inference.specs.Slots.{entries_of}
use Rattle.inference.specs.declared.entry.Entry.{Entry}
use Rattle.inference.proofs.Slotting.{cell_or, type_found}
use Rattle.inference.proofs.entries.Entries.cell_of.Goals as goal

pub returns-in-Some : goal.returns-in-Some
returns-in-Some c =
    let name = c.args.name.0 in
    let es = entries_of c.args.self.now in
    let found : option_map (λ (e : Bor Entry). e.now) c.find.result ≡ find (λ (e : Entry). pointwise eqb name e.name.0) es = find_from_yields_List (λ e. pointwise eqb name e.name.0) _ _ c.find.result c.find.ensures.ran (YieldsList-from_slice es cc) (λ x b q k. search (rules, tests)) in
    ap (λ (r : Option (Bor Entry)). cell_or (option_map (λ e. e.now) r) c.args.other) (sym c.in-Some.is) ∙ ap (λ o. cell_or o c.args.other) found ∙ sym (type_found name es c.args.other)

pub returns-in-None : goal.returns-in-None
returns-in-None c =
    let name = c.args.name.0 in
    let es = entries_of c.args.self.now in
    let found : option_map (λ (e : Bor Entry). e.now) c.find.result ≡ find (λ (e : Entry). pointwise eqb name e.name.0) es = find_from_yields_List (λ e. pointwise eqb name e.name.0) _ _ c.find.result c.find.ensures.ran (YieldsList-from_slice es cc) (λ x b q k. search (rules, tests)) in
    ap (λ (r : Option (Bor Entry)). cell_or (option_map (λ e. e.now) r) c.args.other) (sym c.in-None.is) ∙ ap (λ o. cell_or o c.args.other) found ∙ sym (type_found name es c.args.other)
