use Rattle.std.proofs.Common.{◌≤◌, length, Ok, Err, refl, ◌∙◌, rules}
use Rattle.std.proofs.lemmas.Result.{err_from_is_err_and}
use Rattle.forms.proofs.Tokens.{bytes_each}
use Rattle.typing.specs.Parsing.{read_typing}
use Rattle.type_text.proofs.Admitting.{admitted_refused, admitted_typed, admitted_within, typed_written, written_there}
use Rattle.type_text.proofs.Lengths.{type_text_fits}
use Rattle.type_text.proofs.writer.write_type.Goals as goal

pub returns-in_err-at : goal.returns-in_err-at
returns-in_err-at c =
    let p = err_from_is_err_and c.from_residual.result c.from_residual.ensures.1 in
    let why = admitted_refused (length c.args.out.now) (read_typing 4 c.args.text.now) c.in_err-at.field-0.0 c.in_err-at.ensures in
    record { answer = rw (p.1, p.2, why) (refl, refl); fits = type_text_fits }

pub slice_bounds-new-count : goal.slice_bounds-new-count
slice_bounds-new-count c = (admitted_within _ _ _ (bytes_each _ (λ i. (c.type_inv.text i).fits)) c.in_ok-at.ensures).1

pub slice_bounds-new-start : goal.slice_bounds-new-start
slice_bounds-new-start c =
    let le : c.in_ok-at.at ≤ length c.args.text.now = (admitted_within _ _ _ (bytes_each _ (λ i. (c.type_inv.text i).fits)) c.in_ok-at.ensures).1 in
    search rules

pub returns-in_err-print_type : goal.returns-in_err-print_type
returns-in_err-print_type c =
    let typed = admitted_typed _ _ _ (bytes_each _ (λ i. (c.type_inv.text i).fits)) c.in_ok-at.ensures in
    let within = admitted_within _ _ _ (bytes_each _ (λ i. (c.type_inv.text i).fits)) c.in_ok-at.ensures in
    let printer = c.new-printer.ensures in
    absurd (typed_written _ _ _ typed c.new-printer.result c.print_type.new.self (Err c.in_err-print_type.field-0.0) printer.rest printer.at (rw printer.out within.0) c.in_err-print_type.ensures.text)

pub returns-clause-answer : goal.returns-clause-answer
returns-clause-answer c =
    let typed = admitted_typed _ _ _ (bytes_each _ (λ i. (c.type_inv.text i).fits)) c.in_ok-at.ensures in
    let within = admitted_within _ _ _ (bytes_each _ (λ i. (c.type_inv.text i).fits)) c.in_ok-at.ensures in
    let printer = c.new-printer.ensures in
    let lent = c.in_ok-print_type.ensures.lent ∙ printer.lent in
    written_there _ c.new-printer.result.out.now c.print_type.new.self.out.now _ _ _ printer.out (search rules) (typed_written _ _ _ typed c.new-printer.result c.print_type.new.self (Ok c.in_ok-print_type.field-0) printer.rest printer.at (rw printer.out within.0) c.in_ok-print_type.ensures.text)

pub returns-clause-fits : goal.returns-clause-fits
returns-clause-fits c = type_text_fits
