use Rattle.std.proofs.Common.{ℕ, List, cond, codes, ap, ◌∙◌, sym, Ok, Err, Bor, arith}
use Rattle.syntax.specs.declared.label.Label.TheVariants.{Row}
use Rattle.type_text.specs.TypeTexts.{labels}
use Rattle.type_text.proofs.Printing.{field_printed, fields_room, first_room, function_shown, none_left, present_field, record_shown, variable_field}
use Rattle.type_text.proofs.print.Printer.+prints_type.Goals as goal
use Rattle.type_text.proofs.print.Printer.+prints_type.Goals.{print_record-then-branch, print_record-else-branch}

pub print_record-returns-in_err-put-clause-text : goal.print_record-returns-in_err-put-clause-text
print_record-returns-in_err-put-clause-text m c ts rest all long is room = absurd (c.in_err-put.ensures.text (first_room ts long c.args.self.now room))

pub print_record-returns-in_err-print_field-clause-text : goal.print_record-returns-in_err-print_field-clause-text
print_record-returns-in_err-print_field-clause-text m c ts rest all long is room =
    let opened = c.in_ok-put.ensures.text in
    let fits = fields_room ts long c.args.self.now room c.put.new.self opened.1 in
    let left = c.loop-label.invariant.0 ts rest all long (opened.0 ∙ is) fits in
    absurd (field_printed labels ts c.loop-label.label-index Row _ _ _ _ (omega arith) (omega (arith, long)) left fits c.print_field.new.self (Err c.in_err-print_field.field-0.0) c.in_err-print_field.ensures.text)

pub print_record-loop-label-preserved : goal.print_record-loop-label-preserved
print_record-loop-label-preserved m c = (
  λ ts rest all long is room.
      let left = c.loop-label.invariant.0 ts rest all long is room in
      field_printed labels ts c.loop-label.label-index Row _ _ _ _ (omega arith) (omega (arith, long)) left room c.print_field.new.self (Ok c.in_ok-print_field.field-0) c.in_ok-print_field.ensures.text c.if-branch.gap.now (elim c.if-branch.branch [
        | print_record-then-branch w ↦ ap (λ (b : Bor (List ℕ)). b.now) w.gap-is ∙ ap (λ b. cond b (codes ",") c.loop-label.gap.now) (sym w.if-branch.true)
        | print_record-else-branch w ↦ ap (λ (b : Bor (List ℕ)). b.now) w.gap-is ∙ ap (λ b. cond b (codes ",") c.loop-label.gap.now) (sym w.if-branch.false)
      ]),
  omega (arith, c.in_ok-print_field.ensures.shorter, c.loop-label.invariant.1),
  c.in_ok-print_field.ensures.lent ∙ c.loop-label.invariant.2,
)

pub print_record-returns-clause-text : goal.print_record-returns-clause-text
print_record-returns-clause-text m c ts rest all long is room =
    let opened = c.in_ok-put.ensures.text in
    let fits = fields_room ts long c.args.self.now room c.put.new.self opened.1 in
    let left = c.loop-label.invariant.0 ts rest all long (opened.0 ∙ is) fits in
    record_shown ts long c.args.self.now room c.put.new.self opened.1 rest c.loop-label.self c.put-2.new.self c.put-2.result (none_left labels ts _ _ rest _ _ long c.loop-label-test.false left) c.put-2.ensures.text

pub print_field-returns-in_ok-put_variable-in-Variable-clause-text : goal.print_field-returns-in_ok-put_variable-in-Variable-clause-text
print_field-returns-in_ok-put_variable-in-Variable-clause-text m c t rest so is room =
    let token = c.in_ok-k.ensures.token in
    variable_field t rest c.args.self.now c.token.new.self token.2 token.3 c.args.label c.args.gap.now c.in-Variable.k c.put_label.new.self c.put_variable.new.self (rw c.in-Variable.is at token.1 t rest so is) c.in_ok-put_label-in-Variable.ensures.text c.in_ok-put_variable-in-Variable.ensures.text

pub print_field-returns-in_ok-print_type-in-Head-Present-clause-text : goal.print_field-returns-in_ok-print_type-in-Head-Present-clause-text
print_field-returns-in_ok-print_type-in-Head-Present-clause-text m c t rest so is room =
    let token = c.in_ok-k.ensures.token in
    present_field t rest c.args.self.now c.token.new.self token.2 token.3 c.args.label c.args.gap.now c.put_label-in-Head-Present.new.self c.print_type.new.self (rw (c.in-Head-Present.is, c.in-Head-Present.field-0-is) at token.1 t rest so is) c.in_ok-put_label-in-Head-Present.ensures.text c.in_ok-print_type-in-Head-Present.ensures.text room

pub print_type-returns-in_ok-print_type-in-Head-Fun-2-clause-text : goal.print_type-returns-in_ok-print_type-in-Head-Fun-2-clause-text
print_type-returns-in_ok-print_type-in-Head-Fun-2-clause-text m c t rest so is room =
    let token = c.in_ok-k.ensures.token in
    function_shown t rest c.args.self.now c.token.new.self token.2 token.3 c.put-in-Head-Fun.new.self c.print_type.new.self c.put-in-Head-Fun-2.new.self c.print_type-in-Head-Fun.new.self c.put-in-Head-Fun-3.new.self c.put-in-Head-Fun-3.result (rw (c.in-Head-Fun.is, c.in-Head-Fun.field-0-is) at token.0 t rest so is) c.in_ok-put-in-Head-Fun.ensures.text c.in_ok-print_type-in-Head-Fun.ensures.text c.in_ok-put-in-Head-Fun-2.ensures.text c.in_ok-print_type-in-Head-Fun-2.ensures.text c.put-in-Head-Fun-3.ensures.text room

pub print_record-returns-in_err-print_field-clause-lent : goal.print_record-returns-in_err-print_field-clause-lent
print_record-returns-in_err-print_field-clause-lent m c = c.in_err-print_field.ensures.lent ∙ c.loop-label.invariant.2 ∙ c.in_ok-put.ensures.lent

pub print_record-returns-clause-lent : goal.print_record-returns-clause-lent
print_record-returns-clause-lent m c = c.put-2.ensures.lent ∙ c.loop-label.invariant.2 ∙ c.in_ok-put.ensures.lent
