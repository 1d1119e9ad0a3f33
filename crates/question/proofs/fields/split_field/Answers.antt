use Rattle.std.proofs.Common.{sym}
use Rattle.question.proofs.FieldLists.{fields_one, fields_split}
use Rattle.question.proofs.fields.split_field.Goals as goal

pub returns-in-Some-clause-value : goal.returns-in-Some-clause-value
returns-in-Some-clause-value c = fields_split c.args.text.now c.in-Some.i (sym c.in-Some.ensures)

pub returns-in-None-clause-value : goal.returns-in-None-clause-value
returns-in-None-clause-value c = fields_one c.args.text.now (sym c.in-None.ensures)
