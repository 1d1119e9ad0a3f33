use Rattle.forms.proofs.Tokens.{bytes_each, counted}
use Rattle.forms.proofs.number.read_number.Goals as goal

pub returns-clause-read : goal.returns-clause-read
returns-clause-read c =
    rw c.ok_or.ensures.value (counted c.args.bytes.now (bytes_each _ (λ i. (c.type_inv.bytes i).fits)) c.read_group.result c.read_group.ensures _)
