use Rattle.forms.proofs.Tokens.{bytes_each}
use Rattle.inference.proofs.ChildFacts.{few_variables_read}
use Rattle.inference.proofs.join.read_child.Goals as goal

pub returns : goal.returns
returns c =
    record { value = c.read_typing.ensures; few = few_variables_read _ _ (bytes_each _ (λ i. (c.type_inv.text i).fits)) c.read_typing.ensures }
