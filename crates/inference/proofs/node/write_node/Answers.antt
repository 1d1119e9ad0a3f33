use Rattle.inference.proofs.LawfulNodes.{lawful_node}
use Rattle.inference.proofs.node.write_node.Goals as goal

pub write_lawful-requires : goal.write_lawful-requires
write_lawful-requires c =
    let l = lawful_node 0 _ _ _ c.in_ok-admit.ensures in
    record { lawful = l.0; room = l.1 }
