use Rattle.std.proofs.Common.{List, ap, ◌∙◌}
use Rattle.njh_spool.specs.code.Chains.{Chain}
use Rattle.njh_spool.specs.code.ChainedBlocks.{chains_of}
use Rattle.njh_spool.proofs.ChainLaws.{chains_of-empty}
use Rattle.njh_spool.proofs.store.BlockStore.open.Goals as goal

pub returns : goal.returns
returns c =
    ap (λ (chains : List Chain). record { capacity = c.args.capacity; chains = chains })
    (ap (chains_of c.in_ok-blocks.blocks) c.in_ok-chains.ensures ∙ chains_of-empty c.in_ok-blocks.blocks c.args.chains)
