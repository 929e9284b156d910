use Rattle.std.proofs.Common.{rules}
use Rattle.njh_block.specs.ItemViews.{outgoing_item}
use Rattle.njh_encode.proofs.FrameLaws.{block_reads, is_written}
use Rattle.njh_encode.proofs.putting.put_block.Goals as goal

pub returns-clause-reads : goal.returns-clause-reads
returns-clause-reads c =
    block_reads c.args.bcb (outgoing_item c.args.out) (search rules) (is_written c.args.out c.requires)
    (rw (c.text.ensures.text, c.add.ensures, c.new-writer.ensures) at c.text.ensures.longest)
