use Rattle.njh_spool.specs.code.Chains.{chain_at}
use Rattle.njh_spool.specs.code.Packing.{unpacked_records}
use Rattle.njh_spool.proofs.ReaderLaws.{storable_from}
use Rattle.njh_spool.proofs.record_reader.RecordReader.records_are_storable.Goals as goal

pub returns : goal.returns
returns c =
    let file = c.self.invariant.file in
    let chain = chain_at c.self.inside.at c.self.inside.store.now in
    rw (← c.self.view_is)
    (storable_from c.self.inside.next.record_index (unpacked_records c.self.inside.slot.count chain.bytes) file.short
    file.codes)
