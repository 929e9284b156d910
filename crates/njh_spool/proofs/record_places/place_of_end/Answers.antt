use Rattle.std.proofs.Common.{sym, ap, ◌∙◌, arith, length}
use Rattle.std.proofs.lemmas.List.{take_all}
use Rattle.njh_spool.specs.CustomerSpool.{stored_size}
use Rattle.njh_spool.specs.code.Chains.{chain_at}
use Rattle.njh_spool.specs.code.Packing.{unpacked_records}
use Rattle.njh_spool.proofs.PackingLaws.{length-packed, length-unpacked}
use Rattle.njh_spool.proofs.record_places.place_of_end.Goals as goal

pub returns-clause-place : goal.returns-clause-place
returns-clause-place c =
    let bytes = (chain_at c.args.at c.args.store.now).bytes in
    let records = unpacked_records c.args.slot.now.count bytes in
    let count = length-unpacked c.args.slot.now.count bytes in
    record {
      before = omega (arith, count);
      place = c.len.ensures.bytes ∙ ap length c.requires.file.bytes ∙ length-packed records
          ∙ ap stored_size (sym (take_all c.args.slot.now.count records (omega (arith, count))));
      block = c.last_block.ensures.block;
    }
