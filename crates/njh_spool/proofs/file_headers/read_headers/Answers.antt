use Rattle.std.proofs.Common.{length, ap, ◌∙◌}
use Rattle.njh_spool.specs.code.Chains.{chain_at}
use Rattle.njh_spool.proofs.PackingLaws.{length-unpacked}
use Rattle.njh_spool.proofs.file_headers.read_headers.Goals as goal

pub read_data_set_header-data_set-requires : goal.read_data_set_header-data_set-requires
read_data_set_header-data_set-requires c =
    ap length c.of-records.ensures ∙ length-unpacked c.args.slot.now.count (chain_at c.args.at c.args.store.now).bytes
