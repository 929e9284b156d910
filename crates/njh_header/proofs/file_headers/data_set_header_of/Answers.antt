use Rattle.std.proofs.Common.{sym, ◌∙◌, ap, rules}
use Rattle.std.specs.Result.{result_ok}
use Rattle.njh_record.specs.Stored.{Stored}
use Rattle.njh_header.specs.Headers.{data_set_header}
use Rattle.njh_header.proofs.FirstHeader.{behind_job_header, at_data_set_header, at_other}
use Rattle.njh_header.proofs.file_headers.data_set_header_of.Goals as goal

pub returns-in-224 : goal.returns-in-224
returns-in-224 g c =
    let r : Stored = record { srcb = c.copy_to.result; bytes = c.copy_to.new.into.items } in
    c.ok.ensures.value
    ∙ ap result_ok (c.read.ensures.header ∙ ap data_set_header c.deref.ensures.0)
    ∙ sym (at_data_set_header (g.F.FileRecords.records c.args.file.now) c.loop-n.n r c.copy_to.ensures c.in-224.is)
    ∙ c.loop-n.invariant

pub returns-in_default : goal.returns-in_default
returns-in_default g c =
    let r : Stored = record { srcb = c.copy_to.result; bytes = c.copy_to.new.into.items } in
    sym (at_other (g.F.FileRecords.records c.args.file.now) c.loop-n.n r c.copy_to.ensures (search rules)
    (search rules))
    ∙ c.loop-n.invariant

pub loop-n-preserved : goal.loop-n-preserved
loop-n-preserved g c =
    let r : Stored = record { srcb = c.copy_to.result; bytes = c.copy_to.new.into.items } in
    sym (behind_job_header (g.F.FileRecords.records c.args.file.now) c.loop-n.n r c.copy_to.ensures c.in-192.is)
    ∙ c.loop-n.invariant
