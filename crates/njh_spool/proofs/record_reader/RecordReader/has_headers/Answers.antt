use Rattle.std.proofs.Common.{List, sym, ap, ◌∙◌}
use Rattle.std.specs.List.{list_any}
use Rattle.njh_record.specs.Stored.{Stored}
use Rattle.njh_spool.specs.Headers.{is_header}
use Rattle.njh_spool.proofs.record_reader.RecordReader.has_headers.Goals as goal

pub returns : goal.returns
returns c = sym (c.self.invariant.file.headers_end c.self.inside.next.record_index)
    ∙ ap (λ (records : List Stored). list_any is_header records) c.self.view_is
