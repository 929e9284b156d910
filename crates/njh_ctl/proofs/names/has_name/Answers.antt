use Rattle.std.proofs.Common.{◌∙◌, sym}
use Rattle.std.specs.Prelude.{bytes_eq, string_bytes}
use Rattle.njh_ctl.proofs.EntryLaws.{list_any_map}
use Rattle.njh_ctl.proofs.names.has_name.Goals as goal

pub returns : goal.returns
returns c =
    c.is_among.ensures ∙ sym (list_any_map (λ n. bytes_eq n c.args.name.now) string_bytes c.args.names.now)
