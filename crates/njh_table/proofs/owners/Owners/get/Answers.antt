use Rattle.std.proofs.Common.{bytes_eq, ap, sym, ◌∙◌}
use Rattle.std.specs.Map.{lookup}
use Rattle.std.specs.String.{string_bytes}
use Rattle.njh_table.proofs.MapLaws.{lookup-map_keys}
use Rattle.njh_table.proofs.owners.Owners.get.Goals as goal

pub returns : goal.returns
returns c =
    let seen = lookup-map_keys string_bytes (bytes_eq c.args.name.now) c.self.inside.lines.entries in
    c.copied.ensures ∙ c.get.ensures.value ∙ sym seen ∙ ap (lookup (bytes_eq c.args.name.now)) c.self.view_is
