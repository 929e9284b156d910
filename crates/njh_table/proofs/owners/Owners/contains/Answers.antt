use Rattle.std.proofs.Common.{bytes_eq, is_some, ap, sym, ◌∙◌}
use Rattle.std.specs.List.{list_any}
use Rattle.std.specs.String.{string_bytes}
use Rattle.njh_table.specs.TableFile.{names_in}
use Rattle.njh_table.proofs.MapLaws.{lookup-map_keys, is_some-lookup}
use Rattle.njh_table.proofs.owners.Owners.contains.Goals as goal

pub returns : goal.returns
returns c =
    let seen = lookup-map_keys string_bytes (bytes_eq c.args.name.now) c.self.inside.lines.entries in
    c.contains_key.ensures ∙ ap is_some (sym seen) ∙ is_some-lookup (bytes_eq c.args.name.now) _
    ∙ ap (λ lines. list_any (bytes_eq c.args.name.now) (names_in lines)) c.self.view_is
