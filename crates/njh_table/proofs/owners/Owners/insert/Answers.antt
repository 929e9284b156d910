use Rattle.std.proofs.Common.{map, bytes_eq, ap, sym, ◌∙◌, ◌++◌, [], ◌∷◌}
use Rattle.std.proofs.lemmas.List.{map-append}
use Rattle.std.specs.Map.{lookup}
use Rattle.std.specs.String.{string_bytes, string_eq}
use Rattle.indexmap.proofs.CallerLemmas.{insert_entry-new}
use Rattle.njh_table.proofs.MapLaws.{lookup-map_keys, is_some-lookup, none_from_false}
use Rattle.njh_table.proofs.owners.Owners.insert.Goals as goal

pub returns : goal.returns
returns c =
    let m = c.self.inside.lines in
    let name = string_bytes c.in_ok-name.name in
    let same = c.in_ok-name.ensures.ok in
    let absent = none_from_false _ (is_some-lookup (bytes_eq c.args.name.now) c.args.self.now ∙ c.requires) in
    let new = sym (lookup-map_keys string_bytes (bytes_eq name) m.entries) ∙ ap (lookup (bytes_eq name)) c.self.view_is
    ∙ ap (λ n. lookup (bytes_eq n) c.args.self.now) same ∙ absent in
    let entries = c.in_ok-insert.ensures.entries ∙ insert_entry-new string_eq m c.in_ok-name.name c.args.id new in
    ap (map (λ e. (string_bytes e.0, e.1))) entries ∙ map-append _ m.entries _
    ∙ ap (λ lines. lines ++ (name, c.args.id) ∷ []) c.self.view_is
    ∙ ap (λ n. c.args.self.now ++ (n, c.args.id) ∷ []) same
