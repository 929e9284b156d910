use Rattle.std.proofs.Common.{map, refl, ap, ◌∙◌, ◌++◌, [], ◌∷◌}
use Rattle.std.proofs.lemmas.List.{map-append}
use Rattle.indexmap.proofs.CallerLemmas.{insert_entry-new}
use Rattle.njh_table.specs.Entries.{lines_to}
use Rattle.njh_table.specs.TableFile.{route_entry}
use Rattle.njh_table.proofs.MapLaws.{lookup-routes}
use Rattle.njh_table.proofs.routes.Routes.insert.Goals as goal

pub returns : goal.returns
returns c =
    let m = c.self.inside.lines in
    let new =
    lookup-routes _ (λ a b. refl) c.args.node m.entries ∙ ap (λ routes. lines_to routes c.args.node) c.self.view_is
    ∙ c.requires in
    let entries = c.in_ok-insert.ensures.entries ∙ insert_entry-new _ m c.args.node c.args.lines new in
    ap (map route_entry) entries ∙ map-append route_entry m.entries _
    ∙ ap (λ routes. routes ++ route_entry (c.args.node, c.args.lines) ∷ []) c.self.view_is
