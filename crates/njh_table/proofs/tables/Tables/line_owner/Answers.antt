use Rattle.std.proofs.Common.{◌≡◌, bytes_eq, IfSome, ap, subst, sym, ◌∙◌}
use Rattle.std.specs.Map.{lookup}
use Rattle.njh_table.specs.Accepted.{AreDistinct}
use Rattle.njh_table.specs.TableFile.{line_named, line_names, table_line, HasLine}
use Rattle.njh_table.proofs.LineOwners.{owner_found, owner_only}
use Rattle.njh_table.proofs.tables.Tables.line_owner.Goals as goal
use Rattle.njh_table.proofs.tables.Tables.line_owner.Goals.{After-get}

owner : (c : After-get) → c.get.result ≡ line_named c.args.self.now c.args.name.now
owner c = c.get.ensures ∙ ap (lookup (bytes_eq c.args.name.now)) c.self.invariant.1
    ∙ ap (λ t. line_named t c.args.name.now) c.self.view_is

pub returns-clause-found : goal.returns-clause-found
returns-clause-found c =
    subst (λ r. IfSome r (λ line. HasLine c.args.self.now line
    × ((table_line c.args.self.now line).name ≡ c.args.name.now)))
    (sym (owner c)) (owner_found c.args.self.now c.args.name.now)

pub returns-clause-only : goal.returns-clause-only
returns-clause-only c = λ line has same.
    let distinct = subst (λ t. AreDistinct (line_names t.customers)) c.self.view_is c.self.invariant.0.line_names in
    owner c ∙ owner_only c.args.self.now c.args.name.now distinct line has same
