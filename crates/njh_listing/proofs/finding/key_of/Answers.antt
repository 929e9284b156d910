use Rattle.std.proofs.Common.{ap, ◌∙◌, subst, map}
use Rattle.std.specs.Prelude.{◌≡◌, [], ◌∷◌, IfErr, IfOk, None}
use Rattle.njh_listing.specs.Asked.{FitsFault, asked_in, key_in}
use Rattle.njh_listing.specs.code.Lent.{entries_of}
use Rattle.njh_listing.proofs.finding.key_of.Goals as goal

pub returns-clause-found : goal.returns-clause-found
returns-clause-found c =
    subst (λ es. IfOk c.key_listed.result (λ key. map key_in (asked_in c.args.asked.now.number c.args.name.now es)
    ≡ key ∷ [])) (ap entries_of c.as_slice.ensures.value ∙ c.in_ok-list.ensures) c.key_listed.ensures.found

pub returns-clause-refused : goal.returns-clause-refused
returns-clause-refused c =
    subst (λ es. IfErr c.key_listed.result (FitsFault (map key_in (asked_in c.args.asked.now.number c.args.name.now es))
    (map key_in (asked_in None c.args.name.now es)))) (ap entries_of c.as_slice.ensures.value ∙ c.in_ok-list.ensures)
    c.key_listed.ensures.refused
