use Rattle.njh_keeper.proofs.Words
use Words.{None, sym, ap, subst, ◌∙◌, FileSummaryView, AreOne, named_nodes}
use Rattle.njh_keeper.proofs.StillLaws.{job_is_named, one_is_named, out_is_named}
use Rattle.njh_keeper.proofs.adding.names_several.Goals as goal

pub returns-in-In-clause-one : goal.returns-in-In-clause-one
returns-in-In-clause-one c f hub_file none =
    job_is_named f.kind f.records hub_file.headers.destination hub_file.headers.goes
    (ap (λ (x : FileSummaryView). x.kind) (sym hub_file.summary_is) ∙ c.in-In.is)

pub returns-in-Out-clause-one : goal.returns-in-Out-clause-one
returns-in-Out-clause-one c f hub_file none =
    one_is_named f.kind f.records hub_file.headers.destination hub_file.headers.goes
    (subst (λ rs. AreOne (named_nodes None rs)) hub_file.records_are (c.is_mixed.ensures.one none))

pub returns-in-Out-clause-several : goal.returns-in-Out-clause-several
returns-in-Out-clause-several c f hub_file some one =
    c.is_mixed.ensures.several some
    (subst (λ rs. AreOne (named_nodes None rs)) (sym hub_file.records_are)
    (out_is_named f.kind f.records hub_file.headers.destination hub_file.headers.goes
    (ap (λ (x : FileSummaryView). x.kind) (sym hub_file.summary_is) ∙ c.in-Out.is) one))
