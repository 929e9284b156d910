use Rattle.njh_keeper.proofs.Words
use Words.{◌≡◌, sym, ap, ◌∙◌, get_or_default, WholeFile, file_summary, part}
use Rattle.njh_keeper.proofs.NewFilesLaws.{hub_file_at}
use Rattle.njh_keeper.proofs.following.follow_at.Goals as goal

pub returns-clause-led : goal.returns-clause-led
returns-clause-led g c f numbered here clean =
    let parts = c.args.hub.now in
    let whole = (part c.args.customer parts).customer.spool.whole in
    let number = c.number_at-number.result in
    let number_is : number ≡ f.number = c.number_at-number.ensures
    ∙ ap (λ (x : WholeFile). x.number) (get_or_default whole c.args.index _ f here.there ∙ sym here.is) in
    let summary_is : c.summary_at-summary.result ≡ file_summary f = c.summary_at-summary.ensures.summary
    ∙ ap file_summary (get_or_default whole c.args.index _ f here.there ∙ sym here.is) in
    c.follow_one.ensures.led f
    (hub_file_at parts (record { customer = c.args.customer; number = number }) c.summary_at-summary.result c.args.index
    f numbered c.summary_at-summary.ensures.headers here number_is summary_is) clean
