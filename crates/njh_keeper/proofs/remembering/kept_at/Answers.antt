use Rattle.njh_keeper.proofs.Words
use Words.{◌≡◌, sym, ap, ◌∙◌, get_or_default, recursion_from_All, HasHeaders, WholeFile, records_in, FileSummaryView}
use Words.{file_summary, part}
use Rattle.njh_keeper.proofs.NumberedLaws.{all_at}
use Rattle.njh_keeper.proofs.remembering.kept_at.Goals as goal

pub returns-clause-remembers : goal.returns-clause-remembers
returns-clause-remembers c found g is =
    let spool = (part c.args.customer c.args.hub.now).customer.spool in
    let i = c.args.index in
    let summary : c.summary_at-summary.result ≡ file_summary g =
    c.summary_at-summary.ensures.summary ∙ ap file_summary (get_or_default spool.whole i _ g c.requires ∙ sym is) in
    let number : c.number_at-number.result ≡ g.number =
    c.number_at-number.ensures ∙ ap (λ (f : WholeFile). f.number) (get_or_default spool.whole i _ g c.requires ∙ sym is)
    in
    let own : records_in g.number spool ≡ g.records =
    all_at (λ f. records_in f.number spool ≡ f.records) spool.whole i g found c.requires is in
    let headers : HasHeaders g.kind g.records = all_at (λ f. HasHeaders f.kind f.records) spool.whole i g
    (recursion_from_All (λ f. HasHeaders f.kind f.records) spool.whole c.summary_at-summary.ensures.headers) c.requires
    is in
    let records : records_in c.number_at-number.result spool ≡ g.records = ap (λ n. records_in n spool) number ∙ own in
    record {
      number = number;
      records = ap (λ (v : FileSummaryView). v.records) summary;
      state = ap (λ (v : FileSummaryView). v.state) summary;
      destination = ap (λ (v : FileSummaryView). v.destination) summary;
      mixed = c.names_several.ensures.one g (record
          { summary_is = summary; number_is = number; records_are = records; headers = headers });
    }
