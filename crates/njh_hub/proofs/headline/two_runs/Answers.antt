use Rattle.std.proofs.Common.{◌≡◌, List, sym, ap, ◌∙◌}
use Rattle.njh_table.specs.Entries.{CustomerEntry}
use Rattle.njh_table.specs.Marks.{entry_unmarked}
use Rattle.njh_customer.specs.Runs.{OwnEvent}
use Rattle.njh_hub.specs.Outcome.{Outcome, alone, entry_at}
use Rattle.njh_hub.specs.OwnEvents.{events_of}
use Rattle.njh_hub.specs.Parts.{entries_of}
use Rattle.njh_hub.proofs.headline.two_runs.Goals as goal

pub returns : goal.returns
returns g c agree same =
    let own = events_of c.args.one.customer c.args.one.events.now in
    let other = entry_at c.args.other.customer (entries_of c.args.other.tables) in
    let outcomes : alone (entry_at c.args.one.customer (entries_of c.args.one.tables)) own
    ≡ alone other (events_of c.args.other.customer c.args.other.events.now) =
    ap (λ (entry : CustomerEntry). alone entry own) agree
    ∙ ap (λ (events : List OwnEvent). alone (entry_unmarked other) events) same in
    let first = c.in_ok-files.ensures in
    let second = c.in_ok-other_files.ensures in
    record {
      pairs = first.pairs;
      pairs_too = second.pairs;
      handed = first.handed;
      handed_too = second.handed;
      sent = first.sent ∙ ap (λ (o : Outcome). o.sent) outcomes ∙ sym second.sent;
      files = first.files ∙ ap (λ (o : Outcome). o.files) outcomes ∙ sym second.files;
    }
