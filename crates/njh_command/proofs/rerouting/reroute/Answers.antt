-- The records, and then the state.
use Rattle.std.proofs.Common.{List, None, ap, ◌∙◌, slice_set}
use Rattle.njh_record.specs.Stored.{Stored}
use Rattle.njh_spool.specs.CustomerSpool.{CustomerSpool, WholeFile}
use Rattle.njh_spool.specs.Spools.{spool_at}
use Rattle.njh_header.specs.Redirecting.{records_to_node}
use Rattle.njh_header.proofs.Redirected.{redirected_is}
use Rattle.njh_command.specs.Commands.{state_after_reroute, file_in_state}
use Rattle.njh_command.specs.Files.{file_at, with_file, with_records}
use Rattle.njh_command.proofs.WalkLaws.{file_is, file_twice, moved_twice}
use Rattle.njh_command.proofs.rerouting.reroute.Goals as goal

pub returns : goal.returns
returns c =
    let s = spool_at c.args.customer c.args.spool.now in
    let f = file_at c.args.index s in
    let g : WholeFile = with_records (records_to_node f.kind c.args.node None f.records) f in
    let ready : WholeFile → WholeFile = λ (x : WholeFile). file_in_state (state_after_reroute x.state) x in
    moved_twice c.args.spool.now c.redirect.new.spool c.try_again.new.spool c.args.customer (with_file c.args.index g s)
    (λ (x : CustomerSpool). with_file c.args.index (ready (file_at c.args.index x)) x) c.requires.range
    c.redirect.ensures
    c.try_again.ensures
    ∙ ap (slice_set c.args.spool.now c.args.customer) (
    ap (λ (x : WholeFile). with_file c.args.index (ready x) (with_file c.args.index g s))
    (file_is s c.args.index g c.requires.within)
    ∙ file_twice s c.args.index g (ready g)
    ∙ ap (λ (records : List Stored). with_file c.args.index
    (file_in_state (state_after_reroute f.state) (with_records records f)) s)
    (redirected_is f.kind c.args.node f.records)
    )
