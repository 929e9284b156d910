use Rattle.clap.specs.Matches.{found_of}
use Rattle.clap.specs.Walk.{rows_of}
use Rattle.njh_arguments.proofs.ArgumentLaws.{asks_in, serves_refused, subcommand_is}
use Rattle.njh_arguments.proofs.arguments.request_in.Goals as goal

pub returns-in-Some : goal.returns-in-Some
returns-in-Some c =
    let found = c.args.found.now in
    let rows = rows_of (found_of c.in-Some.options.now) in
    let named = subcommand_is found c.in-Some.name.now rows c.in-Some.ensures.name c.in-Some.ensures.rows in
    record {
      asked = asks_in found (c.in-Some.name.now, rows) named c.request_named.result c.request_named.ensures.asked;
      refused = serves_refused found (c.in-Some.name.now, rows) named c.request_named.result
          c.request_named.ensures.refused;
    }
