use Rattle.std.proofs.Common.{None, arith}
use Rattle.std.proofs.lemmas.Str.Pattern.{strip_prefix_char}
use Rattle.njh_spoolfile.proofs.SentLaws.{all_stored, stands_so}
use Rattle.njh_spoolfile.proofs.sent.send_records.Goals as goal

pub returns-in_default-clause-sent : goal.returns-in_default-clause-sent
returns-in_default-clause-sent c _ =
    stands_so c.args.kind c.args.to_node.now (all_stored c.args.records.now.items)
    (strip_prefix_char 62 c.args.to_node.now None c.in_default.ensures.cases (omega arith))
