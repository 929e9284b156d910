use Rattle.std.proofs.Common.{map, subst, IfErr}
use Rattle.njh_program.proofs.RequestLaws.{bad_by, begun_by, done_by, failed_by}
use Rattle.njh_program.proofs.WordLaws.{begun_in_words, done_in_words, failed_in_words}
use Rattle.njh_program.specs.ShownText.{IsWordsEnd}
use Rattle.njh_program.proofs.program.carry_out.Goals as goal

pub returns-in-Ok : goal.returns-in-Ok
returns-in-Ok g c =
    let arguments = map g.S.AsStr.text c.args.arguments.now in
    let left = g.R.Read.remaining c.args.script.now in
    let old = g.W.Write.contents c.args.out.now in
    let new = g.W.Write.contents c.carry_out_request.new.out in
    let asked = c.in-Ok.request in
    let asks = c.in-Ok.ensures.asked in
    let did = c.carry_out_request.ensures in
    record {
      done = done_by arguments left old new asked c.carry_out_request.result asks did.done;
      failed = failed_by arguments left asked c.carry_out_request.result asks did.failed;
      bad = λ fault is. bad_by arguments fault left old new asked asks (did.bad fault is);
      found = λ is. (asked, asks, did.found is);
      begun = begun_by arguments left old new asked c.carry_out_request.result asks did.begun;
      silent = did.silent;
    }

pub returns-in-Err : goal.returns-in-Err
returns-in-Err g c =
    let arguments = map g.S.AsStr.text c.args.arguments.now in
    let left = g.R.Read.remaining c.args.script.now in
    let old = g.W.Write.contents c.args.out.now in
    let new = g.W.Write.contents c.show_or_refuse.new.out in
    let r = c.show_or_refuse.result in
    let ends = c.show_or_refuse.ensures in
    record {
      done = done_in_words arguments left old new r ends.shown;
      failed = failed_in_words arguments left r ends.failed;
      bad = λ fault is. absurd (subst (λ r. IfErr r (IsWordsEnd arguments)) is ends.failed);
      found = λ is. absurd (subst (λ r. IfErr r (IsWordsEnd arguments)) is ends.failed);
      begun = begun_in_words arguments left old new r ends.begun;
      silent = ends.silent;
    }
