use Rattle.std.proofs.Common.{◌≡◌, true, false, codes, bytes_eq, sym, rules}
use Rattle.njh_replay.proofs.LineForms.{event_of_words-one, event_of_words-routes, event_of_words-other}
use Rattle.njh_replay.proofs.line.event_of_text.Goals as goal

pub returns-in_default-clause-event : goal.returns-in_default-clause-event
returns-in_default-clause-event c = sym (event_of_words-one c.args.tables.now c.args.line.now
    c.in_default.ensures.cases)

pub returns-then-eq-clause-event : goal.returns-then-eq-clause-event
returns-then-eq-clause-event c =
    let test : bytes_eq c.in-Some.word.now (codes "ROUTES") ≡ true = search rules in
    let same = event_of_words-routes c.args.tables.now c.args.line.now c.in-Some.word c.in-Some.rest
    c.in-Some.ensures.cases test in
    rw same c.event_of_routes.ensures.event

pub returns-clause-event : goal.returns-clause-event
returns-clause-event c =
    let test : bytes_eq c.in-Some.word.now (codes "ROUTES") ≡ false = search rules in
    let same = event_of_words-other c.args.tables.now c.args.line.now c.in-Some.word c.in-Some.rest
    c.in-Some.ensures.cases test in
    rw same c.event_of_other.ensures.event
