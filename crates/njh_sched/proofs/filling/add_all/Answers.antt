use Rattle.std.proofs.Common.{◌≡◌, ◌∙◌, ◌++◌, sym, ap, length, false, true, arith}
use Rattle.njh_spool.specs.Spools.{spool_at}
use Rattle.njh_stream.specs.Sending.{goes_by}
use Rattle.njh_table.specs.TableFile.{entry_of}
use Rattle.njh_sched.specs.NextBlock.{after_sources, aborts, requests, turns, waiting_answers, waiting_messages}
use Rattle.njh_sched.specs.NextBlock.{filling}
use Rattle.njh_sched.specs.code.Filling.{filling_where}
use Rattle.njh_sched.proofs.KeptLaws.{goes_on, stops, limit_is, messages_behind_answers, messages_behind_aborts}
use Rattle.njh_sched.proofs.KeptLaws.{messages_behind_requests}
use Rattle.njh_sched.proofs.filling.add_all.Goals as goal

pub returns-then-not-add_answers-clause-source : goal.returns-then-not-add_answers-clause-source
returns-then-not-add_answers-clause-source g c =
    let no_room : c.add_answers.result ≡ false = grind arith in
    stops (goes_by (entry_of c.args.entry.now) c.args.id.number) (waiting_answers
    (g.L.Outgoing.outlet c.args.line.now)) c.add_answers.result c.args.writer.now c.add_answers.new.writer
    (g.L.Outgoing.outlet c.args.line.now) (g.L.Outgoing.outlet c.add_answers.new.line)
    (spool_at c.args.id.customer c.args.spool.now)
    (spool_at c.args.id.customer c.args.spool.now)
    (aborts ++ (requests ++ (waiting_messages (g.L.Outgoing.outlet c.args.line.now) ++ turns c.args.writer.now.limit)))
    no_room
    (c.add_answers.ensures.source (goes_by (entry_of c.args.entry.now) c.args.id.number)
    (spool_at c.args.id.customer c.args.spool.now))

pub returns-then-not-add_aborts-clause-source : goal.returns-then-not-add_aborts-clause-source
returns-then-not-add_aborts-clause-source g c =
    let room_0 : c.add_answers.result ≡ true = grind arith in
    let no_room : c.add_aborts.result ≡ false = grind arith in
    goes_on (goes_by (entry_of c.args.entry.now) c.args.id.number) (waiting_answers
    (g.L.Outgoing.outlet c.args.line.now)) c.add_answers.result c.args.writer.now c.add_answers.new.writer
    (g.L.Outgoing.outlet c.args.line.now) (g.L.Outgoing.outlet c.add_answers.new.line)
    (spool_at c.args.id.customer c.args.spool.now)
    (spool_at c.args.id.customer c.args.spool.now)
    (aborts ++ (requests ++ (waiting_messages (g.L.Outgoing.outlet c.args.line.now) ++ turns c.args.writer.now.limit)))
    room_0
    (c.add_answers.ensures.source (goes_by (entry_of c.args.entry.now) c.args.id.number)
    (spool_at c.args.id.customer c.args.spool.now))
    ∙ stops (goes_by (entry_of c.args.entry.now) c.args.id.number) aborts c.add_aborts.result c.add_answers.new.writer
    c.add_aborts.new.writer (g.L.Outgoing.outlet c.add_answers.new.line) (g.L.Outgoing.outlet c.add_aborts.new.line)
    (spool_at c.args.id.customer c.args.spool.now) (spool_at c.args.id.customer c.args.spool.now)
    (requests ++ (waiting_messages (g.L.Outgoing.outlet c.args.line.now) ++ turns c.args.writer.now.limit)) no_room
    (c.add_aborts.ensures.source (goes_by (entry_of c.args.entry.now) c.args.id.number)
    (spool_at c.args.id.customer c.args.spool.now))

pub returns-then-not-add_requests-clause-source : goal.returns-then-not-add_requests-clause-source
returns-then-not-add_requests-clause-source g c =
    let room_0 : c.add_answers.result ≡ true = grind arith in
    let room_1 : c.add_aborts.result ≡ true = grind arith in
    let no_room : c.add_requests.result ≡ false = grind arith in
    goes_on (goes_by (entry_of c.args.entry.now) c.args.id.number) (waiting_answers
    (g.L.Outgoing.outlet c.args.line.now)) c.add_answers.result c.args.writer.now c.add_answers.new.writer
    (g.L.Outgoing.outlet c.args.line.now) (g.L.Outgoing.outlet c.add_answers.new.line)
    (spool_at c.args.id.customer c.args.spool.now)
    (spool_at c.args.id.customer c.args.spool.now)
    (aborts ++ (requests ++ (waiting_messages (g.L.Outgoing.outlet c.args.line.now) ++ turns c.args.writer.now.limit)))
    room_0
    (c.add_answers.ensures.source (goes_by (entry_of c.args.entry.now) c.args.id.number)
    (spool_at c.args.id.customer c.args.spool.now))
    ∙ goes_on (goes_by (entry_of c.args.entry.now) c.args.id.number) aborts c.add_aborts.result c.add_answers.new.writer
    c.add_aborts.new.writer (g.L.Outgoing.outlet c.add_answers.new.line) (g.L.Outgoing.outlet c.add_aborts.new.line)
    (spool_at c.args.id.customer c.args.spool.now) (spool_at c.args.id.customer c.args.spool.now)
    (requests ++ (waiting_messages (g.L.Outgoing.outlet c.args.line.now) ++ turns c.args.writer.now.limit)) room_1
    (c.add_aborts.ensures.source (goes_by (entry_of c.args.entry.now) c.args.id.number)
    (spool_at c.args.id.customer c.args.spool.now))
    ∙ stops (goes_by (entry_of c.args.entry.now) c.args.id.number) requests c.add_requests.result
    c.add_aborts.new.writer
    c.add_requests.new.writer (g.L.Outgoing.outlet c.add_aborts.new.line) (g.L.Outgoing.outlet c.add_requests.new.line)
    (spool_at c.args.id.customer c.args.spool.now) (spool_at c.args.id.customer c.add_requests.new.spool)
    (waiting_messages (g.L.Outgoing.outlet c.args.line.now) ++ turns c.args.writer.now.limit) no_room
    c.add_requests.ensures.source

pub returns-then-not-add_messages-clause-source : goal.returns-then-not-add_messages-clause-source
returns-then-not-add_messages-clause-source g c =
    let room_0 : c.add_answers.result ≡ true = grind arith in
    let room_1 : c.add_aborts.result ≡ true = grind arith in
    let room_2 : c.add_requests.result ≡ true = grind arith in
    let no_room : c.add_messages.result ≡ false = grind arith in
    let messages : waiting_messages (g.L.Outgoing.outlet c.add_requests.new.line) ≡ waiting_messages
    (g.L.Outgoing.outlet c.args.line.now)
    = messages_behind_requests (goes_by (entry_of c.args.entry.now) c.args.id.number) c.add_requests.result
    c.add_aborts.new.writer
    c.add_requests.new.writer (g.L.Outgoing.outlet c.add_aborts.new.line) (g.L.Outgoing.outlet c.add_requests.new.line)
    (spool_at c.args.id.customer c.args.spool.now) (spool_at c.args.id.customer c.add_requests.new.spool)
    c.add_requests.ensures.source
    ∙ messages_behind_aborts (goes_by (entry_of c.args.entry.now) c.args.id.number) c.add_aborts.result
    c.add_answers.new.writer
    c.add_aborts.new.writer (g.L.Outgoing.outlet c.add_answers.new.line) (g.L.Outgoing.outlet c.add_aborts.new.line)
    (spool_at c.args.id.customer c.args.spool.now) (spool_at c.args.id.customer c.args.spool.now)
    (c.add_aborts.ensures.source (goes_by
    (entry_of c.args.entry.now) c.args.id.number) (spool_at c.args.id.customer c.args.spool.now))
    ∙ messages_behind_answers (goes_by (entry_of c.args.entry.now) c.args.id.number) c.add_answers.result
    c.args.writer.now
    c.add_answers.new.writer (g.L.Outgoing.outlet c.args.line.now) (g.L.Outgoing.outlet c.add_answers.new.line)
    (spool_at c.args.id.customer c.args.spool.now) (spool_at c.args.id.customer c.args.spool.now) (length
    (g.L.Outgoing.outlet c.args.line.now).answers) (c.add_answers.ensures.source (goes_by
    (entry_of c.args.entry.now) c.args.id.number) (spool_at c.args.id.customer c.args.spool.now)) in
    goes_on (goes_by (entry_of c.args.entry.now) c.args.id.number) (waiting_answers
    (g.L.Outgoing.outlet c.args.line.now)) c.add_answers.result c.args.writer.now c.add_answers.new.writer
    (g.L.Outgoing.outlet c.args.line.now) (g.L.Outgoing.outlet c.add_answers.new.line)
    (spool_at c.args.id.customer c.args.spool.now)
    (spool_at c.args.id.customer c.args.spool.now)
    (aborts ++ (requests ++ (waiting_messages (g.L.Outgoing.outlet c.args.line.now) ++ turns c.args.writer.now.limit)))
    room_0
    (c.add_answers.ensures.source (goes_by (entry_of c.args.entry.now) c.args.id.number)
    (spool_at c.args.id.customer c.args.spool.now))
    ∙ goes_on (goes_by (entry_of c.args.entry.now) c.args.id.number) aborts c.add_aborts.result c.add_answers.new.writer
    c.add_aborts.new.writer (g.L.Outgoing.outlet c.add_answers.new.line) (g.L.Outgoing.outlet c.add_aborts.new.line)
    (spool_at c.args.id.customer c.args.spool.now) (spool_at c.args.id.customer c.args.spool.now)
    (requests ++ (waiting_messages (g.L.Outgoing.outlet c.args.line.now) ++ turns c.args.writer.now.limit)) room_1
    (c.add_aborts.ensures.source (goes_by (entry_of c.args.entry.now) c.args.id.number)
    (spool_at c.args.id.customer c.args.spool.now))
    ∙ goes_on (goes_by (entry_of c.args.entry.now) c.args.id.number) requests c.add_requests.result
    c.add_aborts.new.writer
    c.add_requests.new.writer (g.L.Outgoing.outlet c.add_aborts.new.line) (g.L.Outgoing.outlet c.add_requests.new.line)
    (spool_at c.args.id.customer c.args.spool.now) (spool_at c.args.id.customer c.add_requests.new.spool)
    (waiting_messages (g.L.Outgoing.outlet c.args.line.now) ++ turns c.args.writer.now.limit) room_2
    c.add_requests.ensures.source
    ∙ stops (goes_by (entry_of c.args.entry.now) c.args.id.number) (waiting_messages
    (g.L.Outgoing.outlet c.args.line.now)) c.add_messages.result c.add_requests.new.writer c.add_messages.new.writer
    (g.L.Outgoing.outlet c.add_requests.new.line) (g.L.Outgoing.outlet c.add_messages.new.line)
    (spool_at c.args.id.customer c.add_requests.new.spool) (spool_at c.args.id.customer c.add_requests.new.spool)
    (turns c.args.writer.now.limit) no_room
    (ap (λ them. after_sources (goes_by (entry_of c.args.entry.now) c.args.id.number) them
    (filling c.add_requests.new.writer (g.L.Outgoing.outlet c.add_requests.new.line)
    (spool_at c.args.id.customer c.add_requests.new.spool))) (sym messages) ∙ c.add_messages.ensures.source (goes_by
    (entry_of c.args.entry.now) c.args.id.number) (spool_at c.args.id.customer c.add_requests.new.spool))

pub returns-clause-source : goal.returns-clause-source
returns-clause-source g c =
    let room_0 : c.add_answers.result ≡ true = grind arith in
    let room_1 : c.add_aborts.result ≡ true = grind arith in
    let room_2 : c.add_requests.result ≡ true = grind arith in
    let room_3 : c.add_messages.result ≡ true = grind arith in
    let messages : waiting_messages (g.L.Outgoing.outlet c.add_requests.new.line) ≡ waiting_messages
    (g.L.Outgoing.outlet c.args.line.now)
    = messages_behind_requests (goes_by (entry_of c.args.entry.now) c.args.id.number) c.add_requests.result
    c.add_aborts.new.writer
    c.add_requests.new.writer (g.L.Outgoing.outlet c.add_aborts.new.line) (g.L.Outgoing.outlet c.add_requests.new.line)
    (spool_at c.args.id.customer c.args.spool.now) (spool_at c.args.id.customer c.add_requests.new.spool)
    c.add_requests.ensures.source
    ∙ messages_behind_aborts (goes_by (entry_of c.args.entry.now) c.args.id.number) c.add_aborts.result
    c.add_answers.new.writer
    c.add_aborts.new.writer (g.L.Outgoing.outlet c.add_answers.new.line) (g.L.Outgoing.outlet c.add_aborts.new.line)
    (spool_at c.args.id.customer c.args.spool.now) (spool_at c.args.id.customer c.args.spool.now)
    (c.add_aborts.ensures.source (goes_by
    (entry_of c.args.entry.now) c.args.id.number) (spool_at c.args.id.customer c.args.spool.now))
    ∙ messages_behind_answers (goes_by (entry_of c.args.entry.now) c.args.id.number) c.add_answers.result
    c.args.writer.now
    c.add_answers.new.writer (g.L.Outgoing.outlet c.args.line.now) (g.L.Outgoing.outlet c.add_answers.new.line)
    (spool_at c.args.id.customer c.args.spool.now) (spool_at c.args.id.customer c.args.spool.now) (length
    (g.L.Outgoing.outlet c.args.line.now).answers) (c.add_answers.ensures.source (goes_by
    (entry_of c.args.entry.now) c.args.id.number) (spool_at c.args.id.customer c.args.spool.now)) in
    let limit : c.add_messages.new.writer.limit ≡ c.args.writer.now.limit
    = limit_is (goes_by (entry_of c.args.entry.now) c.args.id.number) (waiting_messages
    (g.L.Outgoing.outlet c.add_requests.new.line)) c.add_messages.result c.add_requests.new.writer
    c.add_messages.new.writer
    (g.L.Outgoing.outlet c.add_requests.new.line) (g.L.Outgoing.outlet c.add_messages.new.line)
    (spool_at c.args.id.customer c.add_requests.new.spool) (spool_at c.args.id.customer c.add_requests.new.spool)
    (c.add_messages.ensures.source (goes_by (entry_of c.args.entry.now) c.args.id.number)
    (spool_at c.args.id.customer c.add_requests.new.spool))
    ∙ limit_is (goes_by (entry_of c.args.entry.now) c.args.id.number) requests c.add_requests.result
    c.add_aborts.new.writer
    c.add_requests.new.writer (g.L.Outgoing.outlet c.add_aborts.new.line) (g.L.Outgoing.outlet c.add_requests.new.line)
    (spool_at c.args.id.customer c.args.spool.now) (spool_at c.args.id.customer c.add_requests.new.spool)
    c.add_requests.ensures.source
    ∙ limit_is (goes_by (entry_of c.args.entry.now) c.args.id.number) aborts c.add_aborts.result
    c.add_answers.new.writer
    c.add_aborts.new.writer (g.L.Outgoing.outlet c.add_answers.new.line) (g.L.Outgoing.outlet c.add_aborts.new.line)
    (spool_at c.args.id.customer c.args.spool.now) (spool_at c.args.id.customer c.args.spool.now)
    (c.add_aborts.ensures.source (goes_by
    (entry_of c.args.entry.now) c.args.id.number) (spool_at c.args.id.customer c.args.spool.now))
    ∙ limit_is (goes_by (entry_of c.args.entry.now) c.args.id.number) (waiting_answers
    (g.L.Outgoing.outlet c.args.line.now)) c.add_answers.result c.args.writer.now c.add_answers.new.writer
    (g.L.Outgoing.outlet c.args.line.now) (g.L.Outgoing.outlet c.add_answers.new.line)
    (spool_at c.args.id.customer c.args.spool.now)
    (spool_at c.args.id.customer c.args.spool.now)
    (c.add_answers.ensures.source (goes_by (entry_of c.args.entry.now) c.args.id.number)
    (spool_at c.args.id.customer c.args.spool.now)) in
    goes_on (goes_by (entry_of c.args.entry.now) c.args.id.number) (waiting_answers
    (g.L.Outgoing.outlet c.args.line.now)) c.add_answers.result c.args.writer.now c.add_answers.new.writer
    (g.L.Outgoing.outlet c.args.line.now) (g.L.Outgoing.outlet c.add_answers.new.line)
    (spool_at c.args.id.customer c.args.spool.now)
    (spool_at c.args.id.customer c.args.spool.now)
    (aborts ++ (requests ++ (waiting_messages (g.L.Outgoing.outlet c.args.line.now) ++ turns c.args.writer.now.limit)))
    room_0
    (c.add_answers.ensures.source (goes_by (entry_of c.args.entry.now) c.args.id.number)
    (spool_at c.args.id.customer c.args.spool.now))
    ∙ goes_on (goes_by (entry_of c.args.entry.now) c.args.id.number) aborts c.add_aborts.result c.add_answers.new.writer
    c.add_aborts.new.writer (g.L.Outgoing.outlet c.add_answers.new.line) (g.L.Outgoing.outlet c.add_aborts.new.line)
    (spool_at c.args.id.customer c.args.spool.now) (spool_at c.args.id.customer c.args.spool.now)
    (requests ++ (waiting_messages (g.L.Outgoing.outlet c.args.line.now) ++ turns c.args.writer.now.limit)) room_1
    (c.add_aborts.ensures.source (goes_by (entry_of c.args.entry.now) c.args.id.number)
    (spool_at c.args.id.customer c.args.spool.now))
    ∙ goes_on (goes_by (entry_of c.args.entry.now) c.args.id.number) requests c.add_requests.result
    c.add_aborts.new.writer
    c.add_requests.new.writer (g.L.Outgoing.outlet c.add_aborts.new.line) (g.L.Outgoing.outlet c.add_requests.new.line)
    (spool_at c.args.id.customer c.args.spool.now) (spool_at c.args.id.customer c.add_requests.new.spool)
    (waiting_messages (g.L.Outgoing.outlet c.args.line.now) ++ turns c.args.writer.now.limit) room_2
    c.add_requests.ensures.source
    ∙ goes_on (goes_by (entry_of c.args.entry.now) c.args.id.number) (waiting_messages
    (g.L.Outgoing.outlet c.args.line.now)) c.add_messages.result c.add_requests.new.writer c.add_messages.new.writer
    (g.L.Outgoing.outlet c.add_requests.new.line) (g.L.Outgoing.outlet c.add_messages.new.line)
    (spool_at c.args.id.customer c.add_requests.new.spool) (spool_at c.args.id.customer c.add_requests.new.spool)
    (turns c.args.writer.now.limit) room_3
    (ap (λ them. after_sources (goes_by (entry_of c.args.entry.now) c.args.id.number) them
    (filling c.add_requests.new.writer (g.L.Outgoing.outlet c.add_requests.new.line)
    (spool_at c.args.id.customer c.add_requests.new.spool))) (sym messages) ∙ c.add_messages.ensures.source (goes_by
    (entry_of c.args.entry.now) c.args.id.number) (spool_at c.args.id.customer c.add_requests.new.spool))
    ∙ ap (λ n. after_sources (goes_by (entry_of c.args.entry.now) c.args.id.number) (turns n)
    (filling c.add_messages.new.writer
    (g.L.Outgoing.outlet c.add_messages.new.line) (spool_at c.args.id.customer c.add_requests.new.spool))) (sym limit)
    ∙ c.add_turns.ensures.source (goes_by (entry_of c.args.entry.now) c.args.id.number)
    ∙ ap (λ spool. filling_where c.add_turns.result c.add_turns.new.writer
    (g.L.Outgoing.outlet c.add_turns.new.line)
    (spool_at c.args.id.customer spool)) (sym c.add_turns.ensures.spool)
