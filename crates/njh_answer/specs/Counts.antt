-- What is told of what was counted of lines.
use Rattle.std.specs.Prelude.{ℕ, ◌+◌, ◌==◌, List, fold, min, codes, if◌then◌else◌}
use Rattle.serde_json.specs.Data.{Data, number, unsigned, object, member, no_members}
use Rattle.njh_answer.specs.declared.views.BothWays.{BothWays}
use Rattle.njh_answer.specs.declared.views.LineCounts.{LineCounts}
use Rattle.njh_answer.specs.declared.views.LineView.{LineView}
use Rattle.njh_answer.specs.declared.views.TurnedAway.{TurnedAway}

-- {"in":3,"out":1}
abbrev pub both_data : BothWays → Data
both_data both = object (
    member (codes "in") (number (unsigned both.came))
    (member (codes "out") (number (unsigned both.went)) no_members))

-- {"files":0,"other":0,"quota":2,"route":0}
abbrev pub turned_data : TurnedAway → Data
turned_data turned = object (
    member (codes "files") (number (unsigned turned.files))
    (member (codes "other") (number (unsigned turned.other))
    (member (codes "quota") (number (unsigned turned.quota))
    (member (codes "route") (number (unsigned turned.route)) no_members))))

abbrev pub counts_data : LineCounts → Data
counts_data c = object (
    member (codes "blocks") (both_data c.blocks)
    (member (codes "bytes") (both_data c.bytes)
    (member (codes "commands") (number (unsigned c.commands))
    (member (codes "cut_off") (number (unsigned c.cut_off))
    (member (codes "dropped") (number (unsigned c.dropped))
    (member (codes "files") (both_data c.files)
    (member (codes "messages") (both_data c.messages)
    (member (codes "records") (both_data c.records)
    (member (codes "returned") (number (unsigned c.returned))
    (member (codes "turned_away") (turned_data c.turned_away) no_members))))))))))

-- ---- of a customer's lines

abbrev pub none_away : TurnedAway
none_away = record { files = 0; quota = 0; route = 0; other = 0 }

-- so many more, as far as a count goes
abbrev pub plus : (count more : ℕ) → ℕ
plus count more = min (count + more) 18446744073709551615

abbrev pub turned_with : (turned more : TurnedAway) → TurnedAway
turned_with turned more = record {
  files = plus turned.files more.files;
  quota = plus turned.quota more.quota;
  route = plus turned.route more.route;
  other = plus turned.other more.other;
}

-- those of one line more, if it is the customer's
abbrev pub turned_more : (customer : ℕ) → TurnedAway → LineView → TurnedAway
turned_more customer turned line =
    if line.line.customer == customer then turned_with turned line.counts.turned_away else turned

abbrev pub turned_of : (customer : ℕ) → List LineView → TurnedAway
turned_of customer lines = fold (turned_more customer) none_away lines
