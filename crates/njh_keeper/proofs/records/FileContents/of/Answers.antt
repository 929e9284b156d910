use Rattle.njh_keeper.proofs.Words
use Words.{◌≡◌, true, map, List, rules, subst, sym, ◌∙◌, arith, StoredRecord, contents_of, are_records_from}
use Rattle.njh_keeper.proofs.SentLaws.{has_room}
use Rattle.njh_keeper.proofs.records.FileContents.of.Goals as goal

pub invariant_of-result : goal.invariant_of-result
invariant_of-result c =
    let before = c.args.records.items in
    let all : c.are_records.result ≡ true = search rules in
    let sent : c.send_records.result ≡ true = search rules in
    let fit : are_records_from 0 (map contents_of before) ≡ true =
    subst (λ (rs : List StoredRecord). are_records_from 0 (map contents_of rs) ≡ true) c.as_slice.ensures.value
    (sym c.are_records.ensures ∙ all) in (
      omega (arith, c.send_records.ensures.long),
      has_room c.args.kind c.as_str.result.now before c.send_records.new.records.items fit
          (c.send_records.ensures.sent sent),
    )
