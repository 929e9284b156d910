use Rattle.njh_keeper.proofs.Words
use Words.{◌≡◌, ◌<◌, arith, false, None, length, get_or, set, map, refl, sym, ap, subst, map-set, with_item}
use Words.{HasCleanDisk, shown, GoesTo, memory_of, numbers_of, whole_of, AreOne, named_nodes, SpoolWriter, leads_by}
use Words.{leads_nothing, leads_weaker}
use Rattle.njh_keeper.proofs.{CountingLaws.rows_as_one_changes, FollowingLaws.{quiet_changed, quiet_same}}
use Rattle.njh_keeper.proofs.{ListLaws.{at_place, within_seen}, StillLaws.{IsDecided, memory_changed, row_changes}}
use Rattle.njh_keeper.proofs.{StillLaws.row_stays}
use Rattle.njh_keeper.proofs.rewriting.follow_one.Goals.{else-changes_row, then-changes_row+in_ok-change_row}
use Rattle.njh_keeper.proofs.rewriting.follow_one.Goals as goal

pub returns-clause-led : goal.returns-clause-led
returns-clause-led g c f hub_file clean =
    let m = memory_of c.args.writer.now c.args.own.now in
    let i = c.args.place in
    let items = c.args.own.now.whole.items in
    let first = c.index.result.now in
    let k = whole_of first in
    let there : i < length m.own.whole = within_seen whole_of items i c.requires in
    let is : k ≡ get_or m.own.whole i k = at_place whole_of items i first c.requires c.index.ensures in
    let summary = c.args.summary.now in
    let now = c.kept_now-now.result in
    let sent_on = c.is_rewritten-is_sent_on.result in
    let said = c.is_rewritten-is_sent_on.ensures in
    let decided : IsDecided m i k there is f summary hub_file.summary_is hub_file.headers sent_on (whole_of now) =
    record {
      rewritten = λ yes. ap whole_of (c.kept_now-now.ensures.sent_on yes);
      still = λ no. ap whole_of (c.kept_now-now.ensures.still no);
      one = λ yes same. subst (λ rs. AreOne (named_nodes None rs)) hub_file.records_are (said.one yes same);
      same = said.same;
      several = λ no mixed one. said.several no mixed
          (subst (λ rs. AreOne (named_nodes None rs)) (sym hub_file.records_are) one);
    } in
    let to = memory_changed m i k there is (whole_of now) in
    let own = record c.args.own.now { whole = with_item c.args.own.now.whole i now } in
    let whole : map whole_of (set items i now) ≡ set m.own.whole i (whole_of now) = map-set whole_of items i now in
    elim c.if-changes_row.branch [
      | then-changes_row+in_ok-change_row w ↦
          rw w.writer-is (
          let led : memory_of w.change_row.new.writer own ≡ to =
          λ j. record {
            numbers = ap numbers_of w.change_row.ensures.others j;
            own = record m.own { whole = whole j };
            text = m.text;
          } in
          let changed = w.in_ok-change_row.ensures.changed
          (subst (λ (x : SpoolWriter g.row.S.Denot). HasCleanDisk (shown g.S.Store x.store)) w.writer-is clean) in
          leads_weaker (leads_by changed.changes) (λ s t is_changed files has before. (
            set files i f,
            refl,
            subst (λ x. GoesTo m x s t (set files i f)) (sym led) (subst (λ u. GoesTo m to s u (set files i f))
                (sym is_changed)
                (row_changes m i k there is f summary hub_file.summary_is hub_file.headers s files has before sent_on
                (whole_of now) decided changed.row changed.is_row)),
          )))
      | else-changes_row w ↦
          let stays = c.changes_row.ensures w.if-changes_row.false in
          rw w.writer-is (
          let led : memory_of c.args.writer.now own ≡ to =
          λ j. record { numbers = m.numbers; own = record m.own { whole = whole j }; text = m.text } in
          leads_nothing (λ s files has before. (
            set files i f,
            refl,
            subst (λ x. GoesTo m x s s (set files i f)) (sym led)
                (row_stays m i k there is f summary hub_file.summary_is hub_file.headers s files has before sent_on
                (whole_of now) decided stays.0 stays.1),
          )))
    ]

pub returns-clause-grows : goal.returns-clause-grows
returns-clause-grows g c =
    let rows = rows_as_one_changes c.args.own.now c.args.place c.index.result.now c.kept_now-now.result c.requires
    c.index.ensures c.kept_now-now.ensures.records in
    elim c.if-changes_row.branch [
      | then-changes_row+in_ok-change_row w ↦
          let waits = ap (λ (x : SpoolWriter g.row.S.Denot). x.waiting) w.change_row.ensures.others in
          rw w.writer-is (omega (arith, rows, waits))
      | else-changes_row w ↦ rw w.writer-is (omega (arith, rows))
    ]

pub returns-clause-quiet : goal.returns-clause-quiet
returns-clause-quiet g c =
    elim c.if-changes_row.branch [
      | then-changes_row+in_ok-change_row w ↦
          rw w.writer-is (quiet_changed c.args.writer.now w.change_row.new.writer w.in_ok-change_row.ensures.due)
      | else-changes_row w ↦ rw w.writer-is (quiet_same c.args.writer.now)
    ]
