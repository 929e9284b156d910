use Rattle.std.proofs.Common.{refl, rules}
use Rattle.std.proofs.lemmas.Result.{on_ok_weaker}
use Rattle.serde_json.specs.View.{view}
use Rattle.njh_ctl.proofs.RowLaws.{grows_more}
use Rattle.njh_ctl.specs.Shown.{Adds, AreUsers, Grows, file_text, size_text}
use Rattle.njh_ctl.proofs.shown.show_file.Goals as goal

pub returns-clause-shown : goal.returns-clause-shown
returns-clause-shown c =
    let front = file_text c.args.customer.now c.in_ok-name.name.now c.in_ok-kind.kind.now c.in_ok-state.state.now in
    let size = size_text c.in_ok-records.records c.in_ok-blocks.blocks in
    let begun : Grows front c.args.out.now c.add.new.out = search rules in
    let sized : Grows size c.add.new.out c.add-2.new.out = search rules in
    let way = c.in_ok-show_way.ensures.shown in
    let owner = view c.in_ok-member.field-0.now in
    let destination = view c.in_ok-member-2.field-0.now in
    let new = c.show_users.new.out in
    on_ok_weaker c.show_users.result (λ (users : Adds (AreUsers owner destination) c.show_way.new.out new). (
      _,
      record {
        name = c.in_ok-name.name.now;
        kind = c.in_ok-kind.kind.now;
        state = c.in_ok-state.state.now;
        records = c.in_ok-records.records;
        blocks = c.in_ok-blocks.blocks;
        way = way.0;
        owner = owner;
        destination = destination;
        users = users.0;
        name_is = c.in_ok-name.ensures.understood;
        kind_is = c.in_ok-kind.ensures.understood;
        state_is = c.in_ok-state.ensures.understood;
        records_are = c.in_ok-records.ensures.understood;
        blocks_are = c.in_ok-blocks.ensures.understood;
        way_is = way.1;
        owner_is = c.in_ok-member.ensures.found;
        destination_is = c.in_ok-member-2.ensures.found;
        users_are = users.1;
        text_is = refl;
      },
      grows_more front _ c.args.out.now c.add.new.out new begun
          (grows_more size _ c.add.new.out c.add-2.new.out new sized
          (grows_more way.0 users.0 c.add-2.new.out c.show_way.new.out new way.2 users.2)),
    )) c.show_users.ensures.shown
