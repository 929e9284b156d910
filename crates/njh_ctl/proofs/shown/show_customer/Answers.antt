use Rattle.std.proofs.Common.{OnOk, refl, rules}
use Rattle.std.proofs.lemmas.Result.{on_ok_weaker}
use Rattle.std.specs.Prelude.{string_bytes}
use Rattle.serde_json.specs.View.{view}
use Rattle.njh_ctl.proofs.RowLaws.{grows_more}
use Rattle.njh_ctl.specs.Shown.{Grows, arrived_text, quota_text}
use Rattle.njh_ctl.proofs.shown.show_customer.Goals as goal

pub returns-clause-shown : goal.returns-clause-shown
returns-clause-shown c =
    let front = quota_text c.in_ok-name.name.now c.in_ok-quota.quota c.in_ok-used.used in
    let limits = string_bytes c.in_ok-limits.limits in
    let back = arrived_text c.in_ok-arrived.arrived limits in
    let begun : Grows front c.args.out.now c.add.new.out = search rules in
    let ended : OnOk c.add-2.result (Grows back c.show_tally.new.out c.add-2.new.out) = search rules in
    let tally = c.in_ok-show_tally.ensures.shown in
    on_ok_weaker c.add-2.result (λ (last : Grows back c.show_tally.new.out c.add-2.new.out). (
      _,
      record {
        name = c.in_ok-name.name.now;
        quota = c.in_ok-quota.quota;
        used = c.in_ok-used.used;
        arrived = c.in_ok-arrived.arrived;
        files = view c.in_ok-member.field-0.now;
        tally = tally.0;
        limits = limits;
        name_is = c.in_ok-name.ensures.understood;
        quota_is = c.in_ok-quota.ensures.understood;
        used_is = c.in_ok-used.ensures.understood;
        arrived_is = c.in_ok-arrived.ensures.understood;
        files_are = c.in_ok-member.ensures.found;
        tally_is = tally.1;
        text_is = refl;
      },
      grows_more front _ c.args.out.now c.add.new.out c.add-2.new.out begun
          (grows_more tally.0 back c.add.new.out c.show_tally.new.out c.add-2.new.out tally.2 last),
    )) ended
