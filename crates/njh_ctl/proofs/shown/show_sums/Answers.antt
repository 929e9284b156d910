use Rattle.std.proofs.Common.{OnOk, refl, rules}
use Rattle.std.proofs.lemmas.Result.{on_ok_weaker}
use Rattle.serde_json.specs.View.{view}
use Rattle.njh_ctl.proofs.RowLaws.{grows_more}
use Rattle.njh_ctl.specs.Shown.{Grows, blocks_text, lines_text}
use Rattle.njh_ctl.proofs.shown.show_sums.Goals as goal

pub returns-clause-shown : goal.returns-clause-shown
returns-clause-shown c =
    let front = lines_text c.in_ok-customers.customers c.in_ok-up.up c.in_ok-all.all in
    let back = blocks_text c.in_ok-files.files c.in_ok-used.used c.in_ok-left.left in
    let begun : Grows front c.args.out.now c.add.new.out = search rules in
    let ended : OnOk c.add-2.result (Grows back c.add.new.out c.add-2.new.out) = search rules in
    on_ok_weaker c.add-2.result (λ (last : Grows back c.add.new.out c.add-2.new.out). (
      _,
      record {
        customers = c.in_ok-customers.customers;
        files = c.in_ok-files.files;
        lines = view c.in_ok-lines.lines.now;
        up = c.in_ok-up.up;
        all = c.in_ok-all.all;
        blocks = view c.in_ok-blocks.blocks.now;
        used = c.in_ok-used.used;
        rest = c.in_ok-left.left;
        customers_are = c.in_ok-customers.ensures.understood;
        files_are = c.in_ok-files.ensures.understood;
        lines_are = c.in_ok-lines.ensures.found;
        up_is = c.in_ok-up.ensures.understood;
        all_is = c.in_ok-all.ensures.understood;
        blocks_are = c.in_ok-blocks.ensures.found;
        used_is = c.in_ok-used.ensures.understood;
        rest_is = c.in_ok-left.ensures.understood;
        text_is = refl;
      },
      grows_more front back c.args.out.now c.add.new.out c.add-2.new.out begun last,
    )) ended
