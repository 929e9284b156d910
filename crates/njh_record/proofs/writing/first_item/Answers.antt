use Rattle.std.proofs.Common.{sym, ap, ◌∙◌}
use Rattle.njh_record.specs.Spelling.{literal}
use Rattle.njh_record.specs.Writing.{run_item}
use Rattle.njh_record.proofs.WritingLaws.{first_item-run, first_item-literal, SpellsFront-of}
use Rattle.njh_record.proofs.writing.first_item.Goals as goal

pub returns-then-begins_run : goal.returns-then-begins_run
returns-then-begins_run c =
    let is = c.run_item.ensures ∙ (ap (run_item _) c.run_len.ensures
    ∙ sym (first_item-run c.args.bytes.now (sym c.begins_run.ensures ∙ c.if-begins_run.true))) in
    record { item = is; front = SpellsFront-of _ _ c.requires is }

pub returns-else-begins_run : goal.returns-else-begins_run
returns-else-begins_run c =
    let is = ap literal c.literal_len.ensures.front
    ∙ sym (first_item-literal c.args.bytes.now (sym c.begins_run.ensures ∙ c.if-begins_run.false)) in
    record { item = is; front = SpellsFront-of _ _ c.requires is }
