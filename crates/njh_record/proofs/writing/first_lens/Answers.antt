use Rattle.std.proofs.Common.{◌≡◌, length, take, sym, ap, ◌∙◌, arith, length-take}
use Rattle.njh_record.specs.Spelling.{literal, added_bytes, item_bytes}
use Rattle.njh_record.specs.Writing.{run_item}
use Rattle.njh_record.proofs.WritingLaws.{first_item-run, first_item-literal, SpellsFront-of}
use Rattle.njh_record.proofs.writing.first_lens.Goals as goal

pub spelled_len-requires : goal.spelled_len-requires
spelled_len-requires c =
    let is = c.run_item-item.ensures ∙ (ap (run_item _) c.run_len.ensures
    ∙ sym (first_item-run c.args.bytes.now (sym c.begins_run.ensures ∙ c.if-begins_run.true))) in
    (SpellsFront-of _ _ c.requires is).fits

pub returns-then-begins_run : goal.returns-then-begins_run
returns-then-begins_run c =
    let is = c.run_item-item.ensures ∙ (ap (run_item _) c.run_len.ensures
    ∙ sym (first_item-run c.args.bytes.now (sym c.begins_run.ensures ∙ c.if-begins_run.true))) in
    let front = SpellsFront-of _ _ c.requires is in
    record {
      spells = c.len.ensures ∙ ap (λ item. length (added_bytes item)) is;
      takes = c.spelled_len.ensures ∙ ap (λ item. length (item_bytes item)) is;
      some = omega (arith, front.some, c.len.ensures);
      within = omega (arith, front.within, c.len.ensures);
    }

pub returns-else-begins_run : goal.returns-else-begins_run
returns-else-begins_run c =
    let bytes = c.args.bytes.now in
    let is = ap literal c.literal_len-len.ensures.front
    ∙ sym (first_item-literal bytes (sym c.begins_run.ensures ∙ c.if-begins_run.false)) in
    let front = SpellsFront-of _ _ c.requires is in
    let size : length (take c.literal_len-len.result bytes) ≡ c.literal_len-len.result =
    omega (arith, length-take c.literal_len-len.result bytes, c.literal_len-len.ensures.within) in
    record {
      spells = sym size ∙ ap (λ item. length (added_bytes item)) is;
      takes = omega (arith, size, ap (λ item. length (item_bytes item)) is);
      some = omega (arith, front.some, size);
      within = c.literal_len-len.ensures.within;
    }
