use Rattle.std.proofs.{Common.{◌≡◌, false, length, replicate, ap, sym, ◌∙◌}, lemmas.List.{take_at, length-replicate}}
use Rattle.njh_keeper.{proofs.OpeningNumbers.marks_stay, specs.code.Writing.marked_by}
use Rattle.njh_keeper.proofs.writer.free_numbers.marks_of.Goals as goal

pub returns : goal.returns
returns c =
    let files = c.args.files.now in
    let none = replicate 200000 false in
    let is : c.mark_keys.new.marks ≡ marked_by none files = c.mark_keys.ensures ∙ ap (λ marks. marked_by marks files)
    (c.deref_mut.ensures.value ∙ c.in_ok-marks.ensures.items_if_clones_equal (λ y same. same)) in
    take_at c.mark_keys.new.marks _ c.in_ok-marks.marks.len
    (ap length is ∙ marks_stay none files ∙ length-replicate 200000 false ∙ sym c.in_ok-marks.ensures.len) ∙ is
