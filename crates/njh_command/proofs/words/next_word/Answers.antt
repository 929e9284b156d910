-- A word stands in front.
use Rattle.std.proofs.Common.{◌∷◌, ℕ, List, map, take, drop, sym, ap, ap₂, ◌∙◌}
use Rattle.njh_ebcdic.specs.Names.{upper}
use Rattle.njh_command.specs.Words.{words}
use Rattle.njh_command.proofs.SplitLaws.{word_in_front}
use Rattle.njh_command.proofs.words.next_word.Goals as goal

pub returns-else-end-eq0 : goal.returns-else-end-eq0
returns-else-end-eq0 c =
    let e = c.count_before-end.ensures.place in
    sym c.after_blanks-rest.ensures.words
    ∙ word_in_front c.after_blanks-rest.result.now (λ none. c.if-end-eq0.false (e ∙ none))
    ∙ ap (λ (n : ℕ). map upper (take n c.after_blanks-rest.result.now) ∷ words (drop n c.after_blanks-rest.result.now))
    (sym e)
    ∙ sym (ap₂ (λ (word rest : List ℕ). map upper word ∷ words rest) c.split_at.ensures.front c.split_at.ensures.back)
