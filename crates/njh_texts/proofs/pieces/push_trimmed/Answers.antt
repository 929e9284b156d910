use Rattle.std.proofs.Common.{◌++◌, ap, sym, ◌∙◌, bytes_eq, drop, replicate, take}
use Rattle.std.proofs.lemmas.List.{append_assoc}
use Rattle.njh_ebcdic.specs.Names.{without_end_blanks}
use Rattle.njh_texts.proofs.Halves.{trimmed-back, trimmed-front}
use Rattle.njh_texts.proofs.pieces.push_trimmed.Goals as goal

pub returns-then-eq-clause-text : goal.returns-then-eq-clause-text
returns-then-eq-clause-text c =
    let blank = ap (λ b. bytes_eq b (replicate 4 0x40)) (sym c.half_at-back.ensures) ∙ sym c.eq.ensures
    ∙ c.if-eq.true in
    c.push_trimmed_half.ensures
    ∙ ap (λ t. c.args.text.now.items ++ t)
    (ap without_end_blanks c.half_at-front.ensures ∙ trimmed-front c.args.field.now c.told-field blank)

pub returns-else-eq-clause-text : goal.returns-else-eq-clause-text
returns-else-eq-clause-text c =
    let other = ap (λ b. bytes_eq b (replicate 4 0x40)) (sym c.half_at-back.ensures) ∙ sym c.eq.ensures
    ∙ c.if-eq.false in
    c.push_trimmed_half-else-eq.ensures
    ∙ ap (λ t. t ++ without_end_blanks c.half_at-back.result) c.put_bytes.ensures
    ∙ append_assoc c.args.text.now.items c.half_at-front.result (without_end_blanks c.half_at-back.result)
    ∙ ap (λ t. c.args.text.now.items ++ t)
    (ap (λ b. c.half_at-front.result ++ without_end_blanks b) c.half_at-back.ensures
    ∙ ap (λ front. front ++ without_end_blanks (take 4 (drop 4 c.args.field.now))) c.half_at-front.ensures
    ∙ trimmed-back c.args.field.now c.told-field other)
