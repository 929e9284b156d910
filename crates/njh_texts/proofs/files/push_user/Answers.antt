use Rattle.std.proofs.Common.{◌++◌, ◌∷◌, [], ap, sym, ◌∙◌}
use Rattle.std.proofs.lemmas.List.{append_assoc}
use Rattle.njh_ebcdic.specs.Names.{without_end_blanks}
use Rattle.njh_texts.proofs.UserLaws.{user-said}
use Rattle.njh_texts.proofs.files.push_user.Goals as goal

pub returns-then-ne-clause-text : goal.returns-then-ne-clause-text
returns-then-ne-clause-text c =
    c.push_trimmed.ensures.text
    ∙ ap (λ t. t ++ without_end_blanks c.args.user.now) c.push.ensures.items
    ∙ append_assoc c.args.text.now.items (0x40 ∷ []) (without_end_blanks c.args.user.now)
    ∙ ap (λ t. c.args.text.now.items ++ t) (user-said c.args.user.now c.told-user (sym c.ne.ensures ∙ c.if-ne.true))
