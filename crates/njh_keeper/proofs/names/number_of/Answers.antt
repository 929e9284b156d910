use Rattle.{std.proofs.Common.{sym, ◌∙◌}, njh_keeper.proofs.HubLaws.no_number}
use Rattle.njh_keeper.proofs.names.number_of.Goals as goal

pub returns-in_default : goal.returns-in_default
returns-in_default c = sym (no_number 0 c.args.names.now c.args.text.now c.in_default.field-0
    (sym c.of_text.ensures ∙ c.in_default.is))
