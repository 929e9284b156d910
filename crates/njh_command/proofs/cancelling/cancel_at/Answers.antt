-- The file is none of them, and nothing is done.
use Rattle.std.proofs.Common.{◌≡◌, Bool, true, false, rules, sym, ap, ◌∙◌, slice_set}
use Rattle.njh_spool.specs.Spools.{spool_at}
use Rattle.njh_command.specs.code.Changes.{file_class_by, without_where}
use Rattle.njh_command.specs.declared.changing.FileClass.TheVariants.{Other}
use Rattle.njh_command.specs.Commands.{is_of_name, is_sending}
use Rattle.njh_command.specs.Files.{file_at}
use Rattle.njh_command.proofs.WalkLaws.{unmoved}
use Rattle.njh_command.proofs.cancelling.cancel_at.Goals as goal

none : (passes sending : Bool) → Other ≡ file_class_by passes sending → passes ≡ false
none false sending e = search rules
none true false e = absurd (cc e)
none true true e = absurd (cc e)

pub returns-in-Other-clause-spool : goal.returns-in-Other-clause-spool
returns-in-Other-clause-spool g c =
    unmoved c.args.spool.now c.args.choice.now.customer
    ∙ ap (λ b. slice_set c.args.spool.now c.args.choice.now.customer
    (without_where b c.args.index (spool_at c.args.choice.now.customer c.args.spool.now)))
    (sym (none (is_of_name c.args.choice.now.who c.args.choice.now.name
    (file_at c.args.index (spool_at c.args.choice.now.customer c.args.spool.now)))
    (is_sending (file_at c.args.index (spool_at c.args.choice.now.customer c.args.spool.now)).state)
    (sym c.in-Other.is ∙ c.judge.ensures)))
