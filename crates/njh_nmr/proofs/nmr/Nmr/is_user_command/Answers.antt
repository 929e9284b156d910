use Rattle.std.proofs.Common.{ap, ◌∙◌, arith}
use Rattle.njh_nmr.specs.Nodal.{is_user_command}
use Rattle.njh_nmr.proofs.Flags.{both_bits}
use Rattle.njh_nmr.proofs.nmr.Nmr.is_user_command.Goals as goal

pub returns-then-self-ne0 : goal.returns-then-self-ne0
returns-then-self-ne0 c =
    both_bits c.self.inside.flag (omega arith) c.if-self-ne0.true ∙ ap is_user_command c.self.view_is
