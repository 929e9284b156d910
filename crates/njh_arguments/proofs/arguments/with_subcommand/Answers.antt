use Rattle.njh_arguments.proofs.arguments.with_subcommand.Goals as goal

pub returns-in-Ok : goal.returns-in-Ok
returns-in-Ok c app sub program_is whole_is whole_local =
    c.with_whole.ensures app sub program_is (rw c.in-Ok.is at whole_is) (rw c.in-Ok.is at whole_local)
