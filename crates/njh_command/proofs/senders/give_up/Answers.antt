-- One stream more.
use Rattle.std.proofs.Common.{ap, ◌∙◌, set}
use Rattle.std.proofs.lemmas.List.Edits.{map_over_more}
use Rattle.njh_command.specs.Commands.{without_file}
use Rattle.njh_command.proofs.senders.give_up.Goals as goal

pub loop-place-preserved : goal.loop-place-preserved
loop-place-preserved c =
    ap (set c.loop-place.senders c.loop-place.place) c.give_up_one.ensures
    ∙ map_over_more (without_file c.args.file) c.args.senders.now c.loop-place.senders c.loop-place.place
    c.index-senders-place.result
    c.loop-place-test.true c.loop-place.invariant c.index-senders-place.is
