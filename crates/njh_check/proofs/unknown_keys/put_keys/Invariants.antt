use Rattle.std.proofs.Common.{◌≡◌, ◌++◌}
use Rattle.std.specs.List.{flat_map}
use Rattle.toml.specs.View.{members_view}
use Rattle.njh_check.specs.Warnings.{key_warning, names_of}
use Rattle.njh_check.proofs.unknown_keys.put_keys.Given as goal

abbrev pub invariant-loop-name : goal.invariant-loop-name
invariant-loop-name l =
    l.report.items ++ flat_map (key_warning l.part l.place) (names_of (members_view l.name-iterator))
    ≡ l.initial.report.items ++ flat_map (key_warning l.part l.place) (names_of (members_view l.keys.entries))
