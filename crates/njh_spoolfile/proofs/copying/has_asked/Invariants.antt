use Rattle.std.proofs.Common.{◌≡◌, false, option_map, take}
use Rattle.std.specs.List.{list_any}
use Rattle.njh_spoolfile.specs.Copies.{is_asked}
use Rattle.njh_spoolfile.specs.Kept.{file_of}
use Rattle.njh_spoolfile.proofs.copying.has_asked.Given as goal

-- none of so many is
abbrev pub invariant-loop-stored : goal.invariant-loop-stored
invariant-loop-stored l =
    list_any (λ f. is_asked (option_map (λ c. c.now) l.customer) (file_of f.file)) (take l.stored-index l.files) ≡ false
