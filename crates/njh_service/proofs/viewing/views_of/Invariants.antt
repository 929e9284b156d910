use Rattle.std.proofs.Common.{◌≡◌, map, take}
use Rattle.njh_service.specs.Bureaus.{post_told, view_told}
use Rattle.njh_service.proofs.viewing.views_of.Given as goal

-- the lines so far are told
abbrev pub invariant-loop-place : goal.invariant-loop-place
invariant-loop-place g l =
    map view_told l.views.items ≡ map post_told (take l.place l.posts)
