use Rattle.std.proofs.Common.{◌≡◌, []}
use Rattle.json.specs.Strict.{keys}
use Rattle.json.specs.Value.{members_view}
use Rattle.njh_request.specs.Members.{odd_from}
use Rattle.njh_request.proofs.MemberLaws.{odd_behind}
use Rattle.njh_request.proofs.bodies.odd_key.Given as goal

abbrev pub invariant-loop-place : goal.invariant-loop-place
invariant-loop-place l =
    odd_behind l.form l.members l.place ≡ odd_from l.form [] (keys (members_view l.members))
