use Rattle.std.proofs.Common.{◌≡◌, bytes_eq}
use Rattle.std.specs.List.{list_any}
use Rattle.json.specs.Strict.{keys}
use Rattle.json.specs.Value.{members_view}
use Rattle.njh_request.proofs.MemberLaws.{any_behind}
use Rattle.njh_request.proofs.bodies.stands_in.Given as goal

abbrev pub invariant-loop-member : goal.invariant-loop-member
invariant-loop-member l =
    any_behind l.key l.before l.member-index ≡ list_any (λ k. bytes_eq k l.key) (keys (members_view l.before))
