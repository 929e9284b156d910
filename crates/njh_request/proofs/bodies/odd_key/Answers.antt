use Rattle.std.proofs.Common.{◌≡◌, ◌∙◌, [], List, None, subst, sym}
use Rattle.json.specs.Strict.{keys}
use Rattle.json.specs.Value.{members_view}
use Rattle.njh_request.specs.Members.{key_fault, odd_from}
use Rattle.njh_request.proofs.MemberLaws.{Member, odd_later}
use Rattle.njh_request.proofs.bodies.odd_key.Goals as goal

pub loop-place-preserved : goal.loop-place-preserved
loop-place-preserved c =
    let ms = c.args.members.now in
    let m = c.index-members-place.result in
    odd_later c.args.form ms c.loop-place.place m (odd_from c.args.form [] (keys (members_view ms))) c.loop-place-test.true
    c.index-members-place.is
    (subst (λ (some : List Member). key_fault c.args.form (keys (members_view some)) m.0.now ≡ None)
    c.split_at.ensures.front (sym c.key_fault.ensures ∙ c.in-None.is)) c.loop-place.invariant
