use Rattle.std.proofs.Common.{ℕ, List, Option, None, Some, map, subst, sym}
use Rattle.std.specs.Prelude.{String, string_bytes}
use Rattle.std.specs.declared.alloc.Global.{Global}
use Rattle.njh_ctl.specs.Asked.{Gathered, IsName, PartGathered, gathering_begins, gathering_goes_on}
use Rattle.njh_ctl.specs.Lists.{Customers}
use Rattle.njh_ctl.proofs.asker.Asker.gather_names.Goals as goal

pub loop-init : goal.loop-init
loop-init g c =
    let link = c.args.self.now in
    subst (λ (names : List (String Global)). Gathered Customers IsName link link (map string_bytes names) (Some 0))
    (sym c.requires) gathering_begins

pub returns-in-None-clause-done : goal.returns-in-None-clause-done
returns-in-None-clause-done g c =
    let mid = c.loop.self in
    let new = c.names_from.new.self in
    let before = map string_bytes c.loop.names.items in
    let after = map string_bytes c.names_from.new.names.items in
    gathering_goes_on mid new before after c.loop.from None c.loop.invariant
    (subst (λ (next : Option ℕ). PartGathered Customers IsName c.loop.from mid new before after next) c.in-None.is
    c.in_ok-next.ensures.done)

pub loop-preserved : goal.loop-preserved
loop-preserved g c =
    let mid = c.loop.self in
    let new = c.names_from.new.self in
    let before = map string_bytes c.loop.names.items in
    let after = map string_bytes c.names_from.new.names.items in
    gathering_goes_on mid new before after c.loop.from (Some c.in-Some.next) c.loop.invariant
    (subst (λ (next : Option ℕ). PartGathered Customers IsName c.loop.from mid new before after next) c.in-Some.is
    c.in_ok-next.ensures.done)
