use Rattle.std.proofs.Common.{◌≡◌, ℕ, ◌+◌, List, [], ◌∷◌, ◌++◌, length, ap, arith, subst, sym, ◌∙◌}
use Rattle.std.proofs.lemmas.List.{length-append, length-map}
use Rattle.njh_wire.specs.declared.network.Readiness.{Readiness}
use Rattle.njh_lines.specs.declared.attention.Watch.{Watch}
use Rattle.njh_sites.specs.declared.asking.Asking.{Asking}
use Rattle.njh_lines.specs.declared.entrance.Entrance.{Entrance}
use Rattle.njh_lines.specs.Attention.{at_once, nothing, IsInGroup}
use Rattle.njh_sight.specs.Waking.{with_line, IsRowMade}
use Rattle.njh_sight.specs.declared.customers.Row.{Row}
use Rattle.njh_lines.specs.Watching.{served_line, AreGrouped, ServedLine, Watched}
use Rattle.njh_lines.specs.declared.post.Post.{Post}
use Rattle.njh_lines.proofs.GroupLaws.{one_line_more}
use Rattle.njh_lines.proofs.PostLaws.{post_added}
use Rattle.njh_lines.proofs.exchange.Exchange.add.Goals as goal

-- its group is looked at at once
pub invariant_of-self-2 : goal.invariant_of-self-2
invariant_of-self-2 g c =
    let posts = ap length c.reserve.ensures.items in
    let many : length c.push_reserved-3.new.self.items ≡ length c.self.inside.posts.items + 1 =
    ap length c.push_reserved-3.ensures.items
    ∙ (length-append c.reserve.new.self.items (c.new-2.result ∷ []) ∙ ap (λ (n : ℕ). n + 1) posts) in
    let As : ℕ → Type 0 = λ n. AreGrouped n c.push_reserved.new.self.items c.push_reserved-2.new.self.items
    c.add_to_groups.new.groups.items 0 in
    let here : c.len.result ≡ length c.self.inside.posts.items = omega (arith, posts) in
    let In : ℕ → ℕ → Type 0 = λ group place. IsInGroup place group in
    let groups = c.self.inside.groups.items in
    subst As (sym many) (one_line_more (length c.self.inside.posts.items) c.self.inside.ready.items _
    c.self.inside.watches.items _ groups _ c.self.inside.next
    (c.push_reserved.ensures.items
    ∙ ap (λ (marks : List Readiness). marks ++ nothing ∷ []) c.reserve-2.ensures.items)
    (c.push_reserved-2.ensures.items
    ∙ ap (λ (watches : List Watch). watches ++ at_once ∷ []) c.reserve-3.ensures.items)
    (omega (arith, here, c.in_ok-add_to_groups.ensures.room (omega (arith, here, c.self.invariant.many_groups))))
    c.add_to_groups.ensures.lowers
    (λ group within. c.in_ok-add_to_groups.ensures.calls group (subst (In group) (sym here) within))
    c.add_to_groups.ensures.stays
    (λ group within. c.in_ok-add_to_groups.ensures.due group (subst (In group) (sym here) within))
    (λ group elsewhere. c.in_ok-add_to_groups.ensures.others group
    (λ within. elsewhere (subst (In group) here within)))
    c.self.invariant)

-- the line at its site
pub returns-clause-added : goal.returns-clause-added
returns-clause-added g c =
    let P : Type 0 = Post g.row.N-Listener.Denot g.row.N-Connection.Denot in
    post_added g.N.Network.address_of c.self.inside.posts.items c.push_reserved-3.new.self.items c.new-2.result
    c.args.self.now.lines c.args.id c.args.site c.args.from.now
    (c.push_reserved-3.ensures.items ∙ ap (λ (posts : List P). posts ++ c.new-2.result ∷ []) c.reserve.ensures.items)
    (ap (λ (seen : Watched). seen.lines) c.self.view_is) c.new-2.ensures.line
    (c.new-2.ensures.site g.N.Network.address_of)
    (ap (λ (entrance : Entrance (Asking g.row.N-Connection.Denot)). entrance.from)
    (c.new-2.ensures.entrance ∙ c.in_ok-entrance.ensures))
    c.new-2.ensures.state

-- it is the next of its customer's
pub returns-clause-row : goal.returns-clause-row
returns-clause-row g c =
    let P : Type 0 = Post g.row.N-Listener.Denot g.row.N-Connection.Denot in
    let Line : P → ServedLine = λ post. served_line g.N.Network.address_of post in
    let posts = ap length c.reserve.ensures.items in
    let lines : length c.args.self.now.lines ≡ length c.self.inside.posts.items =
    sym (ap (λ (seen : Watched). length seen.lines) c.self.view_is) ∙ length-map c.self.inside.posts.items Line in
    let place : c.len-2.result ≡ length c.args.self.now.lines = omega (arith, posts, lines) in
    let At : ℕ → Type 0 = λ n. IsRowMade c.args.id.customer (with_line c.args.id.customer n)
    c.self.inside.surroundings.customers c.add.new.self in
    let Of : List Row → Type 0 = λ rows. IsRowMade c.args.id.customer
    (with_line c.args.id.customer (length c.args.self.now.lines)) rows c.add.new.self in
    subst Of (ap (λ (seen : Watched). seen.customers) c.self.view_is) (subst At place c.add.ensures)
