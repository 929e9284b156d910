use Rattle.std.proofs.Common.{◌≡◌, ℕ, List, Option, length, Some, None, refl, sym, ◌∙◌, ap, arith}
use Rattle.{njh_record.specs.Stored.Stored, njh_keeper.proofs.NextNodeLaws.{at_end, empty, fewer, is_none, next_of}}
use Rattle.{std.specs.Prelude.slice_get, njh_keeper.proofs.NextNodeLaws.{no_next, read_one}}
use Rattle.njh_keeper.proofs.HeadersEndLaws.{no_header_names, none_left_names}
use Rattle.njh_keeper.specs.code.Nodes.{named_nodes, with_first}
use Rattle.njh_keeper.proofs.hub_records.next_node.Goals as goal

pub loop-init : goal.loop-init
loop-init c = (refl, omega arith)

pub returns-in_err-srcb-clause-nodes : goal.returns-in_err-srcb-clause-nodes
returns-in_err-srcb-clause-nodes c =
    c.loop.invariant.0
    ∙ at_end c.loop.before c.loop.records c.next_header.new.self c.from_residual.result
    (no_next (slice_get c.loop.records 0) c.in_err-srcb.ensures.srcb) c.in_err-srcb.ensures.rest c.from_residual.ensures

pub returns-in_err-srcb-clause-none : goal.returns-in_err-srcb-clause-none
returns-in_err-srcb-clause-none c =
    λ e. none_left_names c.loop.before c.loop.records c.next_header.new.self
    (no_next (slice_get c.loop.records 0) c.in_err-srcb.ensures.srcb) c.in_err-srcb.ensures.rest

pub returns-then-not-has_headers-clause-nodes : goal.returns-then-not-has_headers-clause-nodes
returns-then-not-has_headers-clause-nodes c = c.loop.invariant.0

pub returns-then-not-has_headers-clause-none : goal.returns-then-not-has_headers-clause-none
returns-then-not-has_headers-clause-none c =
    λ e. no_header_names c.loop.before c.loop.records (sym c.has_headers.ensures ∙ c.if-not-has_headers.true)

pub returns-then-not-has_headers-clause-fewer : goal.returns-then-not-has_headers-clause-fewer
returns-then-not-has_headers-clause-fewer c = omega (arith, c.loop.invariant.1)

pub returns-then-is_some-clause-nodes : goal.returns-then-is_some-clause-nodes
returns-then-is_some-clause-nodes c =
    c.loop.invariant.0 ∙ read_one c.loop.before c.loop.records c.next_header.new.self c.in_ok-srcb.srcb
    c.next_header.new.into.items c.deref.result.now c.node_of-node.result c.in_ok-srcb.ensures.srcb
    c.in_ok-srcb.ensures.header c.in_ok-srcb.ensures.rest c.deref.ensures.0 c.node_of-node.ensures

pub returns-then-is_some-clause-fewer : goal.returns-then-is_some-clause-fewer
returns-then-is_some-clause-fewer c =
    let r = next_of (slice_get c.loop.records 0) c.in_ok-srcb.srcb c.in_ok-srcb.ensures.srcb in
    let one = fewer c.loop.records r.0 r.1 in
    omega (arith, c.loop.invariant.1, ap (λ (rs : List Stored). length rs) c.in_ok-srcb.ensures.rest)

pub returns-then-is_some-clause-fewer_where : goal.returns-then-is_some-clause-fewer_where
returns-then-is_some-clause-fewer_where c =
    let r = next_of (slice_get c.loop.records 0) c.in_ok-srcb.srcb c.in_ok-srcb.ensures.srcb in
    let one = fewer c.loop.records r.0 r.1 in
    λ some. omega (arith, c.loop.invariant.1, ap (λ (rs : List Stored). length rs) c.in_ok-srcb.ensures.rest)

pub loop-preserved : goal.loop-preserved
loop-preserved c =
    let r = next_of (slice_get c.loop.records 0) c.in_ok-srcb.srcb c.in_ok-srcb.ensures.srcb in
    let one = fewer c.loop.records r.0 r.1 in
    let none : c.node_of-node.result ≡ None =
    is_none c.node_of-node.result (sym c.is_some.ensures ∙ c.if-is_some.false) in (
      c.loop.invariant.0 ∙ read_one c.loop.before c.loop.records c.next_header.new.self c.in_ok-srcb.srcb
          c.next_header.new.into.items c.deref.result.now c.node_of-node.result c.in_ok-srcb.ensures.srcb
          c.in_ok-srcb.ensures.header c.in_ok-srcb.ensures.rest c.deref.ensures.0 c.node_of-node.ensures
          ∙ ap (λ (n : Option (List ℕ)). with_first n (named_nodes (Some c.in_ok-srcb.srcb) c.next_header.new.self))
          none,
      omega (arith, c.loop.invariant.1, ap (λ (rs : List Stored). length rs) c.in_ok-srcb.ensures.rest),
    )

pub returns-clause-nodes : goal.returns-clause-nodes
returns-clause-nodes c = c.loop.invariant.0

pub returns-clause-none : goal.returns-clause-none
returns-clause-none c = λ e. ap (named_nodes (Some c.loop.before)) (empty c.loop.records
    (omega (arith, c.loop.invariant.1, c.requires, c.loop.auto.counter-end, c.loop-test.false)))

pub returns-clause-fewer : goal.returns-clause-fewer
returns-clause-fewer c = omega (arith, c.loop.invariant.1)
