use Rattle.std.proofs.Common.{rules, ◌≡◌, ℕ, List, ◌∷◌, Some, None, refl, ◌∙◌, ap, arith}
use Rattle.njh_keeper.proofs.NextNodeLaws.{begins, empty, ends, from_zero, goes_on, none_named, nothing, other}
use Rattle.njh_keeper.specs.code.Nodes.{named_nodes}
use Rattle.njh_keeper.proofs.hub_records.are_mixed.Goals as goal

pub returns-in_default-clause-one : goal.returns-in_default-clause-one
returns-in_default-clause-one c =
    λ e. none_named c.args.records (nothing (named_nodes (Some 0) c.args.records) c.next_node.result
    c.next_node.new.before c.next_node.new.records c.next_node.ensures.nodes
    c.in_default.is (c.next_node.ensures.none c.in_default.is))

pub loop-init : goal.loop-init
loop-init c = (
  begins (named_nodes None c.args.records) c.in-Some.first _ (from_zero c.args.records ∙ c.in-Some.ensures.nodes),
  omega (arith, c.in-Some.ensures.fewer_where refl),
)

pub next_node-requires-in-loop : goal.next_node-requires-in-loop
next_node-requires-in-loop c = omega (arith, c.loop.invariant.1, c.requires)

pub returns-then-ne-clause-several : goal.returns-then-ne-clause-several
returns-then-ne-clause-several c =
    let differ : c.in-Some-next_node.node ≡ c.in-Some.first → ⊥ = search rules in
    λ e one. differ (other (named_nodes None c.args.records) c.in-Some.first c.in-Some-next_node.node _ _
    c.loop.invariant.0 c.in-Some-next_node.ensures.nodes one)

pub returns-in-None-clause-one : goal.returns-in-None-clause-one
returns-in-None-clause-one c =
    λ e. ends (named_nodes None c.args.records) c.in-Some.first _ c.loop.invariant.0
    (nothing _ c.next_node-in-loop.result c.next_node-in-loop.new.before c.next_node-in-loop.new.records
    c.next_node-in-loop.ensures.nodes c.in-None.is (c.next_node-in-loop.ensures.none c.in-None.is))

pub loop-preserved : goal.loop-preserved
loop-preserved c =
    let same : c.in-Some-next_node.node ≡ c.in-Some.first = search rules in
    let more = named_nodes (Some c.next_node-in-loop.new.before) c.next_node-in-loop.new.records in (
      goes_on (named_nodes None c.args.records) c.in-Some.first _ more c.loop.invariant.0
          (c.in-Some-next_node.ensures.nodes ∙ ap (λ (n : List ℕ). n ∷ more) same),
      omega (arith, c.loop.invariant.1, c.in-Some-next_node.ensures.fewer_where refl),
    )

pub returns-clause-one : goal.returns-clause-one
returns-clause-one c =
    let end = empty c.loop.records (omega (
      arith,
      c.loop.invariant.1,
      c.requires,
      c.loop.auto.counter-end,
      c.loop-test.false,
    )) in
    λ e. ends (named_nodes None c.args.records) c.in-Some.first _ c.loop.invariant.0
    (ap (named_nodes (Some c.loop.before)) end)
