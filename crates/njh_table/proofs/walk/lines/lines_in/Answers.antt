use Rattle.std.proofs.Common.{◌≡◌, ◌+◌, ◌++◌, [], ◌∷◌, length, map, drop, ap, sym, ◌∙◌, arith}
use Rattle.std.proofs.lemmas.List.{length-append, length-map}
use Rattle.toml.specs.View.{view, items_view}
use Rattle.njh_table.specs.declared.places.Part.TheVariants as parts
use Rattle.njh_table.specs.TableFile.{names_in, line_owners}
use Rattle.njh_table.specs.Walk.{next_line, lines_onto}
use Rattle.njh_table.proofs.OwnersLaws.{names_after, owners_push}
use Rattle.njh_table.proofs.Loops.{turn, goes_on, ends, stops}
use Rattle.njh_table.proofs.walk.lines.lines_in.Goals as goal

pub next_line-requires : goal.next_line-requires
next_line-requires c =
    let taken = names_in c.args.owners.now in
    let names = ap names_in c.loop-value.invariant.1
    ∙ names_after c.args.owners.now c.args.customer c.loop-value.lines.items in
    simp names (simp (length-append, length-map) (omega (arith, c.loop-value.lines.ok.0)))

pub returns-in_err-line-clause-walk : goal.returns-in_err-line-clause-walk
returns-in_err-line-clause-walk c =
    let taken = names_in c.args.owners.now in
    let done = c.loop-value.lines.items in
    let names = ap names_in c.loop-value.invariant.1 ∙ names_after c.args.owners.now c.args.customer done in
    let taken_now = taken ++ map (λ l. l.name) done in
    let part = parts.Line c.args.customer c.len.result in
    let here_part : part ≡ parts.Line c.args.customer (length done) =
    ap (parts.Line c.args.customer) (c.len.ensures ∙ c.loop-value.lines.ok.0) in
    let here = turn c.args.values.now c.loop-value.value-index c.value-item.result c.loop-value-test.true
    c.value-item.is in
    stops _ _ _ _ c.from_residual.ensures.1
    (λ no_memory. sym c.loop-value.invariant.0 ∙ ap (lines_onto c.args.customer taken done) here
    ∙ ends _ _ _ (ap (λ n. next_line n taken_now (view c.value-item.result)) (sym here_part)
    ∙ ap (λ n. next_line part n (view c.value-item.result)) (sym names)
    ∙ c.in_err-line.ensures.walk no_memory))

pub loop-value-preserved : goal.loop-value-preserved
loop-value-preserved c =
    let taken = names_in c.args.owners.now in
    let done = c.loop-value.lines.items in
    let line = c.in_ok-line.line in
    let names = ap names_in c.loop-value.invariant.1 ∙ names_after c.args.owners.now c.args.customer done in
    let taken_now = taken ++ map (λ l. l.name) done in
    let part = parts.Line c.args.customer c.len.result in
    let here_part : part ≡ parts.Line c.args.customer (length done) =
    ap (parts.Line c.args.customer) (c.len.ensures ∙ c.loop-value.lines.ok.0) in
    let here = turn c.args.values.now c.loop-value.value-index c.value-item.result c.loop-value-test.true
    c.value-item.is in
    let walked = ap (lines_onto c.args.customer taken done) here
    ∙ goes_on _ _ _ (ap (λ n. next_line n taken_now (view c.value-item.result)) (sym here_part)
    ∙ ap (λ n. next_line part n (view c.value-item.result)) (sym names)
    ∙ c.in_ok-line.ensures.walk) in (
      ap (λ ls. lines_onto c.args.customer taken ls
          (items_view (drop (c.loop-value.value-index + 1) c.args.values.now))) c.in_ok-push.ensures.items ∙ sym walked
          ∙ c.loop-value.invariant.0,
      c.in_ok-line.ensures.owners
          ∙ ap (λ owners. owners ++ (line.name, record { customer = c.args.customer; number = c.len.result }) ∷ [])
          c.loop-value.invariant.1
          ∙ owners_push c.args.owners.now c.args.customer done line c.len.result
          (c.len.ensures ∙ c.loop-value.lines.ok.0)
          ∙ ap (λ ls. c.args.owners.now ++ line_owners c.args.customer 0 ls) (sym c.in_ok-push.ensures.items),
    )
