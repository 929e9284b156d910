use Rattle.std.proofs.Common.{◌≡◌, ◌++◌, [], ◌∷◌, Some, ◌+◌, ◌-◌, ◌<◌, suc, length, map, arith, ap, sym, ◌∙◌}
use Rattle.std.proofs.lemmas.Bool.Decides.{nat_tests}
use Rattle.std.proofs.lemmas.Result.{on_ok_weaker}
use Rattle.njh_spoolfile.specs.Kept.{contents_of}
use Rattle.njh_spoolfile.specs.Packed.{first_packed, placed_from, several, unpacked_up_to}
use Rattle.njh_spoolfile.proofs.PackedLaws.{of_several, reads_last, reads_more, reads_none}
use Rattle.njh_spoolfile.proofs.packing.unpack.Goals as goal
use Rattle.njh_spoolfile.proofs.packing.unpack.Goals.{else-loop-test, then-loop-test+in_default}

pub returns-then-is_empty : goal.returns-then-is_empty
returns-then-is_empty c =
    let done = map contents_of c.loop.into.items in
    let rest = c.loop.rest.now in
    let most = c.len-end.result - (c.loop.counter + 1) in
    let left : suc most ≡ c.len-end.result - c.loop.counter = omega (arith, c.loop-test.true) in
    let first : first_packed rest ≡ Some ((c.in-Some.srcb, c.in-Some.bytes.now), c.in-Some.behind.now) =
    sym c.in-Some.ensures in
    let ends : length c.in-Some.behind.now ≡ 0 = grind (arith, nat_tests, c.if-is_empty.ensures) in
    let srcb : c.args.row.srcb ≡ several = grind (arith, nat_tests, c.if-row-from.false, c.from.ensures) in
    let added : map contents_of c.add.new.into.items
    ≡ done ++ (c.loop.place, c.in-Some.srcb, c.in-Some.bytes.now) ∷ [] =
    c.in_ok-add.ensures ∙ ap (λ n. done ++ (c.loop.place, n, c.in-Some.bytes.now) ∷ []) c.from-in-loop.ensures in
    added
    ∙ reads_last done c.loop.place most rest (c.in-Some.srcb, c.in-Some.bytes.now) c.in-Some.behind.now first ends
    ∙ ap (λ n. done ++ placed_from c.loop.place (unpacked_up_to n rest)) left ∙ c.loop.invariant
    ∙ of_several (map contents_of c.args.into.now.items) c.args.row.place c.args.row.srcb c.args.row.bytes.items srcb

pub loop-preserved : goal.loop-preserved
loop-preserved c =
    let done = map contents_of c.loop.into.items in
    let rest = c.loop.rest.now in
    let behind = c.in-Some.behind.now in
    let most = c.len-end.result - (c.loop.counter + 1) in
    let left : suc most ≡ c.len-end.result - c.loop.counter = omega (arith, c.loop-test.true) in
    let first : first_packed rest ≡ Some ((c.in-Some.srcb, c.in-Some.bytes.now), behind) = sym c.in-Some.ensures in
    let some : 0 < length behind = grind (arith, nat_tests, c.if-is_empty.ensures) in
    let next : c.in-Some-checked_add.next ≡ c.loop.place + 1 = c.in-Some-checked_add.ensures.1 in
    let added : map contents_of c.add.new.into.items
    ≡ done ++ (c.loop.place, c.in-Some.srcb, c.in-Some.bytes.now) ∷ [] =
    c.in_ok-add.ensures ∙ ap (λ n. done ++ (c.loop.place, n, c.in-Some.bytes.now) ∷ []) c.from-in-loop.ensures in
    (λ i. added i ++ placed_from (next i) (unpacked_up_to most behind))
    ∙ reads_more done c.loop.place most rest (c.in-Some.srcb, c.in-Some.bytes.now) behind first some
    ∙ ap (λ n. done ++ placed_from c.loop.place (unpacked_up_to n rest)) left ∙ c.loop.invariant

pub returns : goal.returns
returns c =
    let done = map contents_of c.loop.into.items in
    let rest = c.loop.rest.now in
    let left = c.len-end.result - c.loop.counter in
    let none : done ++ (c.loop.place, several, rest) ∷ []
    ≡ done ++ placed_from c.loop.place (unpacked_up_to left rest) =
    elim c.loop-test.branch [
      | else-loop-test w ↦
          let ends : 0 ≡ left = omega (arith, w.loop-test.false) in
          ap (λ n. done ++ placed_from c.loop.place (unpacked_up_to n rest)) ends
      | then-loop-test+in_default w ↦ reads_none done c.loop.place left rest (sym w.in_default.ensures)
    ] in
    let srcb : c.args.row.srcb ≡ several = grind (arith, nat_tests, c.if-row-from.false, c.from.ensures) in
    on_ok_weaker c.add-2.result (λ added. added ∙ ap (λ n. done ++ (c.loop.place, n, rest) ∷ []) c.from-2.ensures
    ∙ none ∙ c.loop.invariant
    ∙ of_several (map contents_of c.args.into.now.items) c.args.row.place c.args.row.srcb c.args.row.bytes.items srcb)
    c.add-2.ensures
