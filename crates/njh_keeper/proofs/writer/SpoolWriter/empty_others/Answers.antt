use Rattle.std.proofs.Common.{◌≡◌, ◌≤◌, ◌-◌, ◌+◌, ◌^◌, ◌++◌, ◌∙◌, ap, cond, min, nat_lt, sym, subst, true, [], arith}
use Rattle.{std.proofs.lemmas.Bool.Decides.nat_tests, njh_spoolfile.{proofs.ReadingLaws.ok_then, specs.Shelf.shown}}
use Rattle.njh_keeper.proofs.{LeadingLaws.survives_as, OpeningApart.unmarked_unused}
use Rattle.njh_keeper.{proofs.OpeningNumbers.{emptied_is, free_is}, specs.code.Writing.{emptied_at, free_at, is_used}}
use Rattle.njh_keeper.specs.code.Writing.{numbers_but, ShowsNow, unmarked, without_keys}
use Rattle.njh_keeper.proofs.writer.SpoolWriter.empty_others.Goals as goal

pub returns-then-self-gt-LOOKED_FOR-clause-emptied : goal.returns-then-self-gt-LOOKED_FOR-clause-emptied
returns-then-self-gt-LOOKED_FOR-clause-emptied g c clean s at =
    let next = c.args.self.now.next_key in
    let files = c.args.files.now in
    let many : nat_lt 200000 next ≡ true = grind (arith, nat_tests, c.if-self-gt-LOOKED_FOR.true) in
    let none : emptied_at files next ≡ [] = ap (λ b. cond b [] (numbers_but (is_used files) (next + 64))) many in
    subst (λ keys. ShowsNow (without_keys keys) s (shown g.S.Store c.args.self.now.store)) (sym none) (s.kept, at)

pub returns-clause-emptied : goal.returns-clause-emptied
returns-clause-emptied g c clean =
    let next = c.args.self.now.next_key in
    let files = c.args.files.now in
    let new = shown g.S.Store c.empty_unmarked-emptied.new.self.store in
    let few : next ≤ 200000 = omega (arith, c.if-self-gt-LOOKED_FOR.false) in
    let same : unmarked c.deref.result.now (min (next + 64) (2 ^ 32 - 1)) ≡ emptied_at files next =
    emptied_is files next c.deref.result.now few c.requires.below (c.deref.ensures.value ∙ c.in_ok-marks.ensures) in
    ok_then c.empty_unmarked-emptied.result _ _
    (λ done s at. subst (λ keys. ShowsNow (without_keys keys) s new) same (done s at))
    (c.empty_unmarked-emptied.ensures.emptied clean)

pub returns-clause-free : goal.returns-clause-free
returns-clause-free g c =
    let next = c.args.self.now.next_key in
    let files = c.args.files.now in
    let few : next ≤ 200000 = omega (arith, c.if-self-gt-LOOKED_FOR.false) in
    let same : unmarked c.deref.result.now next ≡ free_at files next =
    free_is files next c.deref.result.now few c.requires.below (c.deref.ensures.value ∙ c.in_ok-marks.ensures) in
    ok_then c.empty_unmarked-emptied.result _ _
    (λ done. done ∙ ap (λ keys. c.args.self.now.free_keys.items ++ keys) same) c.empty_unmarked-emptied.ensures.free

pub returns-clause-crash : goal.returns-clause-crash
returns-clause-crash g c =
    let next = c.args.self.now.next_key in
    let files = c.args.files.now in
    let few : next ≤ 200000 = omega (arith, c.if-self-gt-LOOKED_FOR.false) in
    survives_as (λ clean db made. (
      unmarked c.deref.result.now made.0,
      unmarked_unused files c.deref.result.now next made.0 few c.requires.below
          (c.deref.ensures.value ∙ c.in_ok-marks.ensures),
      made.1,
    )) c.empty_unmarked-emptied.ensures.crash
