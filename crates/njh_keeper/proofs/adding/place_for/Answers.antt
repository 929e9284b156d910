use Rattle.njh_keeper.proofs.Words
use Words.{◌≤◌, arith, map, refl, sym, ap, subst, ◌∙◌, memory_of, stage_of, numbers_of, own_of, partial_of, rows_of}
use Rattle.{std.specs.Prelude.string_bytes, njh_keeper.proofs.{CountingLaws.rows_as_partial_goes, HandLaws.key_leads}}
use Rattle.njh_keeper.proofs.{HandLaws.partial_leads, ListLaws.{at_place, map-remove, within_seen}}
use Rattle.njh_keeper.specs.declared.own_files.OwnFiles.{OwnFiles}
use Rattle.njh_keeper.proofs.adding.place_for.Goals as goal

pub returns-in-Some-clause-led : goal.returns-in-Some-clause-led
returns-in-Some-clause-led g c f number records clean =
    let m = memory_of c.args.writer.now c.args.own.now in
    let before = stage_of g.S.Store c.args.writer.now c.args.own.now in
    let after = stage_of g.S.Store c.args.writer.now c.take_partial.new.self in
    let items = c.args.own.now.partial.items in
    let p = c.in-Some.partial in
    let taken = c.in-Some.ensures.taken in
    let i = taken.0 in
    let others = c.take_partial.ensures.others in
    partial_leads before after.memory f i (partial_of p) (within_seen partial_of items i taken.1)
    (at_place partial_of items i p taken.1 taken.2) (sym number ∙ sym taken.4) (subst (λ n. p.seen ≤ n) records taken.5)
    (λ j. record {
      numbers = m.numbers;
      own = (ap own_of others ∙ ap (λ xs. record m.own { partial = xs })
          (ap (map partial_of) taken.3 ∙ map-remove partial_of items i)) j;
      text = ap (λ (x : OwnFiles). string_bytes x.text) others j;
    })

pub returns-in_ok-take_key-in-None-clause-led : goal.returns-in_ok-take_key-in-None-clause-led
returns-in_ok-take_key-in-None-clause-led g c f number records clean =
    let before = stage_of g.S.Store c.args.writer.now c.args.own.now in
    let after = stage_of g.S.Store c.take_key.new.self c.take_partial.new.self in
    let same = (c.take_partial.ensures.none c.in-None.is).0 in
    key_leads before after f c.in_ok-take_key-in-None.field-0 0 c.take_key.new.self.free_keys.items
    c.take_key.new.self.next_key
    c.in_ok-take_key-in-None.ensures.taken refl
    (λ j. record {
      numbers = ap numbers_of c.take_key.ensures.others j;
      own = ap own_of same j;
      text = ap (λ (x : OwnFiles). string_bytes x.text) same j;
    }) (c.in_ok-take_key-in-None.ensures.emptied clean)

pub returns-in-Some-clause-rows : goal.returns-in-Some-clause-rows
returns-in-Some-clause-rows g c =
    let taken = c.in-Some.ensures.taken in
    let gone = rows_as_partial_goes c.args.own.now taken.0 c.in-Some.partial taken.1 taken.2 _ taken.3 in
    let is = ap rows_of c.take_partial.ensures.others in
    omega (arith, gone, is)
