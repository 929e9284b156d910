use Rattle.njh_keeper.proofs.Words
use Words.{◌≡◌, ◌<◌, false, true, length, get_or, map, refl, sym, ap, ◌∙◌, arith, get_or_default, length-map, with_item}
use Words.{partial_of, IsSeen, IsUpToDate, sweep_of}
use Rattle.njh_keeper.proofs.{PartlyLaws.halves_end, PortionLaws.{halves_gone, halves_shut, still_dropped}}
use Rattle.njh_keeper.{proofs.PortionLaws.{still_nothing, still_shut, still_then}, specs.code.Partly.IsSameButPartial}
use Rattle.njh_keeper.specs.declared.own_files.{KeptPartial.KeptPartial, OwnFiles.OwnFiles}
use Rattle.njh_keeper.proofs.portions.drop_given_up.Goals as goal

pub loop-place-init : goal.loop-place-init
loop-place-init c = record {
  kept = λ now. still_nothing now c.args.own.now;
  seen = λ now all. all;
}

-- a stream was about it in this step
pub loop-place-preserved-then-index : goal.loop-place-preserved-then-index
loop-place-preserved-then-index c =
    let own = c.loop-place.own in
    let items = own.partial.items in
    let place = c.loop-place.place in
    let there : place < length items = omega (arith, c.loop-place-test.true, c.len.ensures) in
    let p = c.index_mut.result.now in
    let q : KeptPartial = record p { is_open = false } in
    let own1 : OwnFiles = record own { partial = with_item own.partial place q } in
    let at : p ≡ get_or items place p = c.index_mut.ensures.value in
    let same : p ≡ c.index.result.now = at ∙ get_or_default items place p c.index.result.now there
    ∙ sym c.index.ensures in
    let about : p.is_open ≡ true = ap (λ (x : KeptPartial). x.is_open) same ∙ c.if-index.true in
    record {
      kept = λ now. still_then now c.args.own.now own own1 (c.loop-place.invariant.kept now)
          (still_shut now own own1 place p there at q refl refl refl);
      seen = λ now all. halves_shut now own own1 place p there at q refl refl about
          (c.loop-place.invariant.seen now all);
    }

-- none was
pub loop-place-preserved : goal.loop-place-preserved
loop-place-preserved c =
    let own = c.loop-place.own in
    let items = own.partial.items in
    let place = c.loop-place.place in
    let there : place < length items = omega (arith, c.loop-place-test.true, c.len.ensures) in
    let p = c.remove-gone.result in
    let own1 = c.sweep_later.new.own in
    let at : p ≡ get_or items place p = c.remove-gone.ensures.value in
    let others = c.sweep_later.ensures.others in
    let partly : IsSameButPartial own own1 = others
    ∙ (λ j. record own { partial = sym (ap (λ (x : OwnFiles). x.partial) others) j; sweeps = own1.sweeps }) in
    let items1 = ap (λ (x : OwnFiles). x.partial.items) others ∙ c.remove-gone.ensures.items in
    record {
      kept = λ now. still_then now c.args.own.now own own1 (c.loop-place.invariant.kept now)
          (still_dropped now own own1 place p there at items1 (sweep_of p.key p.written) partly
          c.in_ok-sweep_later.ensures.later refl (omega arith));
      seen = λ now all. halves_gone now own own1 place p there at items1 (c.loop-place.invariant.seen now all);
    }

pub returns-clause-seen : goal.returns-clause-seen
returns-clause-seen c now all =
    let items = c.loop-place.own.partial.items in
    let long = length-map items partial_of in
    halves_end (IsUpToDate now) (IsSeen now) c.loop-place.place (map partial_of items)
    (omega (arith, long, c.loop-place-test.false, c.len.ensures)) (c.loop-place.invariant.seen now all)
