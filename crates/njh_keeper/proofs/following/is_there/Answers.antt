use Rattle.njh_keeper.proofs.Words
use Words.{◌≡◌, ◌==◌, true, false, get_or, take, get_or-take, sym, ap, ◌∙◌, arith, get_or_default, part}
use Words.{length-take-le, whole_of, WholeFile, eqb-true}
use Rattle.njh_keeper.proofs.{ListLaws.{at_place}, NumberedLaws.{equal}}
use Rattle.njh_keeper.proofs.following.is_there.Goals as goal

pub returns-then-index-old-clause-sought : goal.returns-then-index-old-clause-sought
returns-then-index-old-clause-sought c =
    let whole = (part c.args.customer c.args.hub.now).customer.spool.whole in
    let first = c.index.result.now in
    let long = length-take-le c.args.old whole c.requires.were in
    record {
      kept = whole_of first;
      is = at_place whole_of c.args.own.now.whole.items c.args.index first c.requires.within c.index.ensures;
      same = λ never. absurd (cc never);
      other = λ _ f here. absurd (omega (arith, here.there, long, c.if-index-old.true));
    }

pub returns-clause-sought : goal.returns-clause-sought
returns-clause-sought c =
    let whole = (part c.args.customer c.args.hub.now).customer.spool.whole in
    let still = take c.args.old whole in
    let i = c.args.index in
    let first = c.index.result.now in
    let n = first.number in
    let low = c.if-index-old.false in
    let number_is = λ (f : WholeFile) (is : f ≡ get_or still i f).
    c.number_at.ensures ∙ ap (λ (x : WholeFile). x.number)
    (get_or_default whole i _ f (omega (arith, low, c.requires.were)) ∙ sym (is ∙ get_or-take c.args.old whole i f low))
    in
    record {
      kept = whole_of first;
      is = at_place whole_of c.args.own.now.whole.items i first c.requires.within c.index.ensures;
      same = λ yes f here. eqb-true n c.number_at.result (sym c.eq.ensures ∙ yes) ∙ number_is f here.is;
      other = λ no f here same.
          let test : (n == c.number_at.result) ≡ true = ap (λ m. n == m) (number_is f here.is ∙ sym same) ∙ equal n in
          absurd (let never : true ≡ false = sym test ∙ sym c.eq.ensures ∙ no in cc never);
    }
