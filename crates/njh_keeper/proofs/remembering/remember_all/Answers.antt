use Rattle.njh_keeper.proofs.Words
use Words.{rules, ◌≡◌, ◌<◌, ◌++◌, true, [], ◌∷◌, length, map, string_bytes, refl, sym, ap, subst, ◌∙◌, arith}
use Words.{get_or_default, length-map, map-append, take_more, AllByRecursion, shown, part, own_of, AreRemembered}
use Words.{IsOwnOf, Remembering, entries, files_at, name_at, SpoolWriter, is_name_of, clean_before, leads_nothing}
use Words.{leads_then, survives_here, survives_both}
use Rattle.{std.proofs.lemmas.List.length-take, njh_keeper.proofs.{NumberedLaws.all-push, OpeningLists.none_remembered}}
use Rattle.njh_keeper.proofs.OpeningLists.{one_more_remembered}
use Rattle.njh_keeper.proofs.remembering.remember_all.Goals as goal

pub loop-place-init : goal.loop-place-init
loop-place-init g c =
    let at = shown g.S.Store c.args.writer.now.store in
    let names = c.args.names.now in
    let hub = c.args.hub.now in
    let none : c.in_ok-customers.customers.items ≡ [] = search rules in
    record {
      crash = survives_here at (λ _. ⊥);
      writer = refl;
      names = ap (map (λ own. own.name)) none;
      texts = subst (AllByRecursion (λ own. is_name_of (string_bytes own.text) own.name ≡ true)) (sym none) tt;
      led = λ found clean. leads_nothing (λ s ordered rows distinct reads.
          subst (λ xs. AreRemembered names hub (map own_of xs) s s) (sym none) (none_remembered names hub s ordered));
    }

pub loop-place-preserved : goal.loop-place-preserved
loop-place-preserved g c =
    let so_far = c.loop-place.invariant in
    let names = c.args.names.now in
    let hub = c.args.hub.now in
    let place = c.loop-place.place in
    let low : place < length names = c.loop-place-test.true in
    let items = c.loop-place.customers.items in
    let own = c.in_ok-own.own in
    let pushed : c.push.new.self.items ≡ items ++ own ∷ [] = c.in_ok-push.ensures.items in
    let name_is : c.index-names-place.result ≡ name_at names place =
    c.index-names-place.is ∙ get_or_default names place c.index-names-place.result [] low in
    let long : length (map own_of items) ≡ place =
    (let a = length-map items own_of in let b = length-map items (λ own. own.name) in let d = ap length so_far.names
    in let e = length-take place names in omega (arith, a, b, d, e, low)) in
    record {
      crash = survives_both so_far.crash c.remember_customer.ensures.crash;
      writer = c.remember_customer.ensures.others ∙ ap (λ (x : SpoolWriter g.row.S.Denot). record x
          { store = c.remember_customer.new.writer.store; is_changed = c.remember_customer.new.writer.is_changed })
          so_far.writer;
      names = ap (map (λ own. own.name)) pushed ∙ map-append (λ own. own.name) items (own ∷ [])
          ∙ (λ i. so_far.names i ++ (c.in_ok-own.ensures.own.name_is ∙ c.index-names-place.is) i ∷ [])
          ∙ sym (take_more names place c.index-names-place.result low);
      texts = subst (AllByRecursion (λ own. is_name_of (string_bytes own.text) own.name ≡ true)) (sym pushed)
          (all-push (λ own. is_name_of (string_bytes own.text) own.name ≡ true) items own so_far.texts
          c.in_ok-own.ensures.text);
      led = λ found clean.
          let whose : IsOwnOf (name_at names (length (map own_of items)))
          (part (length (map own_of items)) hub).customer.spool (own_of own) =
          subst (λ n. IsOwnOf (name_at names n) (part n hub).customer.spool (own_of own)) (sym long)
          (subst (λ who. IsOwnOf who (part place hub).customer.spool (own_of own)) name_is c.in_ok-own.ensures.own) in
          leads_then (so_far.led found (clean_before c.remember_customer.ensures.crash clean))
          (c.in_ok-own.ensures.led (found place low) clean) (λ s t u first one ordered rows distinct reads.
          let next : Remembering (name_at names (length (map own_of items))) (entries c.args.files.now)
          (files_at (length (map own_of items)) hub) (own_of own) t u =
          subst (λ n. Remembering (name_at names n) (entries c.args.files.now) (files_at n hub) (own_of own) t u)
          (sym long)
          (subst (λ who. Remembering who (entries c.args.files.now) (files_at place hub) (own_of own) t u) name_is one)
          in subst (λ owns. AreRemembered names hub owns s u)
          (sym (ap (map own_of) pushed ∙ map-append own_of items (own ∷ [])))
          (one_more_remembered names hub (entries c.args.files.now) (map own_of items) (own_of own) s t u rows distinct
          reads (omega (arith, long, low)) whose (first ordered rows distinct reads) next));
    }

pub returns-in_err-own-clause-crash : goal.returns-in_err-own-clause-crash
returns-in_err-own-clause-crash g c = survives_both c.loop-place.invariant.crash c.remember_customer.ensures.crash

pub returns-in_err-own-clause-others : goal.returns-in_err-own-clause-others
returns-in_err-own-clause-others g c =
    c.remember_customer.ensures.others ∙ ap (λ (x : SpoolWriter g.row.S.Denot). record x
    { store = c.remember_customer.new.writer.store; is_changed = c.remember_customer.new.writer.is_changed })
    c.loop-place.invariant.writer

pub returns-in_err-push-clause-crash : goal.returns-in_err-push-clause-crash
returns-in_err-push-clause-crash g c =
    survives_both c.loop-place.invariant.crash c.remember_customer.ensures.crash

pub returns-in_err-push-clause-others : goal.returns-in_err-push-clause-others
returns-in_err-push-clause-others g c =
    c.remember_customer.ensures.others ∙ ap (λ (x : SpoolWriter g.row.S.Denot). record x
    { store = c.remember_customer.new.writer.store; is_changed = c.remember_customer.new.writer.is_changed })
    c.loop-place.invariant.writer
