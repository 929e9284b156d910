use Rattle.njh_keeper.proofs.Words
use Words.{rules, ◌≡◌, ◌+◌, true, [], ◌∷◌, drop, map, string_bytes, refl, sym, ap, subst, ◌∙◌, arith, drop_all}
use Words.{drop_more, entry_of, shown, part, Leads, whole_of, Reads, entries, owned_of, is_name_of, clean_before}
use Words.{leads_nothing, leads_then, survives_both, survives_here}
use Rattle.njh_keeper.proofs.remembering.remember_files.Goals as goal

pub loop-at-init : goal.loop-at-init
loop-at-init g c =
    let at = shown g.S.Store c.args.writer.now.store in
    record {
      crash = survives_here at (λ _. ⊥);
      writer = refl;
      others = refl;
      led = λ text found clean. leads_nothing (λ s from is. is);
    }

pub loop-at-preserved : goal.loop-at-preserved
loop-at-preserved g c =
    let mid = shown g.S.Store c.loop-at.writer.store in
    let new = shown g.S.Store c.remember_if_own.new.writer.store in
    let so_far = c.loop-at.invariant in
    let own = c.args.own.now in
    let spool = (part c.args.customer c.args.hub.now).customer.spool in
    let files = c.args.files.now in
    let rest = entries (drop (c.loop-at.at + 1) files) in
    let name : c.loop-at.own.name ≡ own.name = ap (λ o. o.name) so_far.others in
    record {
      crash = survives_both so_far.crash c.remember_if_own.ensures.crash;
      writer = search rules;
      others = search rules;
      led = λ text found clean.
          let named : is_name_of (string_bytes c.loop-at.own.text) c.loop-at.own.name ≡ true =
          ap (λ o. is_name_of (string_bytes o.text) o.name) so_far.others ∙ text in
          let one = c.in_ok-remember_if_own.ensures.led named found clean rest in
          let was = map whole_of c.loop-at.own.whole.items in
          let is = map whole_of c.remember_if_own.new.own.whole.items in
          let next : entries (drop c.loop-at.at files) ≡ entry_of c.index-files-at.result ∷ rest =
          ap entries (drop_more files c.loop-at.at c.index-files-at.result c.loop-at-test.true)
          ∙ ap (λ x. entry_of x ∷ rest) (sym c.index-files-at.is) in
          let step : Leads (Reads own.name spool was is (owned_of own.name (entries (drop c.loop-at.at files)))
          (owned_of own.name rest)) mid new =
          subst (λ es. Leads (Reads own.name spool was is (owned_of own.name es) (owned_of own.name rest)) mid new)
          (sym next)
          (subst (λ who. Leads (Reads who spool was is (owned_of who (entry_of c.index-files-at.result ∷ rest))
          (owned_of who rest)) mid new) name one) in
          leads_then (so_far.led text found (clean_before c.remember_if_own.ensures.crash clean)) step
          (λ s t u first second from before. second from (first from before));
    }

pub returns-clause-led : goal.returns-clause-led
returns-clause-led g c text found clean =
    let old = shown g.S.Store c.args.writer.now.store in
    let new = shown g.S.Store c.loop-at.writer.store in
    let own = c.args.own.now in
    let spool = (part c.args.customer c.args.hub.now).customer.spool in
    let files = c.args.files.now in
    let end : drop c.loop-at.at files ≡ [] = drop_all c.loop-at.at files (omega (arith, c.loop-at-test.false)) in
    subst (λ xs. Leads (Reads own.name spool (map whole_of own.whole.items) (map whole_of c.loop-at.own.whole.items)
    (owned_of own.name (entries files)) (owned_of own.name (entries xs))) old new)
    end (c.loop-at.invariant.led text found clean)

pub returns-in_err-remember_if_own-clause-crash : goal.returns-in_err-remember_if_own-clause-crash
returns-in_err-remember_if_own-clause-crash g c =
    survives_both c.loop-at.invariant.crash c.remember_if_own.ensures.crash
