use Rattle.njh_keeper.proofs.Words
use Words.{rules, ◌≡◌, ◌<◌, ◌++◌, List, [], ◌∷◌, length, get_or, map, sym, ap, subst, ◌∙◌, arith, get_or_default}
use Words.{length-map, map-append, on_ok_weaker, SpoolContents, entry_of, with_changed, FileSummaryView, file_summary}
use Words.{part, is_held, whole_of, IsRead, KeptWhole, Remembers, leads_by, leads_nothing, leads_weaker}
use Words.{HasHeaders, said_destination, with_mark, field_text, recursion_from_All}
use Rattle.njh_keeper.proofs.NumberedLaws.{all_at}
use Rattle.njh_keeper.proofs.OpeningLists.{goes_on_anew, goes_on_same, next_read}
use Rattle.njh_keeper.proofs.remembering.remember_one.Goals as goal

pub returns-then-is_held-stored-clause-led : goal.returns-then-is_held-stored-clause-led
returns-then-is_held-stored-clause-led g c text found clean left =
    let name = c.args.own.now.name in
    let spool = (part c.args.customer c.args.hub.now).customer.spool in
    let items = c.args.own.now.whole.items in
    let whole = map whole_of items in
    let k = whole_of c.kept_at-kept.result in
    let e = entry_of c.args.stored.now in
    let now : map whole_of c.push.new.self.items ≡ whole ++ k ∷ [] =
    ap (map whole_of) c.in_ok-push.ensures.items ∙ map-append whole_of items (c.kept_at-kept.result ∷ []) in
    let same : length whole ≡ c.len-index.result =
    (let long = length-map items whole_of in omega (arith, long, c.len-index.ensures)) in
    leads_nothing (λ s from is.
    let nx = next_read name whole e left spool from s is in
    let f = nx.0 in
    let at_index : f ≡ get_or spool.whole c.len-index.result f = subst (λ n. f ≡ get_or spool.whole n f) same nx.1.at in
    let remembers : Remembers k f = c.kept_at-kept.ensures.remembers found f at_index in
    let there : c.len-index.result < length spool.whole = subst (λ n. n < length spool.whole) same nx.1.there in
    let summary : c.summary_at-summary.result ≡ file_summary f = c.summary_at-summary.ensures.summary ∙ ap file_summary
    (get_or_default spool.whole c.len-index.result _ f there ∙ sym at_index) in
    let noted : c.is_held.result ≡ c.args.stored.now.file.held = search rules in
    let held : is_held f.state ≡ e.1.held = sym (ap (λ (v : FileSummaryView). is_held v.state) summary)
    ∙ sym c.is_held.ensures ∙ noted in
    subst (λ (ks : List KeptWhole). IsRead name ks left spool.whole from s) (sym now)
    (goes_on_same name whole e left spool from s is k f nx.1 c.kept_at-kept.ensures.id.0 c.kept_at-kept.ensures.id.1
    c.kept_at-kept.ensures.sent remembers held))

pub returns-clause-led : goal.returns-clause-led
returns-clause-led g c text found clean =
    let name = c.args.own.now.name in
    let spool = (part c.args.customer c.args.hub.now).customer.spool in
    let items = c.args.own.now.whole.items in
    let whole = map whole_of items in
    let kept = c.kept_at-kept.result in
    let k = whole_of kept in
    let e = entry_of c.args.stored.now in
    let now : map whole_of c.push.new.self.items ≡ whole ++ k ∷ [] =
    ap (map whole_of) c.in_ok-push.ensures.items ∙ map-append whole_of items (kept ∷ []) in
    let same : length whole ≡ c.len-index.result =
    (let long = length-map items whole_of in omega (arith, long, c.len-index.ensures)) in
    on_ok_weaker c.change_row.result (λ changed left. leads_weaker (leads_by changed.changes) (λ s t by from is.
    let nx = next_read name whole e left spool from s is in
    let f = nx.0 in
    let at_index : f ≡ get_or spool.whole c.len-index.result f = subst (λ n. f ≡ get_or spool.whole n f) same nx.1.at in
    let remembers : Remembers k f = c.kept_at-kept.ensures.remembers found f at_index in
    let there : c.len-index.result < length spool.whole = subst (λ n. n < length spool.whole) same nx.1.there in
    let summary : c.summary_at-summary.result ≡ file_summary f = c.summary_at-summary.ensures.summary ∙ ap file_summary
    (get_or_default spool.whole c.len-index.result _ f there ∙ sym at_index) in
    let headers : HasHeaders f.kind f.records =
    all_at (λ g. HasHeaders g.kind g.records) spool.whole c.len-index.result f
    (recursion_from_All (λ g. HasHeaders g.kind g.records) spool.whole c.summary_at-summary.ensures.headers) there
    at_index in
    let node : changed.row.to_node ≡ with_mark k.is_sent (field_text (said_destination f.kind f.records).node) =
    changed.is_row.node ∙ ap (λ (v : FileSummaryView). with_mark k.is_sent (field_text v.destination.node)) summary in
    subst (λ (ks : List KeptWhole). IsRead name ks left spool.whole from t) (sym now)
    (subst (λ (u : SpoolContents). IsRead name (whole ++ k ∷ []) left spool.whole from u)
    (sym (by ∙ ap (λ n. with_changed n changed.row s) c.kept_at-kept.ensures.id.0))
    (goes_on_anew name whole e left spool from s is k f nx.1 c.kept_at-kept.ensures.id.0 c.kept_at-kept.ensures.id.1
    c.kept_at-kept.ensures.sent remembers changed.row (changed.is_row.owned name text)
    (changed.is_row.of_file f summary) headers node))))
    (c.change_row.ensures.changed clean)
