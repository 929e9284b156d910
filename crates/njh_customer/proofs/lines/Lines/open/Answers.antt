use Rattle.njh_customer.proofs.Words
use Words.{List, [], length, map, take, get_or, ap, sym, arith, rules, map_more, take_all, Rest, Nothing, empty_spool}
use Words.{LineEntry, entry_unmarked, NamedLine, entry_of, CustomerLine, config_of, customer_with, idle_line, Part}
use Rattle.{std.proofs.Common.{◌≡◌, ◌<◌, ◌∷◌, ◌++◌, ◌∙◌}, njh_customer.proofs.OpenLaws.rests_of_lines}
use Rattle.njh_customer.proofs.OpenLaws.{states_of_lines}
use Rattle.njh_customer.proofs.lines.Lines.open.Goals as goal

pub loop-line-preserved : goal.loop-line-preserved
loop-line-preserved c =
    let lines : List NamedLine = c.args.customer.now.lines in
    let i = c.loop-line.line-index in
    let entry = entry_of c.args.customer.now in
    let state : NamedLine → CustomerLine = λ l. idle_line (config_of entry l.entry) l.entry.streams in
    let within : i < length lines = omega (arith, ap (λ (ls : List NamedLine). length ls) c.lines-line-items.ensures) in
    let item : c.line-item.result ≡ get_or lines i c.line-item.result =
    c.line-item.is ∙ ap (λ (ls : List NamedLine). get_or ls i c.line-item.result) c.lines-line-items.ensures in
    let rests : c.push.new.self.items ≡ c.loop-line.deframers.items ++ Nothing ∷ [] = search rules in
    let states : c.push-in-loop-line.new.self ≡ c.loop-line.lines ++ state c.line-item.result ∷ [] = search rules in
    record {
      rests = rests ∙ ap (λ (rs : List Rest). rs ++ Nothing ∷ []) c.loop-line.invariant.rests
          ∙ sym (map_more (λ (l : NamedLine). Nothing) lines i c.line-item.result within);
      states = states ∙ ap (λ (ss : List CustomerLine). ss ++ state c.line-item.result ∷ [])
          c.loop-line.invariant.states ∙ ap (λ (l : NamedLine). map state (take i lines) ++ state l ∷ []) item
          ∙ sym (map_more state lines i c.line-item.result within);
    }

pub returns : goal.returns
returns c =
    let lines : List NamedLine = c.args.customer.now.lines in
    let entry = entry_of c.args.customer.now in
    let state : NamedLine → CustomerLine = λ l. idle_line (config_of entry l.entry) l.entry.streams in
    let all : take c.loop-line.line-index lines
    ≡ lines = take_all _ lines (omega (arith, ap (λ (ls : List NamedLine). length ls) c.lines-line-items.ensures)) in
    let part_of : List Rest → List CustomerLine → Part = λ rests states. record {
      rests = rests;
      customer = customer_with (entry_unmarked entry) (empty_spool entry.quota entry.files) states;
    } in
    ap (λ (rests : List Rest). part_of rests c.loop-line.lines)
    (c.loop-line.invariant.rests ∙ ap (λ (ls : List NamedLine). map (λ (l : NamedLine). Nothing) ls) all ∙ sym
    (rests_of_lines lines))
    ∙ ap (λ (states : List CustomerLine). part_of (map (λ (line : LineEntry). Nothing) entry.lines) states)
    (c.loop-line.invariant.states ∙ ap (map state) all ∙ sym (states_of_lines entry lines))
