-- The word has no full stop, two or more, or one.
use Rattle.std.proofs.Common.{◌≡◌, ◌∷◌, [], ◌<◌, ◌+◌, ℕ, List, length, map, take, drop, arith, sym, ap, ap₂, subst, ◌∙◌}
use Rattle.njh_ebcdic.specs.Names.{upper}
use Rattle.njh_command.specs.Words.{name_of_parts}
use Rattle.njh_command.proofs.SplitLaws.{stop, without_stop, with_stops, with_stop}
use Rattle.njh_command.proofs.words.read_name.Goals as goal

pub returns-then-end-word : goal.returns-then-end-word
returns-then-end-word c = sym (without_stop c.args.word.now (sym c.count_before-end.ensures.place ∙ c.if-end-word.true))

pub returns-then-count_before-number : goal.returns-then-count_before-number
returns-then-count_before-number c =
    let word = c.args.word.now in
    let at : c.count_before-end.result ≡ stop word = c.count_before-end.ensures.place in
    let inside : stop word < length word = subst (λ (n : ℕ). n < length word) at (omega (
      arith,
      c.count_before-end.ensures.within,
      c.if-end-word.false,
    )) in
    let behind : c.split_at-2.result.1.now ≡ drop (stop word + 1) word =
    c.split_at-2.ensures.back ∙ ap (λ (n : ℕ). drop (n + 1) word) at in
    let place : c.count_before.result ≡ stop c.split_at-2.result.1.now = c.count_before.ensures.place in
    let more : stop c.split_at-2.result.1.now < length c.split_at-2.result.1.now
    = subst (λ (n : ℕ). n < length c.split_at-2.result.1.now) place c.if-count_before-number.true in
    sym (with_stops word inside (subst (λ (rest : List ℕ). stop rest < length rest) behind more))

pub returns : goal.returns
returns c =
    let word = c.args.word.now in
    let at : c.count_before-end.result ≡ stop word = c.count_before-end.ensures.place in
    let inside : stop word < length word = subst (λ (n : ℕ). n < length word) at (omega (
      arith,
      c.count_before-end.ensures.within,
      c.if-end-word.false,
    )) in
    let front : c.split_at.result.0.now ≡ take (stop word) word =
    c.split_at.ensures.front ∙ ap (λ (n : ℕ). take n word) at in
    let behind : c.split_at-2.result.1.now ≡ drop (stop word + 1) word =
    c.split_at-2.ensures.back ∙ ap (λ (n : ℕ). drop (n + 1) word) at in
    let place : c.count_before.result ≡ stop c.split_at-2.result.1.now = c.count_before.ensures.place in
    let last : stop c.split_at-2.result.1.now ≡ length c.split_at-2.result.1.now
    = sym place ∙ omega (arith, c.count_before.ensures.within, c.if-count_before-number.false) in
    c.name_of_parts.ensures
    ∙ ap₂ (λ (node number : List ℕ). name_of_parts (map upper node ∷ map upper number ∷ [])) front behind
    ∙ sym (with_stop word inside (subst (λ (rest : List ℕ). stop rest ≡ length rest) behind last))
