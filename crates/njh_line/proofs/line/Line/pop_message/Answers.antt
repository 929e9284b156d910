use Rattle.std.proofs.Common.{◌≡◌, ◌-◌, length, drop, refl, ap, ◌∙◌, arith}
use Rattle.std.proofs.lemmas.List.{drop-map}
use Rattle.njh_line.proofs.line.Line.pop_message.Goals as goal

pub returns-then-waiting-gt0 : goal.returns-then-waiting-gt0
returns-then-waiting-gt0 c =
    let items = c.self.inside.messages.items in
    let one : length items - (c.len-waiting.result - 1) ≡ 1 =
    omega (arith, c.len-waiting.ensures.len, c.if-waiting-gt0.true) in
    let kept : c.truncate_front.new.self.items ≡ drop 1 items =
    ap (λ b. b.items) c.truncate_front.ensures ∙ ap (λ n. drop n items) one in
    rw (← c.self.view_is, kept) (rw (drop-map (λ m. m.items) 1 items) refl)
