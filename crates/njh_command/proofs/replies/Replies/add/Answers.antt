-- There is room for one more, or there is none.
use Rattle.std.proofs.Common.{◌≤◌, ◌<◌, ◌++◌, ◌∷◌, [], ℕ, List, sym, ap, ◌∙◌, arith}
use Rattle.arrayvec.specs.ArrayVec.{ArrayVec}
use Rattle.njh_command.specs.Commands.{first_replies}
use Rattle.njh_command.proofs.ReplyLaws.{one_more_of, none_more_of}
use Rattle.njh_command.proofs.replies.Replies.add.Goals as goal

abbrev shown : ArrayVec ℕ → List ℕ
shown t = t.items

pub returns-then-self-lt-MAX_REPLIES : goal.returns-then-self-lt-MAX_REPLIES
returns-then-self-lt-MAX_REPLIES c =
    let room : c.self.inside.count < 64 = omega arith in
    one_more_of shown c.self.inside.texts.items _ c.self.inside.count c.args.text c.self.invariant.0 room
    c.put_at.ensures.front
    ∙ ap (λ (replies : List (List ℕ)). first_replies (replies ++ c.args.text.items ∷ [])) c.self.view_is

pub returns-else-self-lt-MAX_REPLIES : goal.returns-else-self-lt-MAX_REPLIES
returns-else-self-lt-MAX_REPLIES c =
    let full : 64 ≤ c.self.inside.count = omega arith in
    sym c.self.view_is
    ∙ none_more_of shown c.self.inside.texts.items c.self.inside.count c.args.text c.self.invariant.0 c.self.invariant.1
    full
    ∙ ap (λ (replies : List (List ℕ)). first_replies (replies ++ c.args.text.items ∷ [])) c.self.view_is
