-- There is room for one more, or there is none.
use Rattle.std.proofs.Common.{◌≤◌, ◌<◌, ◌++◌, ◌∷◌, [], ℕ, List, sym, ap, ◌∙◌, arith}
use Rattle.arrayvec.specs.ArrayVec.{ArrayVec}
use Rattle.njh_command.specs.Commands.{first_replies}
use Rattle.njh_texts.specs.Texts.{listing_line}
use Rattle.njh_command.proofs.ReplyLaws.{one_more_written, none_more_written}
use Rattle.njh_command.proofs.replies.Replies.add_file.Goals as goal

abbrev shown : ArrayVec ℕ → List ℕ
shown t = t.items

pub returns-then-self-lt-MAX_REPLIES : goal.returns-then-self-lt-MAX_REPLIES
returns-then-self-lt-MAX_REPLIES c =
    let f = c.args.file.now in
    let text = listing_line f.headers.name f.headers.destination f.kind f.records f.state in
    let room : c.self.inside.count < 64 = omega arith in
    one_more_written shown c.self.inside.texts.items _ c.self.inside.count text c.self.invariant.0 room
    c.put_file_at.ensures.front
    ∙ ap (λ (replies : List (List ℕ)). first_replies (replies ++ text ∷ [])) c.self.view_is

pub returns-else-self-lt-MAX_REPLIES : goal.returns-else-self-lt-MAX_REPLIES
returns-else-self-lt-MAX_REPLIES c =
    let f = c.args.file.now in
    let text = listing_line f.headers.name f.headers.destination f.kind f.records f.state in
    let full : 64 ≤ c.self.inside.count = omega arith in
    sym c.self.view_is
    ∙ none_more_written shown c.self.inside.texts.items c.self.inside.count text c.self.invariant.0 c.self.invariant.1
    full
    ∙ ap (λ (replies : List (List ℕ)). first_replies (replies ++ text ∷ [])) c.self.view_is
