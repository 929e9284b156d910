-- What one call hears, and what one takes of what the line writes, by the frame that ends it.
use Rattle.std.proofs.Common.{◌≡◌, ℕ, List, ◌++◌, Bool, true, false, take, refl, ap, sym, ◌∙◌, append-nil}
use Rattle.std.specs.Prelude.{◌||◌, Option, Some, None, Ok, Err, is_some}
use Rattle.njh_bisync.specs.Frames.{Received}
use Rattle.njh_bisync.specs.Reading.{frame_list}
use Rattle.njh_bisync.specs.ByteSteps as line_steps
use Rattle.njh_bisync.proofs.FedLaws as line_laws
use Rattle.njh_tcp.specs.Hearing.{Outcome}
use Rattle.njh_tcp.specs.Reading.{Rest, contact_over, outcome_list}
use Rattle.njh_tcp.specs.ByteSteps.{feed_outcome, rest_after}
use Rattle.njh_tcp.proofs.FedLaws.{takes_front}
use Rattle.njh_bisync.specs.Reading as line
use Rattle.njh_link.specs.Links.{LinkState, after_outcomes, after_came, after_frames, after_written, coming_by, bytes_out}
use Rattle.njh_link.specs.Links.{with_written}
use Rattle.njh_link.specs.Talks.{breaks, let_out, talk_written}
use Rattle.njh_link.specs.declared.talk.Talk.{Talk}
use Rattle.njh_link.specs.code.Steps.{bytes_heard, talk_heard, written_once}

heard_one : (outcome : Option Outcome) (s : LinkState) → after_outcomes (outcome_list outcome) s
    ≡ record s { giving = s.giving ++ bytes_heard outcome; talk = talk_heard outcome s.talk }
heard_one None s = ap (λ bytes. record s { giving = bytes }) (sym (append-nil s.giving))
heard_one (Some (Ok carried)) s = refl
heard_one (Some (Err fault)) s = ap (λ bytes. record s { giving = bytes }) (sym (append-nil s.giving))

pub heard_first : (s : LinkState) (piece : List ℕ)
    → let f = feed_outcome s.coming piece in
    after_came (take f.taken piece) s
    ≡ record s { coming = f.rest; giving = s.giving ++ bytes_heard f.outcome; talk = talk_heard f.outcome s.talk }
heard_first s piece =
    let f = feed_outcome s.coming piece in
    let front = takes_front s.coming piece in
    ap (λ outcomes. after_outcomes outcomes (record s { coming = rest_after s.coming (take f.taken piece) }))
    front.outcomes
    ∙ (ap (λ rest. after_outcomes (outcome_list f.outcome) (record s { coming = rest })) front.left
    ∙ heard_one f.outcome (record s { coming = f.rest }))

written_one : (frame : Option Received) (s : LinkState) → after_frames (frame_list frame) s ≡ written_once frame s
written_one None s = refl
written_one (Some frame) s = refl

pub written_first : (s : LinkState) (piece : List ℕ)
    → let f = line_steps.feed_outcome s.written piece in
    after_written (take f.taken piece) s ≡ written_once f.frame (record s { written = f.rest })
written_first s piece =
    let f = line_steps.feed_outcome s.written piece in
    let front = line_laws.takes_front s.written piece in
    ap (λ frames. after_frames frames (record s { written = line_steps.rest_after s.written (take f.taken piece) }))
    front.frames
    ∙ (ap (λ rest. after_frames (frame_list f.frame) (record s { written = rest })) front.left
    ∙ written_one f.frame (record s { written = f.rest }))

-- the state after a call that heard, by what each part is then
pub heard_state : (s : LinkState) (piece giving : List ℕ) (taken : ℕ) (outcome : Option Outcome) (rest : Rest) (talk : Talk)
    → taken ≡ (feed_outcome s.coming piece).taken → outcome ≡ (feed_outcome s.coming piece).outcome
    → rest ≡ (feed_outcome s.coming piece).rest → giving ≡ s.giving ++ bytes_heard outcome
    → talk ≡ talk_heard outcome s.talk
    → record s { coming = rest; giving = giving; talk = talk } ≡ after_came (take taken piece) s
heard_state s piece giving taken outcome rest talk taken_is outcome_is rest_is giving_is talk_is =
    let first = heard_first s piece in
    cc

-- the state after a call that took what was written
pub written_state : (s : LinkState) (bytes : List ℕ) (taken : ℕ) (frame : Option Received) (rest : line.Rest)
    → taken ≡ (line_steps.feed_outcome s.written bytes).taken → frame ≡ (line_steps.feed_outcome s.written bytes).frame
    → rest ≡ (line_steps.feed_outcome s.written bytes).rest
    → written_once frame (record s { written = rest }) ≡ after_written (take taken bytes) s
written_state s bytes taken frame rest taken_is frame_is rest_is =
    let first = written_first s bytes in
    cc

pub frame_state : (s : LinkState) (frame : Received) (coming : Rest) (waiting : List ℕ) (talk : Talk) (broken : Bool)
    → coming ≡ coming_by talk.bcb s.coming → waiting ≡ s.waiting ++ bytes_out (let_out s.talk frame)
    → talk ≡ talk_written frame s.talk → broken ≡ (s.broken || breaks s.talk frame)
    → record s { coming = coming; waiting = waiting; talk = talk; broken = broken } ≡ with_written frame s
frame_state s frame coming waiting talk broken coming_is waiting_is talk_is broken_is =
    let by = ap (λ (t : Talk). coming_by t.bcb s.coming) talk_is in
    cc

pub coming_over : (bcb : Option ℕ) (rest : Rest) → is_some bcb ≡ true → contact_over rest ≡ coming_by bcb rest
coming_over None rest some = absurd (cc)
coming_over (Some bcb) rest some = refl

pub coming_same : (bcb : Option ℕ) (rest : Rest) → is_some bcb ≡ false → rest ≡ coming_by bcb rest
coming_same None rest none = refl
coming_same (Some bcb) rest none = absurd (cc)
