-- What goes out, and what is given.
use Rattle.std.proofs.Common.{◌≡◌, ℕ, List, [], ◌∷◌, ◌++◌, refl, ap, sym, ◌∙◌, append_assoc, append-nil}
use Rattle.std.specs.Prelude.{flat_map, Option, Some, None, Ok, Err}
use Rattle.std.proofs.lemmas.List.{take-append-drop}
use Rattle.std.proofs.lemmas.List.Concat.{flat_map-append}
use Rattle.njh_bisync.specs.Frames.{Received}
use Rattle.njh_bisync.specs.ByteSteps as line_steps
use Rattle.njh_tcp.specs.Carried.{Carried}
use Rattle.njh_tcp.specs.Hearing.{Outcome}
use Rattle.njh_tcp.specs.ByteSteps.{outcomes_after, rest_after}
use Rattle.njh_tcp.specs.Written.{line_bytes, ttb_bytes}
use Rattle.njh_link.specs.Talks.{let_out, talk_written}
use Rattle.njh_link.specs.Links.{LinkState, after_outcomes, with_given, after_frames, with_written, bytes_out, keep_alive}
use Rattle.njh_link.specs.Links.{sign_off}
use Rattle.njh_link.specs.Acts.{LinkAct, Came, Gave, Acknowledged, Wrote, Went, KeptAlive, SignedOff}
use Rattle.njh_link.specs.Acts.{after_act, after_acts, went_by, went_in, gave_by, gave_in, given_of_outcomes, given_by}
use Rattle.njh_link.specs.Acts.{given_in, frame_out, out_of_frames, out_by, out_in}

-- what stands in front, what is added, and what follows
join : (front added gone next more left : List ℕ) → front ++ added ≡ gone ++ next → next ++ more ≡ left
    → front ++ (added ++ more) ≡ gone ++ left
join front added gone next more left first then =
    sym (append_assoc front added more)
    ∙ (ap (λ l. l ++ more) first ∙ (append_assoc gone next more ∙ ap (λ l. gone ++ l) then))

-- what comes changes nothing that goes out
waiting-outcomes : (outcomes : List Outcome) (s : LinkState) → (after_outcomes outcomes s).waiting ≡ s.waiting
waiting-outcomes [] s = refl
waiting-outcomes (Ok carried ∷ outcomes) s = waiting-outcomes outcomes (with_given carried s)
waiting-outcomes (Err fault ∷ outcomes) s = waiting-outcomes outcomes s

-- nor does what is written change what is given
giving-frames : (frames : List Received) (s : LinkState) → (after_frames frames s).giving ≡ s.giving
giving-frames [] s = refl
giving-frames (frame ∷ frames) s = giving-frames frames (with_written frame s)

bytes-out : (out : Option Carried) → flat_map ttb_bytes (frame_out out) ≡ bytes_out out
bytes-out None = refl
bytes-out (Some carried) = append-nil (ttb_bytes carried)

waiting-frames : (frames : List Received) (s : LinkState)
    → s.waiting ++ flat_map ttb_bytes (out_of_frames s.talk frames) ≡ (after_frames frames s).waiting
waiting-frames [] s = append-nil s.waiting
waiting-frames (frame ∷ frames) s =
    let out = frame_out (let_out s.talk frame) in
    let later = out_of_frames (talk_written frame s.talk) frames in
    ap (λ l. s.waiting ++ l) (flat_map-append ttb_bytes out later ∙ ap (λ l. l ++ flat_map ttb_bytes later)
    (bytes-out (let_out s.talk frame)))
    ∙ (sym (append_assoc s.waiting (bytes_out (let_out s.talk frame)) (flat_map ttb_bytes later))
    ∙ waiting-frames frames (with_written frame s))

out_by-step : (act : LinkAct) (s : LinkState)
    → s.waiting ++ flat_map ttb_bytes (out_by act s) ≡ went_by act s ++ (after_act act s).waiting
out_by-step (Came bytes) s =
    append-nil s.waiting
    ∙ sym (waiting-outcomes (outcomes_after s.coming bytes) (record s { coming = rest_after s.coming bytes }))
out_by-step (Gave count) s = append-nil s.waiting
out_by-step Acknowledged s = append-nil s.waiting
out_by-step (Wrote bytes) s =
    waiting-frames (line_steps.frames_after s.written bytes)
    (record s { written = line_steps.rest_after s.written bytes })
out_by-step (Went count) s = append-nil s.waiting ∙ sym (take-append-drop count s.waiting)
out_by-step KeptAlive s = ap (λ l. s.waiting ++ l) (bytes-out (Some keep_alive))
out_by-step SignedOff s = ap (λ l. s.waiting ++ l) (bytes-out (Some sign_off))

pub goes_out : (acts : List LinkAct) (s : LinkState)
    → s.waiting ++ flat_map ttb_bytes (out_in acts s) ≡ went_in acts s ++ (after_acts acts s).waiting
goes_out [] s = append-nil s.waiting
goes_out (act ∷ acts) s =
    let next = after_act act s in
    ap (λ l. s.waiting ++ l) (flat_map-append ttb_bytes (out_by act s) (out_in acts next))
    ∙ (join s.waiting (flat_map ttb_bytes (out_by act s)) (went_by act s) next.waiting
    (flat_map ttb_bytes (out_in acts next)) (went_in acts next ++ (after_acts acts next).waiting)
    (out_by-step act s) (goes_out acts next)
    ∙ sym (append_assoc (went_by act s) (went_in acts next) (after_acts acts next).waiting))

giving-outcomes : (outcomes : List Outcome) (s : LinkState)
    → s.giving ++ flat_map line_bytes (given_of_outcomes outcomes) ≡ (after_outcomes outcomes s).giving
giving-outcomes [] s = append-nil s.giving
giving-outcomes (Ok carried ∷ outcomes) s =
    sym (append_assoc s.giving (line_bytes carried) (flat_map line_bytes (given_of_outcomes outcomes)))
    ∙ giving-outcomes outcomes (with_given carried s)
giving-outcomes (Err fault ∷ outcomes) s = giving-outcomes outcomes s

given_by-step : (act : LinkAct) (s : LinkState)
    → s.giving ++ flat_map line_bytes (given_by act s) ≡ gave_by act s ++ (after_act act s).giving
given_by-step (Came bytes) s =
    giving-outcomes (outcomes_after s.coming bytes) (record s { coming = rest_after s.coming bytes })
given_by-step (Gave count) s = append-nil s.giving ∙ sym (take-append-drop count s.giving)
given_by-step Acknowledged s = refl
given_by-step (Wrote bytes) s =
    append-nil s.giving
    ∙ sym (giving-frames (line_steps.frames_after s.written bytes)
    (record s { written = line_steps.rest_after s.written bytes }))
given_by-step (Went count) s = append-nil s.giving
given_by-step KeptAlive s = append-nil s.giving
given_by-step SignedOff s = append-nil s.giving

pub is_given : (acts : List LinkAct) (s : LinkState)
    → s.giving ++ flat_map line_bytes (given_in acts s) ≡ gave_in acts s ++ (after_acts acts s).giving
is_given [] s = append-nil s.giving
is_given (act ∷ acts) s =
    let next = after_act act s in
    ap (λ l. s.giving ++ l) (flat_map-append line_bytes (given_by act s) (given_in acts next))
    ∙ (join s.giving (flat_map line_bytes (given_by act s)) (gave_by act s) next.giving
    (flat_map line_bytes (given_in acts next)) (gave_in acts next ++ (after_acts acts next).giving)
    (given_by-step act s) (is_given acts next)
    ∙ sym (append_assoc (gave_by act s) (gave_in acts next) (after_acts acts next).giving))
