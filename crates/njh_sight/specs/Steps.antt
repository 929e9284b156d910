-- What is noted of a line at each step on it, and counted.
use Rattle.std.specs.Prelude.{◌≡◌, ℕ, ◌+◌, Bool, true, false, ◌&&◌, ◌==◌, not, cond, min, List, length}
use Rattle.std.specs.Prelude.{if◌then◌else◌, slice_index_or, Option, Some, None}
use Rattle.njh_hub.specs.declared.session_view.SessionView.{SessionView}
use Rattle.njh_sight.specs.Sessions.{is_up}
use Rattle.njh_sight.specs.declared.steps.SentFrame.{SentFrame}
use Rattle.njh_sight.specs.declared.steps.SentFrame.TheVariants.{Nothing, Nak, Text, Other}
use Rattle.njh_sight.specs.declared.steps.Steps.{Steps}

-- a line on which there was no step
abbrev pub no_steps : Steps
no_steps = record {
  is_up = false;
  next_count = 0;
  last_bcb = None;
  sent = Nothing;
  naks = 0;
  repeats = 0;
  blocks_in = 0;
  blocks_out = 0;
}

-- ---- what the hub sent

abbrev pub byte_at : List ℕ → ℕ → ℕ
byte_at frame place = slice_index_or frame place 0

-- a NAK is one byte; a text begins by DLE and STX
abbrev pub sent_frame : List ℕ → SentFrame
sent_frame frame =
    if length frame == 0 then Nothing else
    if (length frame == 1) && (byte_at frame 0 == 0x3D) then Nak else
    if (byte_at frame 0 == 0x10) && (byte_at frame 1 == 0x02) then Text else Other

abbrev pub is_nak : SentFrame → Bool
is_nak Nothing = false
is_nak Nak = true
is_nak Text = false
is_nak Other = false

abbrev pub is_text : SentFrame → Bool
is_text Nothing = false
is_text Nak = false
is_text Text = true
is_text Other = false

-- A block was sent again: a text went, and the session, which was up and is, counts its next block as before.
abbrev pub is_repeat : Steps → SessionView → SentFrame → Bool
is_repeat was session sent =
    is_text sent && ((was.is_up && is_up session.phase) && (was.next_count == session.next_count))

-- one that wasn't sent before
abbrev pub is_new_block : Steps → SessionView → SentFrame → Bool
is_new_block was session sent = is_text sent && not (is_repeat was session sent)

-- ---- what came

-- A further block was acted on: the last BCB is another one. A session begins with none.
abbrev pub is_new_bcb : (last bcb : Option ℕ) → Bool
is_new_bcb None None = false
is_new_bcb (Some last) None = false
is_new_bcb None (Some bcb) = true
is_new_bcb (Some last) (Some bcb) = not (last == bcb)

-- ---- what is noted

-- one more, where there is one
abbrev pub count_after : ℕ → Bool → ℕ
count_after count more = min (count + cond more 1 0) 18446744073709551615

-- after a step that left the session so and sent this frame
abbrev pub steps_after : Steps → SessionView → List ℕ → Steps
steps_after was session frame = record {
  is_up = is_up session.phase;
  next_count = session.next_count;
  last_bcb = session.last_bcb;
  sent = sent_frame frame;
  naks = count_after was.naks (is_nak (sent_frame frame));
  repeats = count_after was.repeats (is_repeat was session (sent_frame frame));
  blocks_in = count_after was.blocks_in (is_new_bcb was.last_bcb session.last_bcb);
  blocks_out = count_after was.blocks_out (is_new_block was session (sent_frame frame));
}

-- What is noted of a line's last step is this: the session as the step left it, and the frame that it sent.
pub record IsNoted (session : SessionView) (frame : List ℕ) (noted : Steps) : Type 0 where
  pub up : noted.is_up ≡ is_up session.phase
  pub count : noted.next_count ≡ session.next_count
  pub sent : noted.sent ≡ sent_frame frame
