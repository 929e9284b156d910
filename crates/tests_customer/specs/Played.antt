-- Runs of one customer by itself: what came on its lines, and what it sent.
use Rattle.std.specs.Prelude.{◌≡◌, ℕ, List, [], ◌∷◌, map, flat_map}
use Rattle.njh_ebcdic.specs.Characters.{character_of, byte_of_character}
use Rattle.njh_bisync.specs.ByteSteps.{rest_step}
use Rattle.njh_bisync.specs.Frames.{data_so_far}
use Rattle.njh_bisync.specs.Written.{text_bytes}
use Rattle.njh_record.specs.Writing.{before_run, first_item, items_past, spelling_of}
use Rattle.njh_sched.specs.NextBlock.{streams, after_source, after_sources, filled_block}
use Rattle.njh_texts.specs.Texts.{file_text}
use Rattle.njh_line.specs.LineTable.{table_outcome}
use Rattle.njh_table.specs.Entries.{CustomerEntry}
use Rattle.njh_table.specs.NewRoutes.{NewRoute, route_checked}
use Rattle.njh_customer.specs.declared.given_order.GivenOrder.{GivenOrder}
use Rattle.njh_customer.specs.declared.signal.Signal.{Signal}
use Rattle.njh_customer.specs.Alone.{after_frame, after_signal}
use Rattle.njh_customer.specs.Part.{part_at_open}
use Rattle.njh_customer.specs.Runs.{OwnEvent, OwnBytes, OwnSignal, OwnRoutes, OwnOrder, alone_run}

-- An event, and the frame that it sends on its line.
pub record PlayedEvent : Type 0 where
  pub event : OwnEvent
  pub sent : List (ℕ × List ℕ)

-- no frame is []
abbrev sent_on : ℕ → List ℕ → List (ℕ × List ℕ)
sent_on l [] = []
sent_on l (b ∷ frame) = (l, b ∷ frame) ∷ []

abbrev pub on : ℕ → List ℕ → List ℕ → PlayedEvent
on l piece frame = record { event = OwnBytes l piece; sent = sent_on l frame }

abbrev pub signal : Signal → ℕ → List ℕ → PlayedEvent
signal kind l frame = record { event = OwnSignal kind l; sent = sent_on l frame }

abbrev pub routes : List NewRoute → PlayedEvent
routes given = record { event = OwnRoutes given; sent = [] }

abbrev pub order : GivenOrder → PlayedEvent
order given = record { event = OwnOrder given; sent = [] }

-- A customer of this entry that was just opened sends these frames over these events, and no others.
unfoldable pub Plays : CustomerEntry → List PlayedEvent → Type 0
unfolding
    character_of byte_of_character rest_step data_so_far text_bytes before_run first_item items_past spelling_of streams
    after_source after_sources filled_block file_text table_outcome after_frame
    after_signal route_checked
Plays entry turns = (alone_run (part_at_open entry) (map (λ t. t.event) turns)).sent ≡ flat_map (λ t. t.sent) turns
