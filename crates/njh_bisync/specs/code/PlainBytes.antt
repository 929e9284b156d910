-- Bytes that are taken, and written, together.
use Rattle.std.specs.Prelude.{ℕ, ◌+◌, ◌==◌, if◌then◌else◌, List, ◌++◌, length, drop, nat_lt, Option, Some, None}
use Rattle.std.specs.List.{position_or_len}
use Rattle.njh_bisync.specs.Limits.{longest_text}
use Rattle.njh_bisync.specs.Frames.{Received}
use Rattle.njh_bisync.specs.Reading.{Rest}
use Rattle.njh_bisync.specs.ByteSteps.{Fed, ahead, feed_outcome}

-- how many bytes come before the first 10, or all if there is none
abbrev pub plain_len : List ℕ → ℕ
plain_len bytes = position_or_len (λ byte. byte == 0x10) bytes

-- the data of a text with more bytes, if they have room
abbrev pub kept_all : Option (List ℕ) → List ℕ → Option (List ℕ)
kept_all None bytes = None
kept_all (Some held) bytes = if nat_lt longest_text (length held + length bytes) then None else Some (held ++ bytes)

-- what is taken of a piece of which so much was taken first, with this frame, or none, and this rest then
abbrev pub fed_on : ℕ → Option Received → Rest → List ℕ → Fed
fed_on n (Some frame) rest piece = record { taken = n; frame = Some frame; rest = rest }
fed_on n None rest piece = ahead n (feed_outcome rest (drop n piece))
