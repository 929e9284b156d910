-- What is written: a TTB with one TTR (NJE over TCP/IP), and the bytes of a frame on a bisync line.
use Rattle.std.specs.Prelude.{ℕ, ◌+◌, List, [], ◌∷◌, ◌++◌, length, Ok}
use Rattle.byteorder.specs.Endian.{big_bytes}
use Rattle.njh_bisync.specs.Frames as bisync
use Rattle.njh_bisync.specs.Written.{text_bytes}
use Rattle.njh_tcp.specs.Limits.{shortest_ttb, ttr_head}
use Rattle.njh_tcp.specs.Carried.{Carried, Enquiry, Ack0, Text, data_of}
use Rattle.njh_tcp.specs.Blocks.{Ttr, Ttb, bytes_of_ttb}
use Rattle.njh_tcp.specs.Hearing.{Outcome}

-- What isn't looked at is 0.
abbrev pub ttr_holding : List ℕ → Ttr
ttr_holding held = record { head = 0 ∷ 0 ∷ big_bytes 2 (length held); held = held }

abbrev pub ttb_holding : List ℕ → Ttb
ttb_holding held = record {
  head = 0 ∷ 0 ∷ big_bytes 2 (shortest_ttb + (ttr_head + length held)) ++ 0 ∷ 0 ∷ 0 ∷ 0 ∷ [];
  ttrs = ttr_holding held ∷ [];
  end = 0 ∷ 0 ∷ 0 ∷ 0 ∷ [];
}

unfoldable pub framed : List ℕ → List ℕ
framed held = bytes_of_ttb (ttb_holding held)

abbrev pub ttb_bytes : Carried → List ℕ
ttb_bytes carried = framed (data_of carried)

-- that a text is given
abbrev pub text_outcome : List ℕ → Outcome
text_outcome text = Ok (Text text)

-- as it is on a bisync line
abbrev pub line_bytes : Carried → List ℕ
line_bytes Enquiry = 0x01 ∷ 0x2D ∷ []
line_bytes Ack0 = 0x10 ∷ 0x70 ∷ []
line_bytes (Text text) = text_bytes text

-- what a deframer of the line takes it for
abbrev pub frame_of : Carried → bisync.Received
frame_of Enquiry = bisync.Enquiry
frame_of Ack0 = bisync.Ack0
frame_of (Text text) = bisync.Text text
