-- The longest text and the longest frame.
use Rattle.std.specs.Prelude.{ℕ}

-- how many bytes of data a text has at most, each doubled 10 counted once: the product's own limit
abbrev pub longest_text : ℕ
longest_text = 4096

-- how many bytes a frame that is sent has at most: those of the longest text, each doubled, and four of framing
abbrev pub longest_frame : ℕ
longest_frame = 8196
