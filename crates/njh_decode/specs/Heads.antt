-- What a block control byte and a function control sequence say (IBM SC23-0070, multileaving).
use Rattle.std.specs.Prelude.{ℕ, ◌/◌, ◌%◌, ◌==◌, List, [], ◌++◌, codes, cond}
use Rattle.njh_block.specs.Blocks.{all_suspended, is_on, messages_on, rcb_of}
use Rattle.njh_decode.specs.Words.{label, number_words, stream_words}

-- a stream that may come, by its place
unfoldable pub on_words : ℕ × ℕ → ℕ → List ℕ
on_words fcs s = cond (is_on fcs s) (label (codes " ") ++ stream_words (rcb_of s)) []

-- those of SYSIN
unfoldable pub sysin_words : ℕ × ℕ → List ℕ
sysin_words fcs = on_words fcs 0 ++ on_words fcs 1 ++ on_words fcs 2 ++ on_words fcs 3

-- those of SYSOUT
unfoldable pub sysout_words : ℕ × ℕ → List ℕ
sysout_words fcs = on_words fcs 4 ++ on_words fcs 5 ++ on_words fcs 6 ++ on_words fcs 7

unfoldable pub suspended_words : ℕ × ℕ → List ℕ
suspended_words fcs = cond (all_suspended fcs) (codes ", all suspended") []

unfoldable pub messages_words : ℕ × ℕ → List ℕ
messages_words fcs = cond (messages_on fcs) (codes " messages") (codes " no messages")

-- all of them
unfoldable pub streams_words : ℕ × ℕ → List ℕ
streams_words fcs = label (codes ", on:") ++ sysin_words fcs ++ sysout_words fcs

-- which streams may come, and whether messages may
unfoldable pub fcs_words : ℕ × ℕ → List ℕ
fcs_words fcs = label (suspended_words fcs) ++ streams_words fcs ++ label (messages_words fcs)

-- what the block's count does at its receiver
unfoldable pub numbering_words : ℕ → List ℕ
numbering_words bcb =
    cond (bcb / 16 % 8 == 0) [] (cond (bcb / 16 % 8 == 1) (codes " unchecked") (codes " sets the count"))

unfoldable pub count_words : ℕ → List ℕ
count_words bcb = label (codes "block ") ++ number_words (bcb % 16) ++ label (numbering_words bcb)

unfoldable pub head_words : ℕ → ℕ × ℕ → List ℕ
head_words bcb fcs = count_words bcb ++ fcs_words fcs
