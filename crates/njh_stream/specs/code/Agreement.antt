-- What ties a customer's streams to its partial files: what a stream keeps is what its file's records say.
use Rattle.std.specs.Prelude.{◌≡◌, ℕ, Bool, false, List, Option, Some, None, ◌==◌}
use Rattle.njh_record.specs.declared.Kind.{Kind}
use Rattle.njh_spool.specs.CustomerSpool.{CustomerSpool, PartialFile, partial_numbered}
use Rattle.njh_stream.specs.declared.receiver.Progress.{Progress}
use Rattle.njh_stream.specs.declared.receiver.Progress.TheVariants.{Beginning, JobHeader, Placed}
use Rattle.njh_stream.specs.declared.receiver.Receiver.{Receiver}
use Rattle.njh_stream.specs.declared.receiver.Receiver.TheVariants.{Idle, Open, Draining}
use Rattle.njh_block.specs.Codes.{kind_of}
use Rattle.njh_stream.specs.Receiving.{progress_of}
use Rattle.njh_stream.specs.Streams.{stream_at, coming_file}
use Rattle.njh_stream.specs.code.HeadersSoFar.{ReadsSoFar}

-- there is a partial file of this kind, what is kept is what its records say, and their headers read
abbrev pub AgreesWith : Kind → Progress → Option PartialFile → Type 0
AgreesWith kind progress None = ⊥
AgreesWith kind progress (Some f) =
    (f.kind ≡ kind) × (progress ≡ progress_of kind f.records) × ReadsSoFar kind f.records

-- whether the last record that came is a trailer
abbrev pub ends_whole : Progress → Bool
ends_whole Beginning = false
ends_whole JobHeader = false
ends_whole (Placed node last) = last == 0xd0

-- a stream that is open has a partial file of its kind, and keeps what that says
abbrev pub Agrees : Kind → Receiver → CustomerSpool → Type 0
Agrees kind Idle s = Unit {0}
Agrees kind (Open n progress) s = AgreesWith kind progress (partial_numbered n s)
Agrees kind Draining s = Unit {0}

-- the file of a number comes on one of the streams
pub record Comes (n : ℕ) (lines : List (List Receiver)) : Type 0 where
  pub line : ℕ
  pub stream : ℕ
  pub file : coming_file (stream_at line stream lines) ≡ Some n

-- What ties a customer's streams to its files: each keeps what its partial file says, no two have the same file, and no
-- partial file is without a stream.
pub record AreTied (lines : List (List Receiver)) (s : CustomerSpool) : Type 0 where
  pub agree : (l k : ℕ) → Agrees (kind_of k) (stream_at l k lines) s
  pub apart : (l k m j n : ℕ) → coming_file (stream_at l k lines) ≡ Some n → coming_file (stream_at m j lines) ≡ Some n
      → (l ≡ m) × (k ≡ j)
  pub come : (n : ℕ) (f : PartialFile) → partial_numbered n s ≡ Some f → Comes n lines
