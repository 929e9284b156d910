-- What one frame does that came, and one that the line wrote.
use Rattle.std.specs.Prelude.{ℕ, List, [], Option, Some, None, Ok, Err}
use Rattle.njh_bisync.specs.Frames.{Received}
use Rattle.njh_tcp.specs.Hearing.{Outcome}
use Rattle.njh_tcp.specs.Written.{line_bytes}
use Rattle.njh_link.specs.Talks.{talk_given}
use Rattle.njh_link.specs.Links.{LinkState, with_written}
use Rattle.njh_link.specs.declared.talk.Talk.{Talk}

abbrev pub bytes_heard : Option Outcome → List ℕ
bytes_heard None = []
bytes_heard (Some (Ok carried)) = line_bytes carried
bytes_heard (Some (Err fault)) = []

abbrev pub talk_heard : Option Outcome → Talk → Talk
talk_heard None talk = talk
talk_heard (Some (Ok carried)) talk = talk_given carried talk
talk_heard (Some (Err fault)) talk = talk

abbrev pub written_once : Option Received → LinkState → LinkState
written_once None s = s
written_once (Some frame) s = with_written frame s
