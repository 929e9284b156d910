-- A visitor's connection.
use Rattle.std.specs.Prelude.{Bool, false}
use Rattle.http_server.specs.History.{new_history, History}

pub record TalkState : Type 0 where
  pub history : History
  -- something came or went since it was looked at last
  pub unseen : Bool

-- nothing has come yet
abbrev pub new_talk : TalkState
new_talk = record { history = new_history; unseen = false }
