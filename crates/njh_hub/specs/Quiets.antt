-- How many milliseconds without a byte are a quiet on a line; a tenth quiet in a row is a tick.
use Rattle.std.specs.Prelude.{ℕ, Bool, true, false, List}
use Rattle.njh_table.specs.declared.LineId.{LineId}
use Rattle.njh_table.specs.declared.Role.{Role}
use Rattle.njh_table.specs.declared.Role.TheVariants.{Call, Answer}
use Rattle.njh_line.specs.declared.Phase.{Phase}
use Rattle.njh_line.specs.declared.Phase.TheVariants.{Down, Calling, Answered, SentI, Up}
use Rattle.njh_hub.specs.declared.session_view.SessionView.{SessionView}
use Rattle.njh_hub.specs.Views.{hub_line, line_view}
use Rattle.njh_hub.specs.WholeHub.{Part}

-- Where the hub waits for what its peer is to send. The end that answers waits longer: of two ends that wait for each
-- other, the one that calls asks first, and not both at one moment.
abbrev pub patience : Role → ℕ
patience Call = 200
patience Answer = 250

-- in a session that is up: soon where the turn is the hub's
abbrev pub turn_time : Bool → Role → ℕ
turn_time true role = 100
turn_time false role = patience role

abbrev pub time_in : Phase → Bool → Role → ℕ
time_in Down has_turn role = 100
time_in Calling has_turn role = 100
time_in Answered has_turn role = patience role
time_in SentI has_turn role = patience role
time_in Up has_turn role = turn_time has_turn role

abbrev pub quiet_time : SessionView → ℕ
quiet_time s = time_in s.phase s.has_turn s.role

-- on a line of a hub
abbrev pub quiet_on : LineId → List Part → ℕ
quiet_on id parts = quiet_time (line_view (hub_line id parts).state)
