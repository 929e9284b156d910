-- A service, and what it leaves.
use Rattle.std.specs.Prelude.{◌≡◌, ℕ, ◌<◌, ◌≤◌, List, length, map, slice_index_or, All, Option, Some, None}
use Rattle.njh_table.specs.declared.LineId.{LineId}
use Rattle.njh_table.specs.TableFile.{TableFile}
use Rattle.njh_hub.specs.Parts.{entries_of}
use Rattle.njh_hub.specs.WholeHub.{Part, hub_run, part_at_open}
use Rattle.njh_turns.specs.Breaks.{ServiceBreaks}
use Rattle.njh_turns.specs.Keeping.{KeeperSays, KeptFile, IsSettled}
use Rattle.njh_turns.specs.Service.{Happening, ArePossible, IsAttended, service_events, service_rounds}
use Rattle.njh_turns.specs.Turns.{hub_wires, moment, no_quiets}
use Rattle.njh_turns.specs.Wires.{WireSays}
use Rattle.njh_wire.specs.Standing.{Standing}
use Rattle.njh_sites.specs.declared.endpoints.Endpoint.{Endpoint}
use Rattle.njh_sites.specs.Endpoints.{endpoints_of, lines_of}
use Rattle.njh_sites.specs.Opened.{IsApart}

-- A hub with its depot, the lines of it that are served, the quiets in a row on each, their wires, and their attendant.
pub record Served (W A D : Type 0) : Type 0 where
  pub hub : List Part
  pub depot : D
  pub lines : List LineId
  pub quiets : List ℕ
  pub wires : List W
  pub attendant : A

-- if the number isn't given, as many as can be counted
abbrev pub turn_count : Option ℕ → ℕ
turn_count None = 18446744073709551615
turn_count (Some turns) = turns

-- So many turns of the lines were taken, or fewer where the attendant ended the service, each line on its own wire, and
-- the hub was told of these, of new routes, of orders and of nothing else.
pub record HasServed {W A D : Type 0} (says : WireSays W) (steers : Type 0) (ended : A → Type 0) (turns : ℕ)
    (old new : Served W A D) : Type 0 where
  pub attended : IsAttended says steers (ended new.attendant) old.lines turns (moment old.hub old.quiets old.wires)
      (moment new.hub new.quiets new.wires)
  pub lines : new.lines ≡ old.lines

-- Such a service that the keeper's fault broke off.
pub record IsBrokenOff {W A D : Type 0} (says : WireSays W) (may_leave : List (List KeptFile) → Type 0)
    (steers : Type 0) (turns : ℕ) (old new : Served W A D) : Type 0 where
  pub breaks : ServiceBreaks says may_leave steers old.lines turns (moment old.hub old.quiets old.wires)
      (hub_wires new.hub new.wires)
  pub lines : new.lines ≡ old.lines

-- A service that was just opened: a hub that was opened so, and these lines of it, no two on one port.
pub record IsOpenedOn {W A D : Type 0} (opened : List Part → Type 0) (endpoints : List Endpoint)
    (service : Served W A D) : Type 0 where
  pub apart : IsApart endpoints
  pub hub : opened service.hub
  pub lines : service.lines ≡ lines_of endpoints
  pub calm : service.quiets ≡ no_quiets (lines_of endpoints)

-- One that was just opened on tables: its lines are those that have a port or a peer.
abbrev pub IsOpened : {W A D : Type 0} → (List Part → Type 0) → TableFile → Served W A D → Type 0
IsOpened opened tables service = IsOpenedOn opened (endpoints_of tables) service

-- each wire has the place of its line
abbrev pub ArePlaced : {C : Type 0} → List (Standing C) → Type 0
ArePlaced {C} wires =
    (place : ℕ) (d : Standing C) → place < length wires → (slice_index_or wires place d).place ≡ place

-- and waits by the rules of its line's protocol
abbrev pub HaveProtocols : {C : Type 0} → List Endpoint → List (Standing C) → Type 0
HaveProtocols endpoints wires = map (λ wire. wire.protocol) wires ≡ map (λ endpoint. endpoint.protocol) endpoints

-- a hub of these tables that has no files
abbrev pub IsOpenedEmpty : TableFile → List Part → Type 0
IsOpenedEmpty tables parts = parts ≡ map part_at_open (entries_of tables)

-- The lines of tables that have a port or a peer had at most so many turns each, and a hub that was opened so was told
-- of these, of new routes, of orders and of nothing else. Of what a socket gave and took nothing is known.
pub record AreServed (opened : List Part → Type 0) (tables : TableFile) (turns : Option ℕ) : Type 0 where
  pub apart : IsApart (endpoints_of tables)
  pub hub : List Part
  pub lines : List LineId
  pub quiets : List ℕ
  pub story : List Happening
  pub hub_of : opened hub
  pub lines_of_tables : lines ≡ lines_of (endpoints_of tables)
  pub calm : quiets ≡ no_quiets (lines_of (endpoints_of tables))
  pub many : length (service_rounds story) ≤ turn_count turns
  pub each : All (λ round. length round ≡ length lines) (service_rounds story)
  pub possible : ArePossible hub lines quiets story

-- what the hub has after its story
abbrev pub parts_served : {opened : List Part → Type 0} {tables : TableFile} {turns : Option ℕ}
    → AreServed opened tables turns → List Part
parts_served served = (hub_run served.hub (service_events served.lines served.quiets served.story)).parts

-- The hub was opened by this depot: with what was kept there, and nothing else could have been left of it then by a
-- crash. At the end the depot keeps what that hub has, and a crash leaves that and nothing else.
pub record AreServedFrom {D : Type 0} (opens : D → D → TableFile → List Part → Type 0) (says : KeeperSays D)
    (depot new_depot : D) (tables : TableFile) (turns : Option ℕ) : Type 0 where
  pub opened : D
  pub served : AreServed (λ parts. opens depot opened tables parts × IsSettled says opened parts) tables turns
  pub kept : IsSettled says new_depot (parts_served served)
