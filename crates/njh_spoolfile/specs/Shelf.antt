-- A store: a connection, and whether an earlier call failed.
use Rattle.std.specs.Prelude.{◌≡◌, Bool, false, IsTrue, refl}
use Rattle.std.specs.Coded.{Coded, code_by, coded×, coded_bool}
use Rattle.sqlite.specs.Store.{Ghosts}
use Rattle.sqlite.specs.State.{State, HasCleanDisk}
use Rattle.sqlite.specs.Held.{Held, held_code, state}
use Rattle.njh_spoolfile.specs.Tables.{spool_schema}

pub record Shelf (S : Type 0) : Type 0 where
  pub conn : Held S
  pub failed : Bool

abbrev pub shelf_code : {S : Type 0} → Coded S → Coded (Shelf S)
shelf_code {S} store = code_by (Held S × Bool) (coded× (held_code store) coded_bool) (λ s. (s.conn, s.failed))
    (λ p. record { conn = p.0; failed = p.1 }) (λ _. refl)

-- what the store shows
abbrev pub shown : {S : Type 0} → Ghosts S → Shelf S → State
shown g s = state g s.conn

-- it is open and has a spool's tables
pub record IsUsable (s : State) : Type 0 where
  pub is_open : IsTrue s.is_open
  pub schema : s.now.schema ≡ spool_schema

pub record IsSafe {S : Type 0} (g : Ghosts S) (conn : Held S) (failed : Bool) : Type 0 where
  pub safe : failed ≡ false → HasCleanDisk (state g conn) → IsUsable (state g conn)
