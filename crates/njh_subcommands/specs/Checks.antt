-- What the check of a script says, and why there is none.
use Rattle.std.specs.Prelude.{◌≡◌, ◌⊎◌, ℕ, Bool, false, List, Option, ⊤}
use Rattle.std.specs.Io.KnownBytes.{Appends}
use Rattle.njh_io.specs.Written.{AppendsBeginning}
use Rattle.njh_check.specs.ScriptChecks.{check_words, is_right}
use Rattle.njh_replay.specs.declared.fault.ReplayFault.TheVariants.{TooLong, Script, Device, Hub}
use Rattle.njh_table.specs.TableFile.{TableFile}
use Rattle.njh_subcommands.specs.TableBytes.{AreGiven, AreRefused}
use Rattle.njh_subcommands.specs.TableChecks.{IsTablesBegun, IsTablesTold}
use Rattle.njh_subcommands.specs.declared.failure.Failure.{Failure}
use Rattle.njh_subcommands.specs.declared.failure.Failure.TheVariants.{Arguments, Encode, Found, Replay, Tables, Trace}
use Rattle.njh_subcommands.specs.declared.failure.Failure.TheVariants as failure

-- A script was checked by these tables, and it is right or it isn't: what is said of it came after what had been
-- written; or a beginning of that did. The script is some bytes, since no clause says which a file holds.
abbrev pub IsSaidBy : TableFile → (right : Bool) → (old new : Option (List ℕ)) → Type 0
IsSaidBy tables right old new =
    (text : List ℕ) × (is_right tables text ≡ right) × Appends old new (check_words tables text)

abbrev pub IsBegunBy : TableFile → (old new : Option (List ℕ)) → Type 0
IsBegunBy tables old new = (text : List ℕ) × AppendsBeginning old new (check_words tables text)

-- by the tables if a file is named or none is
abbrev pub IsScriptChecked : {Path : Type 0} → Option Path → (right : Bool) → (old new : Option (List ℕ)) → Type 0
IsScriptChecked path right old new = (tables : TableFile) × AreGiven path tables × IsSaidBy tables right old new

abbrev pub IsScriptBegun : {Path : Type 0} → Option Path → (old new : Option (List ℕ)) → Type 0
IsScriptBegun path old new = (tables : TableFile) × AreGiven path tables × IsBegunBy tables old new

-- What a check of a script finds is that it isn't right, or that the tables have a fault.
abbrev pub FindsBad : {Path : Type 0} → Option Path → (old new : Option (List ℕ)) → Type 0
FindsBad path old new = IsScriptChecked path false old new ⊎ IsTablesTold false old new

abbrev pub FindsInPart : {Path : Type 0} → Option Path → (old new : Option (List ℕ)) → Type 0
FindsInPart path old new = IsScriptBegun path old new ⊎ IsTablesBegun old new

-- Why the check of a script ends otherwise: a bad line was found and said; it is longer than is read; or a device
-- failed, or memory ran out.
abbrev pub IsScriptEnd : Failure → Type 0
IsScriptEnd Found = ⊤
IsScriptEnd (failure.Files fault) = ⊥
IsScriptEnd (failure.Control fault) = ⊥
IsScriptEnd (Tables fault) = ⊥
IsScriptEnd (Replay TooLong) = ⊤
IsScriptEnd (Replay Device) = ⊥
IsScriptEnd (Replay (Hub fault)) = ⊥
IsScriptEnd (Replay (Script number)) = ⊥
IsScriptEnd (Arguments error) = ⊥
IsScriptEnd (Encode end) = ⊥
IsScriptEnd (Trace fault) = ⊥
IsScriptEnd failure.Device = ⊤
IsScriptEnd failure.Memory = ⊤

-- and why by tables that are to be read first: there may be none
abbrev pub IsCheckEnd : {Path : Type 0} → Option Path → Failure → Type 0
IsCheckEnd path (Tables fault) = AreRefused path (Tables fault)
IsCheckEnd path failure = IsScriptEnd failure

-- why the bytes of a script aren't read
abbrev pub IsUnreadScript : Failure → Type 0
IsUnreadScript why = (why ≡ failure.Device) ⊎ (why ≡ failure.Memory) ⊎ (why ≡ Replay TooLong)
